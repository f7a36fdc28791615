-- The bytes of a GOT, and whether memory holds them.
use Rattle.std.proofs.Common.{◌≡◌, ℕ, ◌+◌, ◌*◌, ◌<◌, ◌≤◌, ◌⊎◌, inl, inr, Bool, List, [], ◌∷◌, ◌++◌, append_assoc, get_or, length, length-append, map, replicate, refl, sym, ◌∙◌, ap, subst, arith}
use Rattle.std.specs.Prelude.{◌↔◌, All, IsTrue, Some, slice_index}
use Rattle.std.specs.List.{flat_map}
use Rattle.std.proofs.lemmas.List.{get_or_past, length-map}
use Rattle.std.proofs.lemmas.List.Elements.{All-cons, All-tail}
use Rattle.byteview.proofs.NumberLaws.{length-le_bytes}
use Rattle.elf_model.specs.Link.Loading.{LoadedObject}
use Rattle.elf_model.specs.Image.MapRecord.{SlotRow}
use Rattle.linkmap.specs.Borrowed.{slot_row}
use Rattle.elf_model.specs.Link.Placement.{Where}
use Rattle.elf_model.specs.Image.RightLink.{HoldsGot, StandFrom}
use Rattle.elf_model.specs.Link.Slots.{got_bytes, size_with, slot_bytes, slot_value}
use Rattle.elf_model.specs.declared.link_map.GotLine.{GotLine}
use Rattle.linkmap.specs.declared.borrowed.BorrowedSlot.{BorrowedSlot}
use Rattle.elf_model.proofs.Rests.{Left}
use Rattle.checker.specs.Got.{HoldsBytes}
use Rattle.check_link.proofs.Padded.{SamePadded, below_or_not}
use Rattle.check_link.proofs.SlotSteps.{rows_from, rows_more}

-- a claim on all that are left, where the first of them passes
pub first_passes :
    {X : Type 0} (Q : Type 0) (P : X → Type 0) (left rest : List X) (x : X) → left ≡ x ∷ rest → P x → Left Q (All P left) → Left Q (All P rest)
first_passes Q P left rest x is here q = (
  λ h. All-tail P x rest (subst (All P) is (q.0 h)),
  λ r. q.1 (subst (All P) (sym is) (All-cons P x rest here r)),
)

-- the bytes of one slot more
pub bytes_more :
    (f : SlotRow → List ℕ) (lines : List BorrowedSlot) (i : ℕ) (line : BorrowedSlot) → i < length lines → line ≡ get_or lines i line →
    (old new all : List ℕ) → new ≡ old ++ f (slot_row line) → old ++ flat_map f (rows_from lines i) ≡ all → new ++ flat_map f (rows_from lines (i + 1)) ≡ all
bytes_more f lines i line within read old new all grown whole =
    ap (λ (bs : List ℕ). bs ++ flat_map f (rows_from lines (i + 1))) grown
    ∙ append_assoc old (f (slot_row line)) (flat_map f (rows_from lines (i + 1)))
    ∙ sym (ap (λ (rows : List SlotRow). old ++ flat_map f rows) (rows_more lines i line within read))
    ∙ whole

-- runs that are equal, one of which is what is held at an address, as far as the other goes
pub held_alike :
    (a b : List ℕ) (held : ℕ → ℕ) (t : Bool) → length a ≤ length b → ((k : ℕ) → k < length b → held k ≡ slice_index a k) →
    (IsTrue t ↔ SamePadded a b) → IsTrue t ↔ ((k : ℕ) → k < length b → held k ≡ slice_index b k)
held_alike a b held t short same told = (
  λ e k low. same k low ∙ told.0 e k,
  λ h. told.1 (λ k. by h k (below_or_not k (length b))),
)
  where
    by : ((k : ℕ) → k < length b → held k ≡ slice_index b k) → (k : ℕ) → (k < length b) ⊎ (length b ≤ k) → slice_index a k ≡ slice_index b k
    by h k (inl low) = sym (same k low) ∙ h k low
    by h k (inr past) = get_or_past a k 0 (omega (arith, short, past)) ∙ sym (get_or_past b k 0 past)

module _ (objects : List LoadedObject) (w : Where) where
  slots_length : (rows : List SlotRow) → length (flat_map (slot_bytes objects w) rows) ≡ 8 * length rows
  slots_length [] = refl
  slots_length (row ∷ rows) =
      let n = length-append (slot_bytes objects w row) (flat_map (slot_bytes objects w) rows) in
      let m = length-le_bytes 8 (slot_value objects w row.kind row.target) in
      let rest = slots_length rows in
      omega (arith, n, m, rest)

  -- the bytes of a GOT are as many as its size
  pub bytes_length :
      (size : ℕ) (lines : List BorrowedSlot) (wanted : List ℕ) → size ≡ size_with (length lines) →
      wanted ≡ replicate 8 0 ++ flat_map (slot_bytes objects w) (map slot_row lines) → length wanted ≡ size
  bytes_length size lines wanted is are =
      let n = ap (length {A = ℕ}) are in
      let m = length-append (replicate 8 0) (flat_map (slot_bytes objects w) (map slot_row lines)) in
      let s = slots_length (map slot_row lines) in
      let l = length-map lines slot_row in
      omega (arith, n, m, s, l, is)

  -- memory holds a GOT where it holds its bytes, and size and places are right
  pub got_held :
      (image : List ℕ) (got : GotLine) (lines : List BorrowedSlot) (wanted : List ℕ) (t : Bool) → map slot_row lines ≡ w.slots →
      got.size ≡ size_with (length lines) → StandFrom (got.address + 8) (map slot_row lines) →
      wanted ≡ replicate 8 0 ++ flat_map (slot_bytes objects w) (map slot_row lines) →
      (IsTrue t ↔ HoldsBytes image got.address wanted) → IsTrue t ↔ HoldsGot objects w image got
  got_held image got lines wanted t slots size stand are told = (
    λ e. record {
      size = let l = length-map lines slot_row in let m = ap (length {A = SlotRow}) slots in omega (arith, size, l, m);
      places = subst (StandFrom (got.address + 8)) slots stand;
      bytes = λ k low. told.0 e k (omega (arith, low, long)) ∙ ap (λ (bs : List ℕ). Some (slice_index bs k)) whole;
    },
    λ h. told.1 (λ k low. h.bytes k (omega (arith, low, long)) ∙ sym (ap (λ (bs : List ℕ). Some (slice_index bs k)) whole)),
  )
    where
      long : length wanted ≡ got.size
      long = bytes_length got.size lines wanted size are

      whole : wanted ≡ got_bytes objects w
      whole = are ∙ ap (λ (rows : List SlotRow). replicate 8 0 ++ flat_map (slot_bytes objects w) rows) slots
