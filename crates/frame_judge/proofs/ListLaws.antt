-- The linker's list of call frames.
use Rattle.std.proofs.Common.{◌≡◌, ◌==◌, ◌^◌, ℕ, Bool, true, List, Option, None, Some, false, length, not, refl, subst, sym, arith}
use Rattle.std.specs.Prelude.{◌+◌, ◌-◌, ◌<◌, ◌≤◌, ◌↔◌, All, Contains, IfSome, IsPermutation, IsSomeAnd, find, slice_index_or}
use Rattle.std.proofs.lemmas.Bool.{eqb-true, false_from_ne_true, false≢true}
use Rattle.std.proofs.lemmas.List.Elements.{All-weaker}
use Rattle.std.proofs.lemmas.List.Sorted.{Contains-permutation, IsPermutation-sym}
use Rattle.elf_model.proofs.Finding.{IsFound, find-found, find-none}
use Rattle.elf_model.specs.Link.Pieces.{Piece}
use Rattle.call_frames.specs.Order.{AreInOrder, IsPlaced}
use Rattle.judge_model.specs.Certificates.{merged_at}
use Rattle.judge_model.specs.Frames.{IsCopied, IsCopy, IsCut, HasCopyAt, record_with, records_of}
use Rattle.judge_model.specs.declared.certificate.MergedLine.{MergedLine}
use Rattle.judge_model.specs.declared.frame_record.FrameRecord.{FrameRecord}

-- what isn't so
pub not_to : (b : Bool) → not b ≡ true → b ≡ true → ⊥
not_to true n t = false≢true n
not_to false n t = false≢true t

pub not_from : (b : Bool) → (b ≡ true → ⊥) → not b ≡ true
not_from true never = absurd (never refl)
not_from false never = refl

-- no record begins behind all addresses
pub far_none :
    (list : List ℕ) (offset : ℕ) (rs : List FrameRecord) → rs ≡ records_of list → AreInOrder (length list) rs → length list < 2 ^ 64 → 2 ^ 64 ≤ offset →
    record_with list offset ≡ None
far_none list offset rs same order fits high =
    subst (λ (xs : List FrameRecord). find (λ r. r.offset == offset) xs ≡ None) same
    (find-none (λ (r : FrameRecord). r.offset == offset) rs
    (All-weaker (IsPlaced (length list)) (λ r. (r.offset == offset) ≡ false)
    (λ r placed. let inside = placed.inside in false_from_ne_true (r.offset == offset) (λ e. let at = eqb-true r.offset offset e in omega (arith, at, inside, fits, high))) rs order.placed))

-- what is found is among the records
pub there_of : (offset : ℕ) (rs : List FrameRecord) (o : Option FrameRecord) → o ≡ find (λ r. r.offset == offset) rs → IfSome o (λ t. Contains rs t)
there_of offset rs None e = tt
there_of offset rs (Some t) e = found_in (find-found (λ (r : FrameRecord). r.offset == offset) rs t (sym e))
  where
    found_in : IsFound (λ (r : FrameRecord). r.offset == offset) rs t → Contains rs t
    found_in f = f.there

-- addresses in another order are the same addresses
pub listed :
    (xs ys vs : List ℕ) (address : ℕ) (rs : List FrameRecord) → IsPermutation xs ys → vs ≡ ys →
    All (λ t. Contains vs (address + t.offset)) rs ↔ All (λ t. Contains xs (address + t.offset)) rs
listed xs ys vs address rs same is = (
  λ all.
      All-weaker (λ (t : FrameRecord). Contains vs (address + t.offset)) (λ t. Contains xs (address + t.offset))
      (λ t h. Contains-permutation ys xs (address + t.offset) (IsPermutation-sym xs ys same) (subst (λ (zs : List ℕ). Contains zs (address + t.offset)) is h)) rs all,
  λ all.
      All-weaker (λ (t : FrameRecord). Contains xs (address + t.offset)) (λ t. Contains vs (address + t.offset))
      (λ t h. subst (λ (zs : List ℕ). Contains zs (address + t.offset)) (sym is) (Contains-permutation xs ys (address + t.offset) same h)) rs all,
)

-- Copies, by two ways to tell which bytes are beside places.
module _ (lines : List MergedLine) (B C : ℕ → Type 0) (same : (k : ℕ) → B k ↔ C k) (p : Piece) where
  cut : (r : FrameRecord) (size : ℕ) → IsCut B p.bytes r size → IsCut C p.bytes r size
  cut r size h = (h.0, λ k low high. (same (r.offset + k)).0 (h.1 k low high))

  copy : (list : List ℕ) (r : FrameRecord) (a : ℕ) (t : FrameRecord) → IsCopy lines B list p r a t → IsCopy lines C list p r a t
  copy list r a t h = record {
    number = h.number;
    begins = λ f. let b = h.begins f in (b.0, λ beside. b.1 ((same (r.offset + 8)).1 beside));
    same = λ k low high inside beside. h.same k low high inside ((same (r.offset + k)).1 beside);
    zeros = h.zeros;
    cut = λ short. cut r t.size (h.cut short);
  }

  some_copy :
      (list : List ℕ) (r : FrameRecord) (a : ℕ) (o : Option FrameRecord) → IsSomeAnd o (IsCopy lines B list p r a) →
      IsSomeAnd o (IsCopy lines C list p r a)
  some_copy list r a None never = never
  some_copy list r a (Some t) h = copy list r a t h

  has_copy :
      (address : ℕ) (list : List ℕ) (r : FrameRecord) (o : Option ℕ) → IfSome o (HasCopyAt lines B address list p r) →
      IfSome o (HasCopyAt lines C address list p r)
  has_copy address list r None h = tt
  has_copy address list r (Some a) h = (h.0, some_copy list r a (record_with list (a - address)) h.1)

  pub copied : (address : ℕ) (list : List ℕ) → IsCopied lines B address list p → IsCopied lines C address list p
  copied address list all k d low =
      let r = slice_index_or (records_of p.bytes) k d in
      has_copy address list r (merged_at lines p.object p.section r.offset) (all k d low)
