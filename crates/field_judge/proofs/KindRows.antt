-- The code's table of kinds is the definitions' one, and what its rows have.
use Rattle.std.proofs.Common.{◌≡◌, ◌≢◌, ◌⊎◌, ℕ, ◌*◌, ◌<◌, ◌^◌, ◌==◌, ◌&&◌, ◌||◌, inl, inr, Bool, true, false, not, List, [], ◌∷◌, Some, None, refl, subst}
use Rattle.std.specs.Prelude.{Contains, find, option_map}
use Rattle.std.proofs.lemmas.Bool.{and_parts, eqb-true, false≢true}
use Rattle.elf_model.proofs.Finding.{find-found}
use Rattle.elf_model.proofs.Found.{find-map}
use Rattle.elf_model.proofs.Listed.{Contains-cons_cases, Contains-nil}
use Rattle.elf_model.specs.Link.Relocation as relocation
use Rattle.elf_model.specs.Link.Relocation.{IsInRange}
use Rattle.elf_model.specs.Link.Slots.{slot_kind_of}
use Rattle.judge_model.specs.Fields.{foreign_kinds}
use Rattle.memory_judge.specs.Numbers.{IsShown}
use Rattle.field_judge.specs.Kinds.{IsWidth, TellsSlots, formula_view, range_view}
use Rattle.field_judge.specs.declared.kinds.TheConstants.{KINDS}
use Rattle.field_judge.specs.declared.kinds.Formula.{Formula}
use Rattle.field_judge.specs.declared.kinds.Formula.TheVariants as formula
use Rattle.field_judge.specs.declared.kinds.Range.{Range}
use Rattle.field_judge.specs.declared.kinds.Range.TheVariants as range

abbrev pub Row : Type 0
Row = ℕ × ℕ × Formula × Range

abbrev pub row_view : Row → relocation.Kind
row_view r = record { number = r.0; width = r.1; formula = formula_view r.2; range = range_view r.3 }

pub row_found : (n : ℕ) → find (λ k. k.number == n) foreign_kinds ≡ option_map row_view (find (λ r. r.0 == n) KINDS)
row_found n = find-map (λ k. k.number == n) row_view KINDS

-- a row has the width of a field, and where its formula has a slot, one of 8 bytes or of 4 that are a signed number
is_width : ℕ → Bool
is_width w = (w == 1) || ((w == 2) || ((w == 4) || (w == 8)))

abbrev is_signed : Range → Bool
is_signed range.Signed = true
is_signed _ = false

abbrev has_slot : Formula → Bool
has_slot formula.Slot = true
has_slot formula.SlotFromPlace = true
has_slot formula.ThreadSlotFromPlace = true
has_slot _ = false

abbrev tells : ℕ → Range → Bool
tells w r = (w == 8) || ((w == 4) && is_signed r)

abbrev is_lawful : Row → Bool
is_lawful r = is_width r.1 && (not (has_slot r.2) || tells r.1 r.3)

abbrev are_lawful : List Row → Bool
are_lawful [] = true
are_lawful (r ∷ rows) = is_lawful r && are_lawful rows

lawful_there : (rows : List Row) (r : Row) → are_lawful rows ≡ true → Contains rows r → is_lawful r ≡ true
lawful_there [] r all there = absurd (Contains-nil r there)
lawful_there (q ∷ rows) r all there =
    let both = and_parts (is_lawful q) (are_lawful rows) all in
    by (Contains-cons_cases q rows r there) both.0 (λ more. lawful_there rows r both.1 more)
  where
    by : (q ≡ r) ⊎ Contains rows r → is_lawful q ≡ true → (Contains rows r → is_lawful r ≡ true) → is_lawful r ≡ true
    by (inl is) here behind = subst (λ (x : Row). is_lawful x ≡ true) is here
    by (inr more) here behind = behind more

lawful : (n : ℕ) (r : Row) → find (λ q. q.0 == n) KINDS ≡ Some r → is_lawful r ≡ true
unfolding is_width
lawful n r is = lawful_there KINDS r refl (find-found (λ q. q.0 == n) KINDS r is).there

width_of : (w : ℕ) → is_width w ≡ true → IsWidth w
unfolding is_width
width_of w is = by (w == 1) (w == 2) (w == 4) (w == 8) refl refl refl refl is
  where
    by :
        (a b c d : Bool) → (w == 1) ≡ a → (w == 2) ≡ b → (w == 4) ≡ c → (w == 8) ≡ d → (a || (b || (c || d))) ≡ true → IsWidth w
    by true b c d e f g h t = inl (eqb-true w 1 e)
    by false true c d e f g h t = inr (inl (eqb-true w 2 f))
    by false false true d e f g h t = inr (inr (inl (eqb-true w 4 g)))
    by false false false true e f g h t = inr (inr (inr (eqb-true w 8 h)))
    by false false false false e f g h t = absurd (cc)

pub row_width : (n : ℕ) (r : Row) → find (λ q. q.0 == n) KINDS ≡ Some r → IsWidth r.1
row_width n r is = width_of r.1 (and_parts (is_width r.1) (not (has_slot r.2) || tells r.1 r.3) (lawful n r is)).0

told : (w : ℕ) (r : Range) (v : ℕ) → tells w r ≡ true → v < 2 ^ 64 → IsInRange (range_view r) (8 * w) v → IsShown w v
told w r v t low fits = by (w == 8) (w == 4) r refl refl t fits
  where
    by :
        (a b : Bool) (x : Range) → (w == 8) ≡ a → (w == 4) ≡ b → (a || (b && is_signed x)) ≡ true → IsInRange (range_view x) (8 * w) v → IsShown w v
    by true b x e f t fits = inr (eqb-true w 8 e, low)
    by false true range.Signed e f t fits =
        let four = eqb-true w 4 f in
        inl (four, record { signed = subst (λ (n : ℕ). IsInRange (range_view range.Signed) (8 * n) v) four fits; low = low })
    by false true range.Always e f t fits = absurd (false≢true t)
    by false true range.Unsigned e f t fits = absurd (false≢true t)
    by false true range.Either e f t fits = absurd (false≢true t)
    by false false x e f t fits = absurd (false≢true t)

told_by :
    (f : Formula) (w : ℕ) (r : Range) (v : ℕ) → (not (has_slot f) || tells w r) ≡ true →
    slot_kind_of (formula_view f) ≢ None → v < 2 ^ 64 → IsInRange (range_view r) (8 * w) v → IsShown w v
told_by formula.Slot w r v t slot low fits = told w r v t low fits
told_by formula.SlotFromPlace w r v t slot low fits = told w r v t low fits
told_by formula.ThreadSlotFromPlace w r v t slot low fits = told w r v t low fits
told_by formula.Symbol w r v t slot low fits = absurd (slot refl)
told_by formula.SymbolFromPlace w r v t slot low fits = absurd (slot refl)
told_by formula.SymbolFromGot w r v t slot low fits = absurd (slot refl)
told_by formula.GotFromPlace w r v t slot low fits = absurd (slot refl)
told_by formula.Size w r v t slot low fits = absurd (slot refl)
told_by formula.ThreadOffset w r v t slot low fits = absurd (slot refl)

pub row_tells : (n : ℕ) (r : Row) → find (λ q. q.0 == n) KINDS ≡ Some r → TellsSlots (row_view r)
row_tells n r is = record {
  whole = λ v slot low fits.
      told_by r.2 r.1 r.3 v (and_parts (is_width r.1) (not (has_slot r.2) || tells r.1 r.3) (lawful n r is)).1 slot low fits;
}
