-- Areas, which come by rising addresses: which one has what a line says.
use Rattle.std.proofs.Common.{◌≡◌, Bool, ℕ, ◌+◌, ◌<◌, ◌≤◌, ◌⊎◌, inl, inr, true, List, length, get_or, sym, ap, subst, ◌∙◌, arith}
use Rattle.std.specs.Prelude.{◌↔◌, All, Any}
use Rattle.std.specs.List.Sorted.{IsPartitionedBy}
use Rattle.std.proofs.lemmas.Bool.{cases_lt, cases_order, le-leb, leb-true}
use Rattle.std.proofs.lemmas.List.Elements.{All-get_or, All-weaker}
use Rattle.elf_model.specs.Image.MapText.{Ascends}
use Rattle.elf_model.specs.Image.MemoryImage.{Encloses, loads}
use Rattle.elf_model.specs.declared.records.ProgramHeader.{ProgramHeader}
use Rattle.judge_model.specs.Certificates.{StretchBefore}
use Rattle.judge_model.specs.Headers.{IsLoad, IsProgram}
use Rattle.judge_model.specs.Merged.{HoldsArea, IsWithin}
use Rattle.judge_model.specs.declared.certificate.MergedLine.{MergedLine}
use Rattle.judge_model.specs.declared.certificate.StretchLine.{StretchLine}
use Rattle.link_fields.proofs.Rising.{later_in}
use Rattle.merge_judge.specs.Areas.{ends_by}
use Rattle.merge_judge.specs.Lines.{AreEnclosed}

joined : (p q r : StretchLine) → StretchBefore p q → StretchBefore q r → StretchBefore p r
joined p q r a b = omega (arith, a, b)

pub later_area :
    (xs : List StretchLine) → Ascends StretchBefore xs → (i j : ℕ) (d : StretchLine) → i < j → j < length xs →
    StretchBefore (get_or xs i d) (get_or xs j d)
later_area xs up i j d order within = later_in StretchBefore joined xs up i j d order within

pub parted : (at : ℕ) (xs : List StretchLine) → Ascends StretchBefore xs → IsPartitionedBy (ends_by at) xs
parted at xs up i j d order within before = by (cases_lt i j)
  where
    by : (i < j) ⊎ (j ≤ i) → ends_by at (get_or xs i d) ≡ true
    by (inl earlier) =
        let apart = later_area xs up i j d earlier within in
        let end = leb-true ((get_or xs j d).address + (get_or xs j d).size) at before in
        le-leb ((get_or xs i d).address + (get_or xs i d).size) at (omega (arith, apart, end))
    by (inr same_place) = let e : j ≡ i = omega (arith, order, same_place) in subst (λ (k : ℕ). ends_by at (get_or xs k d) ≡ true) e before

module _ (m : MergedLine) (some : 0 < m.size) (xs : List StretchLine) (up : Ascends StretchBefore xs) (i : ℕ) (ended : (k : ℕ) (d : StretchLine) → k < i → (get_or xs k d).address + (get_or xs k d).size ≤ m.address) (not_yet : (k : ℕ) (d : StretchLine) → i ≤ k → k < length xs → m.address < (get_or xs k d).address + (get_or xs k d).size) where
  only_here : (k : ℕ) (d : StretchLine) → k < length xs → IsWithin m (get_or xs k d) → k ≡ i
  only_here k d within has = by (cases_order k i)
    where
      by : (k ≡ i) ⊎ ((k < i) ⊎ (i < k)) → k ≡ i
      by (inl same) = same
      by (inr (inl early)) = absurd (let end = ended k d early in let in_it = has.1 in omega (arith, end, in_it, some))
      by (inr (inr late)) =
          absurd
          (let before = later_area xs up i k d late within in
          let open_ = not_yet i d (omega arith) (omega (arith, late, within)) in
          let begun = has.0 in omega (arith, before, open_, begun))

  pub here : (a : StretchLine) → i < length xs → ((d : StretchLine) → a ≡ get_or xs i d) → IsWithin m a ↔ Any (IsWithin m) xs
  here a low is = (
    λ has. (i, a, low, sym (is a), has),
    λ some_has.
        let k = some_has.0 in
        let x = some_has.1 in
        let within = some_has.2 in
        let at = some_has.3 in
        let same = only_here k x within (subst (IsWithin m) (sym at) some_has.4) in
        subst (IsWithin m) (sym at ∙ (ap (λ (j : ℕ). get_or xs j x) same ∙ sym (is x))) some_has.4,
  )

  pub none : length xs ≤ i → Any (IsWithin m) xs → ⊥
  none end has =
      let k = has.0 in
      let within = has.2 in
      let same = only_here k has.1 within (subst (IsWithin m) (sym has.3) has.4) in
      omega (arith, same, within, end)

-- an area in the file part of a program's segment is in its memory
fits : (len : ℕ) (anyway : Bool) (a : StretchLine) (h : ProgramHeader) → IsLoad len h → HoldsArea anyway a h → Encloses h a.address a.size
fits len anyway a h good holds =
    (holds.inside.0, let end = holds.inside.1 in let part = good.file_in_memory in omega (arith, end, part))

fits_some : (len : ℕ) (anyway : Bool) (hs : List ProgramHeader) → All (IsLoad len) hs → (a : StretchLine) → Any (HoldsArea anyway a) hs →
    Any (λ h. Encloses h a.address a.size) hs
fits_some len anyway hs good a (k, h, low, at, holds) =
    (k, h, low, at, fits len anyway a h (subst (IsLoad len) at (All-get_or (IsLoad len) hs k h low good)) holds)

pub areas_fit : (image : List ℕ) (anyway : Bool) (areas : List StretchLine) → IsProgram image → All (λ a. Any (HoldsArea anyway a) (loads image)) areas →
    AreEnclosed image areas
areas_fit image anyway areas program held =
    All-weaker (λ (a : StretchLine). Any (HoldsArea anyway a) (loads image)) (λ (a : StretchLine). Any (λ h. Encloses h a.address a.size) (loads image))
    (λ a some. fits_some (length image) anyway (loads image) program.loads_are.each a some) areas held
