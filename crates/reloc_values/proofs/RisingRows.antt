-- Patches that are apart, in the order of their places, end in that order too.
use Rattle.std.proofs.Common.{◌≡◌, ℕ, ◌<◌, ◌≤◌, Bool, true, false, List, [], ◌∷◌, None, Some, cond, get_or, length, nat_lt, refl, subst, sym, arith}
use Rattle.std.specs.Prelude.{All, AllPairs, IsSome, find}
use Rattle.std.specs.List.Sorted.{IsNonDecreasingBy}
use Rattle.std.proofs.lemmas.Bool.{ltb-false, ltb-true}
use Rattle.std.proofs.lemmas.List.{get_or_default}
use Rattle.std.proofs.lemmas.List.Elements.{All-nil}
use Rattle.std.proofs.lemmas.List.Sorted.{All-permutation}
use Rattle.elf_model.proofs.Finding.{find-none}
use Rattle.elf_model.proofs.Pairs.{AllPairs-nil}
use Rattle.elf_model.proofs.PairsPermuted.{AllPairs-permutation}
use Rattle.reloc_values.proofs.Overlaid.{begun_after, is_covered}
use Rattle.reloc_values.specs.Patches.{AreDisjoint, IsNarrow, IsPatchRow, IsRising, begin_of, covers, end_of}
use Rattle.reloc_values.specs.declared.patch.Patch.{Patch}

-- of two fields that are apart the one that begins first ends before the other begins
ends_first : (p q : Patch) → IsNarrow q → AreDisjoint p q → p.at ≤ q.at → end_of p ≤ end_of q
ends_first p q narrow apart low = by (nat_lt q.at (end_of p)) refl
  where
    by : (t : Bool) → nat_lt q.at (end_of p) ≡ t → end_of p ≤ end_of q
    by true e =
        let some = narrow.some in
        absurd (apart q.at (is_covered q.at p low (ltb-true q.at (end_of p) e)) (is_covered q.at q (omega arith) (omega (arith, some))))
    by false e = let behind = ltb-false q.at (end_of p) e in omega (arith, behind)

ends_rise : (row : List Patch) → All IsNarrow row → AllPairs AreDisjoint row → IsNonDecreasingBy begin_of row → IsNonDecreasingBy end_of row
ends_rise row narrow apart up i j d low high = by (nat_lt i j) refl
  where
    by : (t : Bool) → nat_lt i j ≡ t → end_of (get_or row i d) ≤ end_of (get_or row j d)
    by true e = ends_first (get_or row i d) (get_or row j d) (narrow j d high) (apart i j d (ltb-true i j e) high) (up i j d low high)
    by false e =
        let behind = ltb-false i j e in
        let same : i ≡ j = omega (arith, behind, low) in
        subst (λ (k : ℕ). end_of (get_or row i d) ≤ end_of (get_or row k d)) same (omega arith)

pub rises : (patches row : List Patch) → IsPatchRow patches row → All IsNarrow patches → AllPairs AreDisjoint patches → IsRising row
rises patches row is narrow apart =
    let n = All-permutation IsNarrow patches row is.same narrow in
    let a = AllPairs-permutation AreDisjoint (λ p q h k e f. h k f e) patches row is.same apart in
    record { narrow = n; apart = a; begins = is.ordered; ends = ends_rise row n a is.ordered }

pub none_rise : IsRising []
none_rise = record {
  narrow = All-nil IsNarrow;
  apart = AllPairs-nil AreDisjoint;
  begins = λ i j d low high. absurd (omega (arith, high));
  ends = λ i j d low high. absurd (omega (arith, high));
}

-- no field of a row has a byte before the first one
pub none_earlier : (row : List Patch) (d : Patch) (k : ℕ) → IsRising row → k < (get_or row 0 d).at → find (covers k) row ≡ None
none_earlier row d k rising before =
    find-none (covers k) row
    (λ i x low.
    let first : (get_or row 0 x).at ≤ (get_or row i x).at = rising.begins 0 i x (omega arith) low in
    begun_after k (get_or row 0 x).at (get_or row i x) first
    (subst (λ (p : Patch). k < p.at) (get_or_default row 0 d x (omega (arith, low))) before))

-- and the first field has its own
pub first_has : (row : List Patch) (d : Patch) (k : ℕ) → 0 < length row → (get_or row 0 d).at ≤ k → k < end_of (get_or row 0 d) → IsSome (find (covers k) row)
first_has [] d k some low high = absurd (omega (arith, some))
first_has (p ∷ ps) d k some low high = subst (λ (b : Bool). IsSome (cond b (Some p) (find (covers k) ps))) (sym (is_covered k p low high)) refl
