-- The part of a row that two counts tell is what a test of sections keeps.
use Rattle.std.proofs.Common.{◌≡◌, ℕ, ◌+◌, ◌<◌, ◌≤◌, ◌⊎◌, inl, inr, true, false, List, [], ◌++◌, get_or, length, take, drop, sym, ap, subst, ◌∙◌, arith, length-take, length-drop}
use Rattle.std.specs.Prelude.{All, AllPairs, filter}
use Rattle.std.specs.List.Sorted.{IsNonDecreasingBy}
use Rattle.std.proofs.lemmas.Bool.{eq-eqb, eqb-true, ne_eqb}
use Rattle.std.proofs.lemmas.List.{append-nil, get_or-drop, get_or-take, take-append-drop}
use Rattle.std.proofs.lemmas.List.Elements.{filter-append, filter_passes}
use Rattle.std.proofs.lemmas.List.Kept.{AllPairs-filter}
use Rattle.elf_model.proofs.Finding.{filter-all, filter-none}
use Rattle.check_relocs.specs.Bytes.{EndsBefore, is_of}
use Rattle.check_relocs.specs.Fields.{IsBefore}
use Rattle.check_relocs.specs.declared.fields.Field.{Field}
use Rattle.check_link.proofs.Padded.{below_or_not}

-- what stands at each place of the front and of the rest of a list
front_all : {X : Type 0} (P : X → Type 0) (xs : List X) (n : ℕ) → ((k : ℕ) (d : X) → k < n → P (get_or xs k d)) → All P (take n xs)
front_all {X} P xs n each k d low =
    let l = length-take n xs in
    subst P (sym (get_or-take n xs k d (omega (arith, low, l)))) (each k d (omega (arith, low, l)))

rest_all :
    {X : Type 0} (P : X → Type 0) (xs : List X) (n : ℕ) → ((k : ℕ) (d : X) → n ≤ k → k < length xs → P (get_or xs k d)) → All P (drop n xs)
rest_all {X} P xs n each k d low =
    let l = length-drop n xs in
    subst P (sym (get_or-drop n xs k d)) (each (n + k) d (omega arith) (omega (arith, low, l)))

pub part_is :
    (xs through part : List Field) (s low high : ℕ) → through ≡ take high xs → part ≡ drop low through →
    ((k : ℕ) (d : Field) → k < low → (get_or through k d).section < s) →
    ((k : ℕ) (d : Field) → low ≤ k → k < length through → s ≤ (get_or through k d).section) →
    ((k : ℕ) (d : Field) → k < high → (get_or xs k d).section ≤ s) →
    ((k : ℕ) (d : Field) → high ≤ k → k < length xs → s < (get_or xs k d).section) →
    part ≡ filter (is_of s) xs
part_is xs through part s low high through_is part_at early from until late =
    part_at
    ∙ (sym kept
    ∙ (ap (λ (ys : List Field). ys ++ filter (is_of s) (drop low through)) (sym none_early)
    ∙ (sym (filter-append (is_of s) (take low through) (drop low through))
    ∙ (ap (filter (is_of s)) (take-append-drop low through)
    ∙ (ap (filter (is_of s)) through_is
    ∙ (sym (append-nil (filter (is_of s) (take high xs)))
    ∙ (ap (λ (ys : List Field). filter (is_of s) (take high xs) ++ ys) (sym none_late)
    ∙ (sym (filter-append (is_of s) (take high xs) (drop high xs)) ∙ ap (filter (is_of s)) (take-append-drop high xs)))))))))
  where
    none_early : filter (is_of s) (take low through) ≡ []
    none_early =
        filter-none (is_of s) (take low through)
        (front_all (λ (f : Field). is_of s f ≡ false) through low (λ k d l. ne_eqb (get_or through k d).section s (λ e. let b = early k d l in omega (arith, b, e))))

    none_late : filter (is_of s) (drop high xs) ≡ []
    none_late =
        filter-none (is_of s) (drop high xs)
        (rest_all (λ (f : Field). is_of s f ≡ false) xs high (λ k d l w. ne_eqb (get_or xs k d).section s (λ e. let b = late k d l w in omega (arith, b, e))))

    through_all : (k : ℕ) (d : Field) → k < length through → (get_or through k d).section ≤ s
    through_all k d w =
        let n = length-take high xs in
        let m = ap (length {A = Field}) through_is in
        let e : get_or through k d ≡ get_or xs k d = ap (λ (ys : List Field). get_or ys k d) through_is ∙ get_or-take high xs k d (omega (arith, w, n, m)) in
        subst (λ (f : Field). f.section ≤ s) (sym e) (until k d (omega (arith, w, n, m)))

    kept : filter (is_of s) (drop low through) ≡ drop low through
    kept =
        filter-all (is_of s) (drop low through)
        (rest_all (λ (f : Field). is_of s f ≡ true) through low
        (λ k d l w. eq-eqb (get_or through k d).section s (let a = from k d l w in let b = through_all k d w in omega (arith, a, b))))

-- a row of which each field ends before all later ones begin stands by section
pub by_section : (xs : List Field) → AllPairs IsBefore xs → IsNonDecreasingBy (λ f. f.section) xs
by_section xs pairs i j d low high = by (below_or_not i j)
  where
    of : IsBefore (get_or xs i d) (get_or xs j d) → (get_or xs i d).section ≤ (get_or xs j d).section
    of (inl less) = omega (arith, less)
    of (inr same) = omega (arith, same.0)

    by : (i < j) ⊎ (j ≤ i) → (get_or xs i d).section ≤ (get_or xs j d).section
    by (inl less) = of (pairs i j d less high)
    by (inr same) = let e : i ≡ j = omega (arith, low, same) in subst (λ (k : ℕ). (get_or xs i d).section ≤ (get_or xs k d).section) e (omega arith)

-- those of one section end each before the next begins
pub section_rises : (s : ℕ) (xs : List Field) → AllPairs IsBefore xs → AllPairs EndsBefore (filter (is_of s) xs)
section_rises s xs pairs i j d low high =
    of (AllPairs-filter IsBefore (is_of s) xs pairs i j d low high)
    (eqb-true (get_or (filter (is_of s) xs) i d).section s (filter_passes (is_of s) xs i d (omega (arith, low, high))))
    (eqb-true (get_or (filter (is_of s) xs) j d).section s (filter_passes (is_of s) xs j d high))
  where
    of :
        IsBefore (get_or (filter (is_of s) xs) i d) (get_or (filter (is_of s) xs) j d) →
        (get_or (filter (is_of s) xs) i d).section ≡ s → (get_or (filter (is_of s) xs) j d).section ≡ s →
        EndsBefore (get_or (filter (is_of s) xs) i d) (get_or (filter (is_of s) xs) j d)
    of (inl less) e f = absurd (omega (arith, less, e, f))
    of (inr same) e f = same.1
