-- A number is marked where it is among the marked numbers.
use Rattle.std.proofs.Common.{◌≡◌, ℕ, ◌<◌, Bool, true, false, ◌⊎◌, ◌==◌, ◌≤◌, inl, inr, List, get_or, length, ◌∙◌, sym, subst}
use Rattle.std.specs.Prelude.{Contains}
use Rattle.std.specs.List.{list_any, range_with_len}
use Rattle.std.proofs.lemmas.Bool.{cases_lt, eq-eqb, eqb-true, false≢true}
use Rattle.std.proofs.lemmas.List.{get_or_past}
use Rattle.std.proofs.lemmas.List.Folds.{Any-from_list_any, list_any_at}
use Rattle.elf_model.specs.Marks.{is_marked, marked_numbers}
use Rattle.elf_model.proofs.Listed.{Contains-filter, Contains-from_filter}
use Rattle.elf_model.proofs.Numbering.{in_range}
use Rattle.elf_model.proofs.SameOutput.{both_ways_equal}

marked_below : (marks : List Bool) (s : ℕ) → is_marked marks s ≡ true → s < length marks
marked_below marks s e = by (cases_lt s (length marks))
  where
    by : (s < length marks) ⊎ (length marks ≤ s) → s < length marks
    by (inl less) = less
    by (inr past) = absurd (false≢true (sym (get_or_past marks s false past) ∙ e))

pub among_marked : (marks : List Bool) (s : ℕ) → is_marked marks s ≡ list_any (λ k. k == s) (marked_numbers marks)
among_marked marks s = both_ways_equal (is_marked marks s) (list_any (λ k. k == s) (marked_numbers marks)) there back
  where
    there : is_marked marks s ≡ true → list_any (λ k. k == s) (marked_numbers marks) ≡ true
    there e =
        let c = Contains-filter (is_marked marks) (range_with_len 0 (length marks)) s (in_range (length marks) s (marked_below marks s e)) e in
        list_any_at (λ k. k == s) (marked_numbers marks) c.0 s c.1 (eq-eqb (get_or (marked_numbers marks) c.0 s) s c.2)

    back : list_any (λ k. k == s) (marked_numbers marks) ≡ true → is_marked marks s ≡ true
    back e =
        let a = Any-from_list_any (λ k. k == s) (marked_numbers marks) e in
        let same : a.1 ≡ s = eqb-true a.1 s a.4 in
        let c : Contains (marked_numbers marks) s = (a.0, a.2, subst (λ (k : ℕ). get_or (marked_numbers marks) a.0 k ≡ k) same a.3) in
        (Contains-from_filter (is_marked marks) (range_with_len 0 (length marks)) s c).1
