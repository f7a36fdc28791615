use Rattle.std.proofs.Common.{rules}
use Rattle.std.proofs.lemmas.List.Sorted.{IsNonDecreasingBy-from_sort_by_key}
use Rattle.input_judge.specs.declared.whole_code.Point.{Point}
use Rattle.input_judge.proofs.whole_code.sorted.Goals as goal

pub returns-clause-rising : goal.returns-clause-rising
returns-clause-rising c =
    IsNonDecreasingBy-from_sort_by_key (λ (x : Point). x.key) _ c.in_ok-sort_by_key.ensures.sorted (λ a r q k. search rules)
