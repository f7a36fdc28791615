use Rattle.std.proofs.Common.{rules}
use Rattle.std.proofs.lemmas.List.Sorted.{IsNonDecreasingBy-from_sort_by_key}
use Rattle.symbol_judge.specs.declared.stretches.Stretch.{Stretch}
use Rattle.symbol_judge.proofs.stretches.by_start.Goals as goal

pub returns-clause-rising : goal.returns-clause-rising
returns-clause-rising c =
    IsNonDecreasingBy-from_sort_by_key (λ (s : Stretch). s.from) _ c.in_ok-sort_by_key.ensures.sorted (λ a r q k. search rules)
