use Rattle.std.proofs.Common.{ℕ, rules}
use Rattle.std.proofs.lemmas.List.Sorted.{IsNonDecreasingBy-from_sort_by_key}
use Rattle.frame_judge.proofs.addresses.rising_addresses.Goals as goal

pub returns-clause-rising : goal.returns-clause-rising
returns-clause-rising c =
    IsNonDecreasingBy-from_sort_by_key (λ (a : ℕ). a) _ c.in_ok-sort_by_key.ensures.sorted (λ a r q k. search rules)
