use Rattle.std.proofs.Common.{rules}
use Rattle.std.proofs.lemmas.List.Sorted.{IsNonDecreasingBy-from_sort_by_key}
use Rattle.order_judge.specs.declared.member_names.MemberName.{MemberName}
use Rattle.order_judge.proofs.member_names.by_offset.Goals as goal

pub returns-clause-rising : goal.returns-clause-rising
returns-clause-rising c =
    IsNonDecreasingBy-from_sort_by_key (λ (n : MemberName). n.offset) _ c.in_ok-sort_by_key.ensures.sorted (λ a r q k. search rules)
