use Rattle.std.proofs.Common.{subst, sym}
use Rattle.std.specs.List.Sorted.{IsNonDecreasingBy}
use Rattle.std.proofs.lemmas.List.Sorted.{IsNonDecreasingBy-take}
use Rattle.order_judge.specs.declared.member_names.MemberName.{MemberName}
use Rattle.order_judge.proofs.NameLaws.{part_filtered}
use Rattle.order_judge.proofs.member_names.names_at.Goals as goal

pub count_before-requires : goal.count_before-requires
count_before-requires c =
    subst (IsNonDecreasingBy (λ (n : MemberName). n.offset)) (sym c.split_at.ensures.front)
    (IsNonDecreasingBy-take (λ (n : MemberName). n.offset) c.count_through.result c.args.names.now c.requires)

pub returns : goal.returns
returns c =
    part_filtered c.args.names.now c.split_at.result.0.now c.split_at-2.result.1.now c.args.offset c.count_before.result c.count_through.result
    c.split_at.ensures.front c.split_at-2.ensures.back c.count_before.ensures.before c.count_before.ensures.from
    c.count_through.ensures.through c.count_through.ensures.behind
