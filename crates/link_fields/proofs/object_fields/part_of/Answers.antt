use Rattle.std.proofs.Common.{subst, sym}
use Rattle.std.specs.List.Sorted.{IsNonDecreasingBy}
use Rattle.std.proofs.lemmas.List.Sorted.{IsNonDecreasingBy-take}
use Rattle.link_fields.specs.declared.object_fields.SectionField.{SectionField}
use Rattle.link_fields.proofs.FieldParts.{part_beside}
use Rattle.link_fields.proofs.object_fields.part_of.Goals as goal

pub count_before-requires : goal.count_before-requires
count_before-requires c =
    subst (IsNonDecreasingBy (λ (f : SectionField). f.section)) (sym c.split_at.ensures.front)
    (IsNonDecreasingBy-take (λ (f : SectionField). f.section) c.count_through.result c.args.row.now c.requires)

pub returns : goal.returns
returns c =
    part_beside c.args.row.now c.split_at.result.0.now c.split_at-2.result.1.now c.args.section c.count_before.result c.count_through.result
    c.split_at.ensures.front c.split_at-2.ensures.back c.count_before.ensures.before c.count_before.ensures.from
    c.count_through.ensures.through c.count_through.ensures.behind
