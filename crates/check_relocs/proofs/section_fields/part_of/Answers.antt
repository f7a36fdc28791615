use Rattle.std.proofs.Common.{sym, subst}
use Rattle.std.specs.Prelude.{AllPairs}
use Rattle.std.specs.List.Sorted.{IsNonDecreasingBy}
use Rattle.std.proofs.lemmas.List.Sorted.{IsNonDecreasingBy-take}
use Rattle.check_relocs.specs.Bytes.{EndsBefore}
use Rattle.check_relocs.specs.declared.fields.Field.{Field}
use Rattle.check_relocs.proofs.SectionParts.{by_section, part_is, section_rises}
use Rattle.check_relocs.proofs.section_fields.part_of.Goals as goal

pub count_through-requires : goal.count_through-requires
count_through-requires c = by_section c.args.row.now c.requires

pub count_before-requires : goal.count_before-requires
count_before-requires c =
    subst (IsNonDecreasingBy (λ (f : Field). f.section)) (sym c.split_at.ensures.front)
    (IsNonDecreasingBy-take (λ (f : Field). f.section) c.count_through.result c.args.row.now (by_section c.args.row.now c.requires))

pub returns-clause-fields : goal.returns-clause-fields
returns-clause-fields c =
    part_is c.args.row.now c.split_at.result.0.now c.split_at-2.result.1.now c.args.section c.count_before.result c.count_through.result
    c.split_at.ensures.front c.split_at-2.ensures.back c.count_before.ensures.before c.count_before.ensures.from
    c.count_through.ensures.through c.count_through.ensures.behind

pub returns-clause-rising : goal.returns-clause-rising
returns-clause-rising c =
    subst (AllPairs EndsBefore) (sym (returns-clause-fields c)) (section_rises c.args.section c.args.row.now c.requires)
