use Rattle.std.proofs.Common.{sym, ◌∙◌, ap}
use Rattle.placing.specs.Views.{borrowed_views}
use Rattle.layout.proofs.ArraySteps.{as_they_are}
use Rattle.layout.proofs.PartSteps.{group_behind}
use Rattle.layout.proofs.output_sections.add_group.Goals as goal

pub returns-then-not-any_numbered : goal.returns-then-not-any_numbered
returns-then-not-any_numbered c =
    group_behind c.args.out.now.items c.extend_from_slice.new.self.items c.args.group.now c.args.group.now c.args.part c.in-Some.first.now
    c.in_ok-extend_from_slice.ensures.items (sym c.in-Some.ensures.value) (sym c.is_of_part.ensures ∙ c.if-not-is_of_part.false)
    (as_they_are (borrowed_views c.args.group.now) (sym c.any_numbered.ensures ∙ c.if-not-any_numbered.true))

pub returns : goal.returns
returns c =
    group_behind c.args.out.now.items c.extend_from_slice-2.new.self.items c.as_slice.result.now c.args.group.now c.args.part c.in-Some.first.now
    c.in_ok-extend_from_slice-2.ensures.items (sym c.in-Some.ensures.value) (sym c.is_of_part.ensures ∙ c.if-not-is_of_part.false)
    (ap borrowed_views c.as_slice.ensures.value ∙ c.in_ok-sorted.ensures)
