use Rattle.std.proofs.Common.{◌≡◌, ◌++◌, drop}
use Rattle.layout.specs.Groups.{parts}
use Rattle.placing.specs.Views.{borrowed_views}
use Rattle.layout.proofs.output_sections.add_part.Given as goal

abbrev pub invariant-loop-group : goal.invariant-loop-group
invariant-loop-group l =
    borrowed_views l.out.items ++ parts l.part (drop l.group-index l.groups) ≡ borrowed_views l.fn.out.items ++ parts l.part l.groups
