use Rattle.std.specs.Prelude.{◌≡◌, ◌++◌, [], replicate}
use Rattle.layout.specs.Groups.{group_views}
use Rattle.layout.proofs.output_sections.add_groups.Given as goal

abbrev pub invariant-loop-i : goal.invariant-loop-i
invariant-loop-i l = group_views l.groups.items ≡ group_views l.fn.groups.items ++ replicate l._i []
