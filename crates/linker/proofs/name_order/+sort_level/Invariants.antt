use Rattle.std.proofs.Common.{◌-◌, ◌≤◌, drop, length, take}
use Rattle.linker.proofs.LevelLaws.{Done}
use Rattle.linker.proofs.name_order.+sort_level.Given as goal

abbrev pub invariant-loop-from : goal.invariant-loop-from
invariant-loop-from l = (l.from ≤ length l.run) × Done l.names l.offset l.fn.run (take l.from l.run) (drop l.from l.run)

abbrev pub decreases-loop-from : goal.decreases-loop-from
decreases-loop-from l = length l.run - l.from

abbrev pub decreases-sort_level : goal.decreases-sort_level
decreases-sort_level a = a.levels
