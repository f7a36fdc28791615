use Rattle.std.proofs.Common.{◌≡◌, ◌+◌, List, subst, sym}
use Rattle.std.specs.List.{range_with_len}
use Rattle.linker.specs.NameKeys.{positions}
use Rattle.linker.specs.declared.name_order.Keyed.{Keyed}
use Rattle.linker.proofs.LevelLaws.{one_position}
use Rattle.linker.proofs.name_order.all_positions.Goals as goal

pub loop-position-preserved : goal.loop-position-preserved
loop-position-preserved c =
    subst (λ (ks : List Keyed). positions ks ≡ range_with_len 0 (c.loop-position.position + 1)) (sym c.in_ok-push.ensures.items)
    (one_position c.loop-position.keys.items c.loop-position.position c.loop-position.invariant)
