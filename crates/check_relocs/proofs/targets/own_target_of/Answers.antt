use Rattle.std.proofs.Common.{◌∙◌, sym}
use Rattle.check_relocs.proofs.targets.own_target_of.Goals as goal

pub own_local_target-requires : goal.own_local_target-requires
own_local_target-requires c = sym (c.is_local_at.ensures c.args.here.now.number) ∙ c.if-is_local_at.true

pub own_visible_target-requires : goal.own_visible_target-requires
own_visible_target-requires c = sym (c.is_local_at.ensures c.args.here.now.number) ∙ c.if-is_local_at.false
