use Rattle.std.proofs.Common.{◌∙◌, sym}
use Rattle.check_relocs.specs.Referrers.{object_here}
use Rattle.check_relocs.proofs.NotedSlots.{noted_here}
use Rattle.check_relocs.proofs.slots.noted_position.Goals as goal

pub returns : goal.returns
returns c =
    let h = c.args.here.now in
    noted_here c.slots.result.now h.bindings.now h.number c.args.j (object_here h) c.args.thread c.noted.result c.slots.ensures.rows c.slots.ensures.objects h.own
    (sym (c.is_local_at.ensures h.number) ∙ c.if-is_local_at.false) c.noted.ensures
