use Rattle.link_fields.proofs.BesideRelocations.{viewed}
use Rattle.link_fields.proofs.object_fields.object_at.Goals as goal

pub returns : goal.returns
returns c = viewed c.args.objects.now c.args.number c.get.result c.get.ensures.lookup.3
