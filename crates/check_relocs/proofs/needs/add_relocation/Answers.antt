use Rattle.std.proofs.Common.{◌∙◌}
use Rattle.check_relocs.specs.KnownSlots.{rows_here}
use Rattle.check_relocs.specs.Referrers.{objects_here, relocation_here}
use Rattle.check_relocs.proofs.NeedSteps.{one_gained}
use Rattle.check_relocs.proofs.needs.add_relocation.Goals as goal

pub returns-clause-kept : goal.returns-clause-kept
returns-clause-kept c = record {
  named = c.got_with-needs.ensures.kept;
  asked = c.add_if_asked.ensures.kept;
  size = c.add_if_asked.ensures.size ∙ c.requires.size;
}

pub returns-clause-gained : goal.returns-clause-gained
returns-clause-gained c =
    let h = c.args.here.now in
    one_gained (objects_here h) (rows_here h) (relocation_here h c.args.relocation.now) c.args.needs.now _ (c.add_if_asked.ensures.got ∙ c.got_with-needs.ensures.got)
    c.add_if_asked.ensures.unserved c.add_if_asked.ensures.asked c.add_if_asked.ensures.size
