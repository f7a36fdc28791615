use Rattle.ar_index.proofs.PartSteps.{kept_more}
use Rattle.ar_index.proofs.part_file.PartFile.add.Goals as goal

pub invariant_of-self-2 : goal.invariant_of-self-2
invariant_of-self-2 c =
    let zeros = c.make_zeros.ensures in
    kept_more c.self.inside.members.items c.push.new.self.items c.args.member c.self.inside.zeros.items c.make_zeros.new.zeros.items c.self.invariant c.show.ensures.part zeros.zeros
    zeros.grows c.in_ok-make_zeros.ensures.enough c.in_ok-push.ensures.items
