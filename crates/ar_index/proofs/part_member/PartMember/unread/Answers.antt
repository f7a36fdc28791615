use Rattle.ar_index.proofs.PartSteps.{kept_unread}
use Rattle.ar_index.proofs.part_member.PartMember.unread.Goals as goal

pub invariant_of-result : goal.invariant_of-result
invariant_of-result c =
    kept_unread c.args.header.items c.deref.result.now c.in_ok-size.size c.deref.ensures.value c.in_ok-size.ensures.exact c.in_ok-size.ensures.small
