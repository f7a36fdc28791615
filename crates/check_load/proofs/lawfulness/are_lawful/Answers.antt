use Rattle.check_load.proofs.LawfulGroups.{lawful_by}
use Rattle.check_load.proofs.lawfulness.are_lawful.Goals as goal

pub returns : goal.returns
returns c =
    lawful_by c.share_no_section.result c.args.groups.now (c.have_known_flags.ensures.0 c.if-not-have_known_flags.false)
    (c.are_named.ensures.0 c.if-not-are_named.false) c.share_no_section.ensures
