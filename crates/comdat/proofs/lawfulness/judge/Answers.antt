use Rattle.std.proofs.Common.{refl}
use Rattle.comdat.proofs.lawfulness.judge.Goals as goal

pub returns-clause-lawful : goal.returns-clause-lawful
returns-clause-lawful c = record {
  named = c.if-not-are_named.ensures.0 refl;
  flags = c.if-not-have_known_flags.ensures.0 refl;
  apart = c.in_ok-share_no_section.ensures.0 c.if-not-branch.false;
}
