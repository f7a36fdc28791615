-- The law is proved on lists of sections and relocations.
use Rattle.judge_law.proofs.Conserved.{checked_links_right}
use Rattle.judge_law.proofs.checked_links_are_right.Goals as goal

pub returns : goal.returns
returns c = checked_links_right
