-- The law is proved on lists of bytes.
use Rattle.judge_law.proofs.Same.{right_links_same}
use Rattle.judge_law.proofs.right_links_hold_the_same.Goals as goal

pub returns : goal.returns
returns c = right_links_same
