use Rattle.std.proofs.lemmas.Bool.Decides.{Decides-eqb}
use Rattle.std.proofs.lemmas.Slice.Eq.{strip_prefix_is}
use Rattle.check_tables.proofs.TableSteps.{strips_prefix}
use Rattle.check_tables.proofs.c14_tables.strip.strip.Goals as goal

pub returns : goal.returns
returns c =
    let front = c.args.front.now in
    let bytes = c.args.bytes.now in
    let r = c.strip_prefix.result in
    strips_prefix front bytes r (strip_prefix_is Decides-eqb bytes front r c.strip_prefix.ensures.cases)
