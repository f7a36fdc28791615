use Rattle.std.proofs.Common.{◌∙◌, arith, sym}
use Rattle.std.proofs.lemmas.Bool.{false≢true}
use Rattle.gap_judge.proofs.FillLaws.{enclosed_there, filled_by}
use Rattle.gap_judge.proofs.gaps.holds_fill.Goals as goal

pub returns-in-Some : goal.returns-in-Some
returns-in-Some c =
    filled_by c.args.image.now c.args.runs.now c.args.segment.now c.args.from c.args.to c.in-Some.held.bytes.now c.in-Some.held.zeros c.in-Some.ensures.run
    c.is_executed.result c.has_address.result c.is_fill.result c.is_executed.ensures c.has_address.ensures c.is_fill.ensures

pub returns-in-None : goal.returns-in-None
returns-in-None c =
    absurd
    (false≢true
    (c.in-None.ensures.found.1 (enclosed_there c.args.image.now c.args.segment.now c.args.from c.args.to c.requires.there c.requires.some c.requires.inside)))
