use Rattle.std.proofs.Common.{◌∙◌, sym}
use Rattle.frame_code.proofs.Walks.{data_unknown, encoding_end, encoding_further, encoding_unknown}
use Rattle.frame_code.proofs.common.encoding_by.Goals as goal

pub returns-in_err-known : goal.returns-in_err-known
returns-in_err-known c =
    c.from_residual.ensures
    ∙ sym
    (encoding_unknown c.args.letters.now c.loop-letter.rest.now c.loop-letter.letter-index c.loop-letter.known c.loop-letter-test.true
    c.in_err-known.ensures)
    ∙ c.loop-letter.invariant

pub returns-in_err-rest : goal.returns-in_err-rest
returns-in_err-rest c =
    c.from_residual-in_err-rest.ensures
    ∙ sym
    (data_unknown c.args.letters.now c.loop-letter.rest.now c.loop-letter.letter-index c.loop-letter.known c.in_ok-known.known
    c.loop-letter-test.true c.in_ok-known.ensures c.in_err-rest.ensures)
    ∙ c.loop-letter.invariant

pub loop-letter-preserved : goal.loop-letter-preserved
loop-letter-preserved c =
    sym
    (encoding_further c.args.letters.now c.loop-letter.rest.now c.in_ok-rest.rest.now c.loop-letter.letter-index c.loop-letter.known
    c.in_ok-known.known c.loop-letter-test.true c.in_ok-known.ensures c.in_ok-rest.ensures)
    ∙ c.loop-letter.invariant

pub returns : goal.returns
returns c =
    sym (encoding_end c.args.letters.now c.loop-letter.rest.now c.loop-letter.letter-index c.loop-letter.known c.loop-letter-test.false)
    ∙ c.loop-letter.invariant
