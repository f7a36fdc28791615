use Rattle.std.proofs.Common.{arith}
use Rattle.check_link.specs.Commons.{given_align, given_size}
use Rattle.check_link.proofs.Asked.{asked_end, asked_step}
use Rattle.check_link.proofs.commons.asked_of.Goals as goal

pub loop-symbol-preserved : goal.loop-symbol-preserved
loop-symbol-preserved c =
    let xs = c.args.commons.now in
    let i = c.loop-symbol.symbol-index in
    record {
      sizes = λ n. asked_step given_size n xs i _ _ _ _ c.loop-symbol-test.true (c.in_ok-add_asked.ensures.sizes n) (c.loop-symbol.invariant.sizes n);
      aligns = λ n. asked_step given_align n xs i _ _ _ _ c.loop-symbol-test.true (c.in_ok-add_asked.ensures.aligns n) (c.loop-symbol.invariant.aligns n);
    }

pub returns : goal.returns
returns c =
    let xs = c.args.commons.now in
    let i = c.loop-symbol.symbol-index in
    record {
      sizes = λ n. asked_end given_size n xs i _ _ (omega (arith, c.loop-symbol-test.false)) (c.loop-symbol.invariant.sizes n);
      aligns = λ n. asked_end given_align n xs i _ _ (omega (arith, c.loop-symbol-test.false)) (c.loop-symbol.invariant.aligns n);
    }
