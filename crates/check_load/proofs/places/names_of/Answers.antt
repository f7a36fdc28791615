use Rattle.std.proofs.Common.{arith}
use Rattle.check_load.proofs.PlaceLaws.{inputs_step}
use Rattle.check_load.proofs.places.names_of.Goals as goal

pub loop-input-preserved : goal.loop-input-preserved
loop-input-preserved c = record {
  sized = c.in_ok-add_input.ensures.sized;
  placed =
      inputs_step c.loop-input.names c.add_input.new.names c.args.inputs.now c.loop-input.input-index c.input-item.result c.loop-input-test.true c.input-item.is
      c.in_ok-add_input.ensures.placed c.in_ok-add_input.ensures.stays c.loop-input.invariant.placed;
}

pub returns-clause-placed : goal.returns-clause-placed
returns-clause-placed c = λ k d within.
    let m = c.loop-input-test.false in
    c.loop-input.invariant.placed k d (omega (arith, within, m))
