use Rattle.std.proofs.Common.{◌∙◌}
use Rattle.byteview.specs.Numbers.{le_bytes}
use Rattle.image_write.proofs.StreamSteps.{parts_end, parts_left, towards_fault, towards_more}
use Rattle.image_write.proofs.got.put_values.Goals as goal

pub loop-value-preserved : goal.loop-value-preserved
loop-value-preserved g c = record {
  towards = towards_more _ _ _ _ _ _ _ c.loop-value.invariant.towards
      (parts_left (le_bytes 8) c.args.values.now c.loop-value.value-index 0 c.loop-value-test.true) c.in_ok-put_value.ensures.grows;
  failed = c.in_ok-put_value.ensures.grows.failed ∙ c.loop-value.invariant.failed;
}

pub returns-in_err-put_value : goal.returns-in_err-put_value
returns-in_err-put_value g c =
    towards_fault _ _ _ _ _ _ _ _ c.loop-value.invariant.towards
    (parts_left (le_bytes 8) c.args.values.now c.loop-value.value-index 0 c.loop-value-test.true) c.from_residual.ensures.0
    c.in_err-put_value.ensures.breaks

pub returns : goal.returns
returns g c = record {
  grows = parts_end (le_bytes 8) _ _ _ c.args.values.now c.loop-value.value-index c.loop-value-test.false c.loop-value.invariant.towards;
  breaks = tt;
}
