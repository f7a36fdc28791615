use Rattle.std.proofs.Common.{◌∙◌}
use Rattle.elf_model.specs.Inputs.Records.{program_header_bytes}
use Rattle.image_write.proofs.StreamSteps.{parts_end, parts_left, towards_fault, towards_more}
use Rattle.image_write.proofs.headers.put_segments.Goals as goal

pub loop-segment-preserved : goal.loop-segment-preserved
loop-segment-preserved g c = record {
  towards = towards_more _ _ _ _ _ _ _ c.loop-segment.invariant.towards
      (parts_left program_header_bytes c.args.segments.now c.loop-segment.segment-index _ c.loop-segment-test.true) c.in_ok-put_program_header.ensures.grows;
  failed = c.in_ok-put_program_header.ensures.grows.failed ∙ c.loop-segment.invariant.failed;
}

pub returns-in_err-put_program_header : goal.returns-in_err-put_program_header
returns-in_err-put_program_header g c =
    towards_fault _ _ _ _ _ _ _ _ c.loop-segment.invariant.towards
    (parts_left program_header_bytes c.args.segments.now c.loop-segment.segment-index _ c.loop-segment-test.true) c.from_residual.ensures.0
    c.in_err-put_program_header.ensures.breaks

pub returns : goal.returns
returns g c = record {
  grows = parts_end program_header_bytes _ _ _ c.args.segments.now c.loop-segment.segment-index c.loop-segment-test.false c.loop-segment.invariant.towards;
  breaks = tt;
}
