use Rattle.std.proofs.Common.{◌∙◌}
use Rattle.elf_model.specs.Inputs.Records.{section_header_bytes}
use Rattle.image_write.proofs.StreamSteps.{parts_end, parts_left, towards_fault, towards_more}
use Rattle.image_write.proofs.tables.put_headers.Goals as goal

pub loop-header-preserved : goal.loop-header-preserved
loop-header-preserved g c = record {
  towards = towards_more _ _ _ _ _ _ _ c.loop-header.invariant.towards
      (parts_left section_header_bytes c.args.headers.now c.loop-header.header-index _ c.loop-header-test.true) c.in_ok-put_header.ensures.grows;
  failed = c.in_ok-put_header.ensures.grows.failed ∙ c.loop-header.invariant.failed;
}

pub returns-in_err-put_header : goal.returns-in_err-put_header
returns-in_err-put_header g c =
    towards_fault _ _ _ _ _ _ _ _ c.loop-header.invariant.towards
    (parts_left section_header_bytes c.args.headers.now c.loop-header.header-index _ c.loop-header-test.true) c.from_residual.ensures.0
    c.in_err-put_header.ensures.breaks

pub returns : goal.returns
returns g c = record {
  grows = parts_end section_header_bytes _ _ _ c.args.headers.now c.loop-header.header-index c.loop-header-test.false c.loop-header.invariant.towards;
  breaks = tt;
}
