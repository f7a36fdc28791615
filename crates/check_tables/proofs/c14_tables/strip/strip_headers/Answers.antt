use Rattle.std.specs.List.{flat_map}
use Rattle.elf_model.specs.Inputs.Records.{section_header_bytes}
use Rattle.check_tables.proofs.TableSteps.{strips_more, strips_stop}
use Rattle.check_tables.proofs.c14_tables.strip.strip_headers.Goals as goal

pub loop-header-preserved : goal.loop-header-preserved
loop-header-preserved c =
    strips_more section_header_bytes c.args.headers.now c.loop-header.header-index _ c.loop-header-test.true
    (flat_map section_header_bytes c.args.headers.now) c.args.bytes.now c.loop-header.left.now c.in_ok-left.left c.loop-header.invariant c.in_ok-left.ensures

pub returns-in_err-left : goal.returns-in_err-left
returns-in_err-left c =
    rw c.from_residual.ensures
    (strips_stop section_header_bytes c.args.headers.now c.loop-header.header-index _ c.loop-header-test.true
    (flat_map section_header_bytes c.args.headers.now) c.args.bytes.now c.loop-header.left.now c.loop-header.invariant c.in_err-left.ensures)
