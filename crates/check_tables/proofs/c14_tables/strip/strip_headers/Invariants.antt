use Rattle.std.proofs.Common.{drop}
use Rattle.std.specs.List.{flat_map}
use Rattle.elf_model.specs.Inputs.Records.{section_header_bytes}
use Rattle.check_tables.proofs.TableSteps.{StripsTo}
use Rattle.check_tables.proofs.c14_tables.strip.strip_headers.Given as goal

abbrev pub invariant-loop-header : goal.invariant-loop-header
invariant-loop-header l =
    StripsTo (flat_map section_header_bytes l.headers) l.bytes (flat_map section_header_bytes (drop l.header-index l.headers)) l.left
