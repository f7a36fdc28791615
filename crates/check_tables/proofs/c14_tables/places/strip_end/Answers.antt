use Rattle.std.proofs.Common.{◌-◌, ◌++◌, List, None, replicate, subst}
use Rattle.std.specs.List.{flat_map}
use Rattle.elf_model.specs.Inputs.Records.{section_header_bytes}
use Rattle.elf_model.specs.Image.SymbolTable.{section_names}
use Rattle.elf_model.specs.declared.records.SectionHeader.{SectionHeader}
use Rattle.check_tables.specs.Tabled.{Strips, headers_of}
use Rattle.check_tables.proofs.TableSteps.{strips_none, strips_two}
use Rattle.check_tables.proofs.c14_tables.places.strip_end.Goals as goal

pub returns-in_err-rest : goal.returns-in_err-rest
returns-in_err-rest c =
    let p = c.args.places.now in
    rw c.from_residual.ensures
    (strips_none section_names (replicate (p.headers - p.shstrtab_end) 0 ++ flat_map section_header_bytes (headers_of p)) c.args.bytes.now c.in_err-rest.ensures)

pub returns-in_err-rest-2 : goal.returns-in_err-rest-2
returns-in_err-rest-2 c =
    let p = c.args.places.now in
    let hs = flat_map section_header_bytes (headers_of p) in
    rw c.from_residual-in_err-rest-2.ensures
    (strips_two section_names (replicate (p.headers - p.shstrtab_end) 0 ++ hs) c.args.bytes.now c.in_ok-rest.rest None c.in_ok-rest.ensures
    (strips_none (replicate (p.headers - p.shstrtab_end) 0) hs c.in_ok-rest.rest.now c.in_err-rest-2.ensures))

pub returns : goal.returns
returns c =
    let p = c.args.places.now in
    let hs = flat_map section_header_bytes (headers_of p) in
    strips_two section_names (replicate (p.headers - p.shstrtab_end) 0 ++ hs) c.args.bytes.now c.in_ok-rest.rest _ c.in_ok-rest.ensures
    (strips_two (replicate (p.headers - p.shstrtab_end) 0) hs c.in_ok-rest.rest.now c.in_ok-rest-2.rest _ c.in_ok-rest-2.ensures
    (subst (λ (gs : List SectionHeader). Strips (flat_map section_header_bytes gs) c.in_ok-rest-2.rest.now c.strip_headers.result) c.headers_of.ensures
    c.strip_headers.ensures))
