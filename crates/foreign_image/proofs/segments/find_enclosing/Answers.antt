use Rattle.std.proofs.Common.{sym, ◌-◌, ◌∙◌, arith}
use Rattle.std.proofs.lemmas.Bool.{false≢true}
use Rattle.elf_model.specs.declared.records.ProgramHeader.{ProgramHeader}
use Rattle.loader_model.proofs.SegmentsApart.{last_encloses}
use Rattle.foreign_image.proofs.segments.find_enclosing.Goals as goal

null_header : ProgramHeader
null_header = record { p_type = 0; p_flags = 0; p_offset = 0; p_vaddr = 0; p_paddr = 0; p_filesz = 0; p_memsz = 0; p_align = 0 }

pub returns-then-not-is_enclosed_by-clause-found : goal.returns-then-not-is_enclosed_by-clause-found
unfolding null_header
returns-then-not-is_enclosed_by-clause-found c =
    let n = c.count_begun-begun.result in
    let some = c.if-begun-eq0.false in (
      λ t. absurd (false≢true t),
      λ a.
          sym c.if-not-is_enclosed_by.true
          ∙ c.is_enclosed_by.ensures.1
          (last_encloses c.args.segments.now c.args.addr c.args.len n null_header c.requires (omega (arith, some)) c.count_begun-begun.ensures.within
          (c.count_begun-begun.ensures.begun (n - 1) null_header (omega (arith, some))) c.count_begun-begun.ensures.not_yet a),
    )
