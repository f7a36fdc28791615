use Rattle.std.proofs.Common.{◌≡◌, take, arith}
use Rattle.std.proofs.lemmas.List.{take_all}
use Rattle.elf_model.specs.Inputs.Records.{program_header_bytes}
use Rattle.elf_model.proofs.RecordLaws.{program_header_written}
use Rattle.elf_model.proofs.records.ProgramHeader.write_to.Goals as goal

pub returns-clause-bytes : goal.returns-clause-bytes
unfolding program_header_bytes
returns-clause-bytes c =
    let whole : take 56 c.put_u64-6.new.out ≡ c.put_u64-6.new.out = take_all 56 c.put_u64-6.new.out (omega arith) in cc

pub returns-clause-again : goal.returns-clause-again
returns-clause-again c =
    program_header_written c.args.self.now c.put_u64-6.new.out (returns-clause-bytes c) record {
      p_type = c.put_u32.ensures.fits;
      p_flags = c.put_u32-2.ensures.fits;
      p_offset = c.put_u64.ensures.fits;
      p_vaddr = c.put_u64-2.ensures.fits;
      p_paddr = c.put_u64-3.ensures.fits;
      p_filesz = c.put_u64-4.ensures.fits;
      p_memsz = c.put_u64-5.ensures.fits;
      p_align = c.put_u64-6.ensures.fits;
    }
