use Rattle.std.proofs.Common.{◌≡◌, take, arith}
use Rattle.std.proofs.lemmas.List.{take_all}
use Rattle.elf_model.specs.Inputs.Records.{section_header_bytes}
use Rattle.elf_model.proofs.RecordLaws.{section_header_written}
use Rattle.elf_model.proofs.records.SectionHeader.write_to.Goals as goal

pub returns-clause-bytes : goal.returns-clause-bytes
unfolding section_header_bytes
returns-clause-bytes c =
    let whole : take 64 c.put_u64-6.new.out ≡ c.put_u64-6.new.out = take_all 64 c.put_u64-6.new.out (omega arith) in cc

pub returns-clause-again : goal.returns-clause-again
returns-clause-again c =
    section_header_written c.args.self.now c.put_u64-6.new.out (returns-clause-bytes c) record {
      sh_name = c.put_u32.ensures.fits;
      sh_type = c.put_u32-2.ensures.fits;
      sh_flags = c.put_u64.ensures.fits;
      sh_addr = c.put_u64-2.ensures.fits;
      sh_offset = c.put_u64-3.ensures.fits;
      sh_size = c.put_u64-4.ensures.fits;
      sh_link = c.put_u32-3.ensures.fits;
      sh_info = c.put_u32-4.ensures.fits;
      sh_addralign = c.put_u64-5.ensures.fits;
      sh_entsize = c.put_u64-6.ensures.fits;
    }
