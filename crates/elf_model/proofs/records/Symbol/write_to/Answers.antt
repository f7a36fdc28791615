use Rattle.std.proofs.Common.{◌≡◌, take, arith}
use Rattle.std.proofs.lemmas.List.{take_all}
use Rattle.elf_model.specs.Inputs.Records.{symbol_bytes}
use Rattle.elf_model.proofs.RecordLaws.{symbol_written}
use Rattle.elf_model.proofs.records.Symbol.write_to.Goals as goal

pub returns-clause-bytes : goal.returns-clause-bytes
unfolding symbol_bytes
returns-clause-bytes c =
    let whole : take 24 c.put_u64-2.new.out ≡ c.put_u64-2.new.out = take_all 24 c.put_u64-2.new.out (omega arith) in cc

pub returns-clause-again : goal.returns-clause-again
returns-clause-again c =
    symbol_written c.args.self.now c.put_u64-2.new.out (returns-clause-bytes c) record {
      st_name = c.put_u32.ensures.fits;
      st_info = c.put_u8.ensures.fits;
      st_other = c.put_u8-2.ensures.fits;
      st_shndx = c.put_u16.ensures.fits;
      st_value = c.put_u64.ensures.fits;
      st_size = c.put_u64-2.ensures.fits;
    }
