use Rattle.std.proofs.Common.{◌≡◌, rules, take, arith}
use Rattle.std.specs.Int.{w64}
use Rattle.std.specs.Int.RustNames.{FitsSigned}
use Rattle.std.proofs.lemmas.Int.{to_z-of_z}
use Rattle.std.proofs.lemmas.List.{take_all}
use Rattle.elf_model.specs.Inputs.Records.{rela_bytes}
use Rattle.elf_model.proofs.RecordLaws.{rela_written}
use Rattle.elf_model.proofs.records.Rela.write_to.Goals as goal

pub returns-clause-bytes : goal.returns-clause-bytes
unfolding rela_bytes
returns-clause-bytes c =
    let whole : take 24 c.put_i64.new.out ≡ c.put_i64.new.out = take_all 24 c.put_i64.new.out (omega arith) in
    let fits : FitsSigned w64 c.args.self.now.r_addend = search rules in
    let addend = to_z-of_z w64 c.args.self.now.r_addend fits in
    cc

pub returns-clause-again : goal.returns-clause-again
returns-clause-again c =
    rela_written c.args.self.now c.put_i64.new.out (returns-clause-bytes c) record {
      r_offset = c.put_u64.ensures.fits;
      r_info = c.put_u64-2.ensures.fits;
      r_addend = search rules;
    }
