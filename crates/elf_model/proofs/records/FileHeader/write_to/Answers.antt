use Rattle.std.proofs.Common.{◌≡◌, ℕ, ◌+◌, ap, ◌∙◌, rules, length, take, arith}
use Rattle.std.proofs.lemmas.List.{take_all}
use Rattle.elf_model.specs.Inputs.Records.{file_header_bytes}
use Rattle.elf_model.proofs.RecordLaws.{file_header_written}
use Rattle.elf_model.proofs.records.FileHeader.write_to.Goals as goal

pub returns-clause-bytes : goal.returns-clause-bytes
unfolding file_header_bytes
returns-clause-bytes c =
    let whole : take 64 c.put_u16-8.new.out ≡ c.put_u16-8.new.out = take_all 64 c.put_u16-8.new.out (omega arith) in
    let len : length c.args.self.now.e_ident ≡ 16 = search rules in
    let ident : 16 ≡ 0 + length c.args.self.now.e_ident = omega (arith, len) in
    let first : take 16 c.put_bytes.new.out ≡ c.args.self.now.e_ident = ap (λ (k : ℕ). take k c.put_bytes.new.out) ident ∙ c.put_bytes.ensures in
    cc

pub returns-clause-again : goal.returns-clause-again
returns-clause-again c =
    file_header_written c.args.self.now c.put_u16-8.new.out (returns-clause-bytes c) record {
      e_ident = search rules;
      e_type = c.put_u16.ensures.fits;
      e_machine = c.put_u16-2.ensures.fits;
      e_version = c.put_u32.ensures.fits;
      e_entry = c.put_u64.ensures.fits;
      e_phoff = c.put_u64-2.ensures.fits;
      e_shoff = c.put_u64-3.ensures.fits;
      e_flags = c.put_u32-2.ensures.fits;
      e_ehsize = c.put_u16-3.ensures.fits;
      e_phentsize = c.put_u16-4.ensures.fits;
      e_phnum = c.put_u16-5.ensures.fits;
      e_shentsize = c.put_u16-6.ensures.fits;
      e_shnum = c.put_u16-7.ensures.fits;
      e_shstrndx = c.put_u16-8.ensures.fits;
    }
