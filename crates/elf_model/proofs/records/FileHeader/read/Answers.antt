use Rattle.std.proofs.Common.{take, ap, ◌∙◌, arith}
use Rattle.elf_model.proofs.records.FileHeader.read.Goals as goal

pub returns : goal.returns
returns c =
    let ident = c.copy_from_slice.ensures.after ∙ c.split_at.ensures.front ∙ ap (take 16) c.bytes.ensures in (
      omega arith,
      λ i. record {
        e_ident = ident i;
        e_type = c.u16_inside.ensures i;
        e_machine = c.u16_inside-2.ensures i;
        e_version = c.u32_inside.ensures i;
        e_entry = c.u64_inside.ensures i;
        e_phoff = c.u64_inside-2.ensures i;
        e_shoff = c.u64_inside-3.ensures i;
        e_flags = c.u32_inside-2.ensures i;
        e_ehsize = c.u16_inside-3.ensures i;
        e_phentsize = c.u16_inside-4.ensures i;
        e_phnum = c.u16_inside-5.ensures i;
        e_shentsize = c.u16_inside-6.ensures i;
        e_shnum = c.u16_inside-7.ensures i;
        e_shstrndx = c.u16_inside-8.ensures i;
      },
    )
