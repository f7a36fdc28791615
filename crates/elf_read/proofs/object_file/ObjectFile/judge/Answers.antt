use Rattle.std.proofs.Common.{◌∙◌, List, ap}
use Rattle.elf_model.specs.Inputs.ObjectFile.{contents, section, sections_of, symbol_table, symbols_of}
use Rattle.elf_model.specs.declared.records.SectionHeader.{SectionHeader}
use Rattle.elf_read.proofs.Whole.{file_section_strings, file_sections, file_symbol_strings}
use Rattle.elf_read.proofs.object_file.ObjectFile.judge.Goals as goal

pub invariant_of-result : goal.invariant_of-result
invariant_of-result c =
    let bytes = c.args.view in
    let h = c.in_ok-header.header in
    let ss = c.in_ok-sections.sections.items in
    let header = c.in_ok-header.ensures.good in
    let good = c.in_ok-sections.ensures.good in
    record {
      object = c.in_ok-groups.ensures.object;
      section_strings_are = file_section_strings bytes h ss c.section_strings.result header good
          (c.section_strings.ensures ∙ ap (λ (ts : List SectionHeader). contents bytes (section ts h.e_shstrndx)) c.deref-4.ensures.value);
      symbol_strings_are = file_symbol_strings bytes h ss c.symbol_strings.result header good
          (c.symbol_strings.ensures ∙ ap (λ (ts : List SectionHeader). contents bytes (section ts (symbol_table ts).sh_link)) c.deref-5.ensures.value);
      sections_are = c.section_table.ensures ∙ ap (sections_of bytes) header.header_is;
      symbols_are = c.symbols_of.ensures ∙ ap (symbols_of bytes) (c.deref-6.ensures.value ∙ file_sections bytes h ss header good);
      groups_are = c.in_ok-groups.ensures.groups;
    }
