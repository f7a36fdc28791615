use Rattle.std.proofs.Common.{◌≡◌, ◌∙◌, List, ap, length, subst}
use Rattle.elf_model.specs.Inputs.ObjectFile.{HasSymbols, HasTable, sections, sections_of, symbols_of}
use Rattle.elf_model.specs.declared.records.FileHeader.{FileHeader}
use Rattle.elf_model.specs.declared.records.SectionHeader.{SectionHeader}
use Rattle.bad_parts.proofs.search.Tables.read.Goals as goal

pub invariant_of-result : goal.invariant_of-result
invariant_of-result c =
    let bytes = c.args.file in
    let header = c.in-Ok.ensures.header in
    let is : c.in_ok-sections.sections.items ≡ sections bytes = c.in_ok-sections.ensures ∙ ap (sections_of bytes) header in
    let read : c.deref.result.now ≡ sections bytes = c.deref.ensures.value ∙ is in
    record {
      are = record {
        header = header;
        sections_are = is;
        table = subst (HasTable (length bytes)) header c.in-Ok.ensures.table;
        small = c.in-Ok.ensures.size;
        symbols_are = λ run some. (
          subst (λ (q : FileHeader × List SectionHeader). HasSymbols (length bytes) q.0 q.1) (λ i. (header i, read i)) ((c.symbols_in-symbols.ensures run some).0),
          (c.symbols_in-symbols.ensures run some).1 ∙ ap (symbols_of bytes) read,
        );
      };
    }
