use Rattle.std.proofs.Common.{List, ap, map, ◌∙◌}
use Rattle.elf_model.specs.Link.Relocation.{relocation_of}
use Rattle.elf_model.specs.declared.records.Rela.{Rela}
use Rattle.search.specs.Views.{loaded_view}
use Rattle.search.proofs.KeptWalks.{entries_told}
use Rattle.search.proofs.loaded.LoadedObject.kept_entries.Goals as goal

pub returns : goal.returns
returns c = λ n.
    let o = loaded_view c.args.self.now in
    ap (λ (es : List Rela). map (relocation_of n o c.args.rela.target) es) c.of.ensures
    ∙ entries_told n o c.args.rela c.all_entries.result c.requires c.all_entries.ensures
