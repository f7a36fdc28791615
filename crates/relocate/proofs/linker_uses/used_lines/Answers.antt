use Rattle.std.proofs.Common.{List, subst, sym}
use Rattle.elf_model.specs.Link.Listing.{AreLinkerLines}
use Rattle.elf_model.specs.Link.Loading.{LoadedObject}
use Rattle.elf_model.proofs.LinkerLines.{lines_are}
use Rattle.search.specs.Views.{loaded_views}
use Rattle.relocate.proofs.linker_uses.used_lines.Goals as goal

pub returns : goal.returns
returns c =
    let L : List LoadedObject = loaded_views c.args.objects.now in
    subst (AreLinkerLines L) (sym (rw c.requires at c.in_ok-lines.ensures.lines))
    (lines_are L c.in_ok-names.names c.in_ok-lines.ensures.ordered c.in_ok-names.ensures)
