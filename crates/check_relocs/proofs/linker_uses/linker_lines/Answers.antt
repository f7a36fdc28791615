use Rattle.std.proofs.Common.{subst, sym}
use Rattle.elf_model.specs.Link.Listing.{AreLinkerLines}
use Rattle.elf_model.proofs.LinkerLines.{lines_are}
use Rattle.check_relocs.proofs.linker_uses.linker_lines.Goals as goal

pub returns : goal.returns
returns c =
    let L = c.args.bindings.now.objects in
    subst (AreLinkerLines L) (sym c.in_ok-lines.ensures.lines) (lines_are L c.args.names.now c.in_ok-lines.ensures.ordered c.requires)
