use Rattle.std.proofs.Common.{◌≡◌, ◌++◌, drop}
use Rattle.elf_model.specs.Inputs.ObjectFile.{sections}
use Rattle.elf_model.specs.Image.RightLink.{drops_from}
use Rattle.check_load.specs.Views.{loaded_view}
use Rattle.check_places.proofs.c03_sections.drops.add_drops.Given as goal

abbrev pub invariant-loop-i : goal.invariant-loop-i
invariant-loop-i l =
    l.out.items ++ drops_from l.number (loaded_view l.loaded) l.i (drop l.i l.headers)
    ≡ l.initial.out.items ++ drops_from l.number (loaded_view l.loaded) 0 (sections l.loaded.object)
