use Rattle.std.proofs.Common.{◌≡◌, ◌++◌, drop}
use Rattle.elf_model.specs.Image.RightLink.{drops_from}
use Rattle.search.specs.Views.{loaded_view}
use Rattle.linker.proofs.own_map.add_drop_lines.Given as goal

abbrev pub invariant-loop-i : goal.invariant-loop-i
invariant-loop-i l =
    l.lines.items ++ drops_from l.number (loaded_view l.loaded) l.i (drop l.i l.headers)
    ≡ l.fn.lines.items ++ drops_from l.number (loaded_view l.loaded) 0 l.headers
