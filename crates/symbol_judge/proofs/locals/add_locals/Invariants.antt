use Rattle.std.proofs.Common.{◌≡◌, ◌++◌, drop}
use Rattle.elf_model.specs.Link.Resolution.{symbols_from}
use Rattle.check_load.specs.Views.{loaded_view}
use Rattle.symbol_judge.specs.Locals.{locals_in}
use Rattle.symbol_judge.proofs.locals.add_locals.Given as goal

abbrev pub invariant-loop-j : goal.invariant-loop-j
invariant-loop-j l =
    l.found.items ++ locals_in l.meanings l.names (symbols_from l.number (loaded_view l.loaded) l.j (drop l.j l.entries))
    ≡ l.fn.found.items ++ locals_in l.meanings l.names (symbols_from l.number (loaded_view l.loaded) 0 l.entries)
