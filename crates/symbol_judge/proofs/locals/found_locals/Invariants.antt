use Rattle.std.proofs.Common.{◌≡◌, ◌++◌, drop}
use Rattle.elf_model.specs.Link.Resolution.{all_symbols, symbols_of}
use Rattle.check_load.specs.Views.{loaded_views}
use Rattle.symbol_judge.specs.Locals.{locals_in}
use Rattle.symbol_judge.proofs.locals.found_locals.Given as goal

abbrev pub invariant-loop-k : goal.invariant-loop-k
invariant-loop-k l =
    l.found.items ++ locals_in l.meanings l.names (symbols_of l.k (drop l.k (loaded_views l.objects)))
    ≡ locals_in l.meanings l.names (all_symbols l.meanings.objects)
