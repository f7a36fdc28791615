use Rattle.std.proofs.Common.{drop}
use Rattle.std.specs.Prelude.{All}
use Rattle.elf_model.proofs.Rests.{Left}
use Rattle.elf_model.specs.Link.Resolution.{symbols_from}
use Rattle.check_load.specs.Views.{loaded_view}
use Rattle.symbol_judge.specs.There.{IsThere}
use Rattle.symbol_judge.proofs.there.are_own_there.Given as goal

abbrev pub invariant-loop-j : goal.invariant-loop-j
invariant-loop-j l =
    Left
    (All (IsThere l.meanings.objects l.meanings.placed l.meanings.merged l.names) (symbols_from l.number (loaded_view l.loaded) 0 l.entries))
    (All (IsThere l.meanings.objects l.meanings.placed l.meanings.merged l.names) (symbols_from l.number (loaded_view l.loaded) l.j (drop l.j l.entries)))
