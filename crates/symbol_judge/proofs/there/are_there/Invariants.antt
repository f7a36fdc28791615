use Rattle.std.proofs.Common.{drop}
use Rattle.std.specs.Prelude.{All}
use Rattle.elf_model.proofs.Rests.{Left}
use Rattle.elf_model.specs.Link.Resolution.{all_symbols, symbols_of}
use Rattle.check_load.specs.Views.{loaded_views}
use Rattle.symbol_judge.specs.There.{IsThere}
use Rattle.symbol_judge.proofs.there.are_there.Given as goal

abbrev pub invariant-loop-k : goal.invariant-loop-k
invariant-loop-k l =
    Left
    (All (IsThere l.meanings.objects l.meanings.placed l.meanings.merged l.names) (all_symbols l.meanings.objects))
    (All (IsThere l.meanings.objects l.meanings.placed l.meanings.merged l.names) (symbols_of l.k (drop l.k (loaded_views l.objects))))
