use Rattle.std.proofs.Common.{◌≡◌, ◌++◌, map}
use Rattle.std.specs.Prelude.{filter}
use Rattle.elf_model.specs.Link.Commons.{is_common_symbol}
use Rattle.elf_model.specs.Link.Resolution.{all_symbols}
use Rattle.resolve.specs.Offered.{ref_of}
use Rattle.resolve.specs.Owned.{is_kept}
use Rattle.resolve.specs.Threads.{is_thread_chosen}
use Rattle.resolve.specs.Views.{symbol_views}
use Rattle.resolve.proofs.Walks.{symbols_left}
use Rattle.resolve.proofs.chosen.chosen_of.Given as goal

abbrev pub invariant-loop-k : goal.invariant-loop-k
invariant-loop-k l = record {
  symbols :
      l.chosen.symbols.items ++ map ref_of (filter (is_kept l.loaded l.owners) (symbols_left l.k l.all))
      ≡ map ref_of (filter (is_kept l.loaded l.owners) (all_symbols l.loaded.objects));
  threads :
      l.chosen.threads.items ++ map (is_thread_chosen l.loaded.objects) (filter (is_kept l.loaded l.owners) (symbols_left l.k l.all))
      ≡ map (is_thread_chosen l.loaded.objects) (filter (is_kept l.loaded l.owners) (all_symbols l.loaded.objects));
  commons :
      symbol_views l.chosen.commons.items ++ filter is_common_symbol (filter (is_kept l.loaded l.owners) (symbols_left l.k l.all))
      ≡ filter is_common_symbol (filter (is_kept l.loaded l.owners) (all_symbols l.loaded.objects));
}
