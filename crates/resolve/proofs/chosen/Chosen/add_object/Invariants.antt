use Rattle.std.proofs.Common.{◌≡◌, ◌++◌, drop, map}
use Rattle.std.specs.Prelude.{filter}
use Rattle.elf_model.specs.Link.Commons.{is_common_symbol}
use Rattle.elf_model.specs.Link.Resolution.{symbols_from}
use Rattle.search.specs.Views.{loaded_view}
use Rattle.resolve.specs.Offered.{ref_of}
use Rattle.resolve.specs.Owned.{is_kept}
use Rattle.resolve.specs.Threads.{is_thread_chosen}
use Rattle.resolve.specs.Views.{symbol_views}
use Rattle.resolve.proofs.chosen.Chosen.add_object.Given as goal

abbrev pub invariant-loop-j : goal.invariant-loop-j
invariant-loop-j l = record {
  symbols :
      l.self.symbols.items ++ map ref_of (filter (is_kept l.loaded l.owners) (symbols_from l.number (loaded_view l.own) l.j (drop l.j l.entries)))
      ≡ l.fn.self.symbols.items ++ map ref_of (filter (is_kept l.loaded l.owners) (symbols_from l.number (loaded_view l.own) 0 l.entries));
  threads :
      l.self.threads.items ++ map (is_thread_chosen l.loaded.objects) (filter (is_kept l.loaded l.owners) (symbols_from l.number (loaded_view l.own) l.j (drop l.j l.entries)))
      ≡ l.fn.self.threads.items ++ map (is_thread_chosen l.loaded.objects) (filter (is_kept l.loaded l.owners) (symbols_from l.number (loaded_view l.own) 0 l.entries));
  commons :
      symbol_views l.self.commons.items ++ filter is_common_symbol (filter (is_kept l.loaded l.owners) (symbols_from l.number (loaded_view l.own) l.j (drop l.j l.entries)))
      ≡ symbol_views l.fn.self.commons.items ++ filter is_common_symbol (filter (is_kept l.loaded l.owners) (symbols_from l.number (loaded_view l.own) 0 l.entries));
}
