use Rattle.std.proofs.Common.{◌≡◌, drop, length}
use Rattle.std.specs.Prelude.{filter}
use Rattle.elf_model.specs.Link.ChosenSymbols.{is_definition}
use Rattle.elf_model.specs.Link.Resolution.{is_common_definition, symbols_from}
use Rattle.search.specs.Views.{loaded_view}
use Rattle.resolve.specs.Offered.{offers_of}
use Rattle.resolve.specs.Taken.{taken_after, taken_view}
use Rattle.symbols.specs.Offers.{all_offered}
use Rattle.resolve.proofs.taken.Taken.take_object.Given as goal

abbrev pub invariant-loop-j : goal.invariant-loop-j
invariant-loop-j g l = record {
  taken :
      taken_after l.loaded (taken_view l.self) (filter is_definition (symbols_from l.number (loaded_view l.own) l.j (drop l.j l.entries)))
      ≡ taken_after l.loaded (taken_view l.fn.self) (filter is_definition (symbols_from l.number (loaded_view l.own) 0 l.entries));
  sized : length l.self.owners.items ≡ length l.loaded.names;
  rows :
      all_offered (offers_of (filter is_common_definition (filter is_definition (symbols_from l.number (loaded_view l.own) l.j (drop l.j l.entries))))) (g.T.NameTable.rows l.table)
      ≡ all_offered (offers_of (filter is_common_definition (filter is_definition (symbols_from l.number (loaded_view l.own) 0 l.entries)))) (g.T.NameTable.rows l.fn.table);
}
