use Rattle.std.proofs.Common.{◌≡◌, length}
use Rattle.std.specs.Prelude.{◌↔◌, All, filter}
use Rattle.elf_model.specs.Link.ChosenSymbols.{definitions, is_definition}
use Rattle.elf_model.specs.Link.Resolution.{is_common_definition}
use Rattle.search.specs.Views.{loaded_views}
use Rattle.resolve.specs.Offered.{offers_of}
use Rattle.resolve.specs.Sound.{AreWhollySound, IsWhollySound}
use Rattle.resolve.specs.Taken.{nothing_taken, taken_after, taken_view}
use Rattle.resolve.proofs.Walks.{symbols_left}
use Rattle.symbols.specs.Offers.{all_offered}
use Rattle.resolve.proofs.definition_list.taken_of.Given as goal

abbrev pub invariant-loop-k : goal.invariant-loop-k
invariant-loop-k g l = record {
  taken :
      taken_after l.loaded (taken_view l.taken) (filter is_definition (symbols_left l.k l.objects))
      ≡ taken_after l.loaded (nothing_taken l.loaded) (definitions l.loaded.objects);
  sized : length l.taken.owners.items ≡ length l.loaded.names;
  rows :
      all_offered (offers_of (filter is_common_definition (filter is_definition (symbols_left l.k l.objects)))) (g.T.NameTable.rows l.table)
      ≡ all_offered (offers_of (filter is_common_definition (definitions l.loaded.objects))) (g.T.NameTable.rows l.fn.table);
  sound : AreWhollySound (loaded_views l.objects) ↔ All (IsWhollySound (loaded_views l.objects)) (symbols_left l.k l.objects);
}
