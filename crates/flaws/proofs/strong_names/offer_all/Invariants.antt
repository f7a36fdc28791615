use Rattle.std.proofs.Common.{◌≡◌}
use Rattle.std.specs.Prelude.{filter}
use Rattle.elf_model.specs.Link.Resolution.{is_strong, strong_definitions}
use Rattle.search.specs.Views.{loaded_views}
use Rattle.resolve.proofs.Walks.{symbols_left}
use Rattle.resolve.specs.Offered.{offers_of, rows_of}
use Rattle.symbols.specs.Offers.{all_offered}
use Rattle.flaws.proofs.strong_names.offer_all.Given as goal

abbrev pub invariant-loop-k : goal.invariant-loop-k
invariant-loop-k g l =
    all_offered (offers_of (filter is_strong (symbols_left l.k l.objects))) (g.T.NameTable.rows l.table)
    ≡ rows_of (strong_definitions (loaded_views l.objects))
