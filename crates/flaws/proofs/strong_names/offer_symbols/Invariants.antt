use Rattle.std.proofs.Common.{◌≡◌, drop}
use Rattle.std.specs.Prelude.{filter}
use Rattle.elf_model.specs.Link.Resolution.{is_strong, symbols_from}
use Rattle.search.specs.Views.{loaded_view}
use Rattle.resolve.specs.Offered.{offers_of}
use Rattle.symbols.specs.Offers.{all_offered}
use Rattle.flaws.proofs.strong_names.offer_symbols.Given as goal

abbrev pub invariant-loop-j : goal.invariant-loop-j
invariant-loop-j g l =
    all_offered (offers_of (filter is_strong (symbols_from l.object (loaded_view l.one) l.j (drop l.j l.entries)))) (g.T.NameTable.rows l.table)
    ≡ all_offered (offers_of (filter is_strong (symbols_from l.object (loaded_view l.one) 0 l.entries))) (g.T.NameTable.rows l.fn.table)
