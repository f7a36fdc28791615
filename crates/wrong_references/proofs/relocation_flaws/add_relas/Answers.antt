use Rattle.std.proofs.Common.{◌+◌, ap, drop, get_or}
use Rattle.std.proofs.lemmas.List.{drop_more}
use Rattle.relocate.specs.SymbolTables.{all_of, referring}
use Rattle.search.specs.declared.kept_lists.KeptRela.{KeptRela}
use Rattle.flaws.specs.Flaws.{AreAdded}
use Rattle.wrong_references.specs.Entries.{entries_in, entries_of_relas, rela_entries}
use Rattle.wrong_references.specs.References.{AddsEntry, told_by}
use Rattle.flaws.proofs.Additions.{some_more}
use Rattle.wrong_references.proofs.relocation_flaws.add_relas.Goals as goal

pub loop-rela-preserved : goal.loop-rela-preserved
loop-rela-preserved g c =
    let objects = all_of c.args.referrer.now in
    let o = referring c.args.referrer.now in
    let k = c.args.referrer.now.number in
    let xs = c.kept_relas-relas.result.now in
    let i = c.loop-rela.rela-index in
    let none : KeptRela = record { target = 0; number = 0 } in
    let rela = get_or xs i none in
    let start = told_by c.args.flaws.now.items (g.T.NameTable.rows c.args.names.now) in
    record {
      told =
          some_more (AddsEntry objects) (AreAdded (AddsEntry objects) (entries_of_relas k o xs) start) (entries_of_relas k o (drop i xs))
          (entries_of_relas k o (drop (i + 1) xs)) (told_by c.loop-rela.flaws.items (g.T.NameTable.rows c.loop-rela.names))
          (told_by c.add_entries.new.flaws.items (g.T.NameTable.rows c.add_entries.new.names)) c.loop-rela.invariant.told
          (entries_in k o rela 0 (rela_entries o rela)) (ap (entries_of_relas k o) (drop_more xs i none c.loop-rela-test.true)) c.in_ok-add_entries.ensures.told;
      seen = c.in_ok-add_entries.ensures.seen;
    }
