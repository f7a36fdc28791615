use Rattle.std.proofs.Common.{drop}
use Rattle.relocate.specs.SymbolTables.{all_of, referring}
use Rattle.flaws.specs.Flaws.{AreAdded}
use Rattle.wrong_references.specs.Entries.{entries_of_relas}
use Rattle.wrong_references.specs.References.{AddsEntry, Told, told_by}
use Rattle.wrong_references.specs.Seen.{AreSeen}
use Rattle.wrong_references.proofs.relocation_flaws.add_relas.Given as goal

abbrev pub invariant-loop-rela : goal.invariant-loop-rela
invariant-loop-rela g l = record {
  told :
      (end : Told) → AreAdded (AddsEntry (all_of l.referrer)) (entries_of_relas l.referrer.number (referring l.referrer) (drop l.rela-index l.relas)) (told_by l.flaws.items (g.T.NameTable.rows l.names)) end
      → AreAdded (AddsEntry (all_of l.referrer)) (entries_of_relas l.referrer.number (referring l.referrer) l.relas) (told_by l.fn.flaws.items (g.T.NameTable.rows l.fn.names)) end;
  seen : AreSeen (referring l.referrer) l.seen.items (told_by l.flaws.items (g.T.NameTable.rows l.names));
}
