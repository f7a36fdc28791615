use Rattle.std.proofs.Common.{drop}
use Rattle.relocate.specs.SymbolTables.{all_of, referring}
use Rattle.flaws.specs.Flaws.{AreAdded}
use Rattle.wrong_references.specs.Entries.{entries_in}
use Rattle.wrong_references.specs.References.{AddsEntry, Told, told_by}
use Rattle.wrong_references.specs.Seen.{AreSeen}
use Rattle.wrong_references.proofs.relocation_flaws.add_entries.Given as goal

abbrev pub invariant-loop-number : goal.invariant-loop-number
invariant-loop-number g l = record {
  told :
      (end : Told) → AreAdded (AddsEntry (all_of l.referrer)) (entries_in l.referrer.number (referring l.referrer) l.rela l.number (drop l.number l.run)) (told_by l.flaws.items (g.T.NameTable.rows l.names)) end
      → AreAdded (AddsEntry (all_of l.referrer)) (entries_in l.referrer.number (referring l.referrer) l.rela 0 l.run) (told_by l.fn.flaws.items (g.T.NameTable.rows l.fn.names)) end;
  seen : AreSeen (referring l.referrer) l.seen.items (told_by l.flaws.items (g.T.NameTable.rows l.names));
}
