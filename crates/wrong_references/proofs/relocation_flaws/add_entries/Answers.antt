use Rattle.std.proofs.Common.{ℕ, ◌+◌, ◌<◌, drop, subst}
use Rattle.std.proofs.lemmas.List.{at_drop_more}
use Rattle.elf_model.specs.declared.records.Rela.{Rela}
use Rattle.elf_read.specs.Reading.{null_rela}
use Rattle.relocate.specs.SymbolTables.{all_of, referring}
use Rattle.flaws.specs.Flaws.{AreAdded}
use Rattle.wrong_references.specs.Entries.{entries_in, entry_of}
use Rattle.wrong_references.specs.References.{AddsEntry, told_by}
use Rattle.flaws.proofs.Additions.{one_more}
use Rattle.wrong_references.proofs.relocation_flaws.add_entries.Goals as goal

pub loop-number-preserved : goal.loop-number-preserved
loop-number-preserved g c =
    let objects = all_of c.args.referrer.now in
    let o = referring c.args.referrer.now in
    let k = c.args.referrer.now.number in
    let rela = c.args.rela in
    let xs = c.all_entries-run.result in
    let n = c.loop-number.number in
    let start = told_by c.args.flaws.now.items (g.T.NameTable.rows c.args.names.now) in
    let before = told_by c.loop-number.flaws.items (g.T.NameTable.rows c.loop-number.names) in
    let after = told_by c.add_entry.new.flaws.items (g.T.NameTable.rows c.add_entry.new.names) in
    let within = subst (λ (m : ℕ). n < m) c.len-number-end.ensures c.loop-number-test.true in
    record {
      told =
          one_more (AddsEntry objects) (AreAdded (AddsEntry objects) (entries_in k o rela 0 xs) start) (entries_in k o rela n (drop n xs))
          (entries_in k o rela (n + 1) (drop (n + 1) xs)) before after c.loop-number.invariant.told _ (at_drop_more (entries_in k o rela n) xs n null_rela within)
          (subst (λ (x : Rela). AddsEntry objects (entry_of k o rela n x) before after) c.at-entry.ensures c.in_ok-add_entry.ensures.told);
      seen = c.in_ok-add_entry.ensures.seen;
    }
