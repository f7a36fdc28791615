use Rattle.std.proofs.Common.{ℕ, ◌+◌, ◌<◌, List, arith, drop, refl, subst, sym}
use Rattle.std.proofs.lemmas.List.{at_drop_more, drop_all}
use Rattle.elf_model.specs.declared.records.Rela.{Rela}
use Rattle.elf_read.specs.Reading.{null_rela}
use Rattle.relocate.specs.SymbolTables.{all_valued, valued_object, where_of}
use Rattle.flaws.proofs.Additions.{one_more}
use Rattle.flaws.specs.Flaws.{AreAdded}
use Rattle.wrong_references.specs.Entries.{entries_in, entry_of}
use Rattle.layout_flaws.specs.LayoutFlaws.{AddsUnfit}
use Rattle.layout_flaws.proofs.values.add_entries.Goals as goal

pub loop-number-preserved : goal.loop-number-preserved
loop-number-preserved c =
    let v = c.args.valued.now in
    let objects = all_valued v in
    let w = where_of v in
    let o = valued_object v in
    let k = v.number in
    let rela = c.args.rela in
    let xs = c.all_entries-run.result in
    let n = c.loop-number.number in
    let before = c.loop-number.flaws.items in
    let after = c.add_entry.new.flaws.items in
    let within = subst (λ (m : ℕ). n < m) c.len-number-end.ensures c.loop-number-test.true in
    one_more (AddsUnfit objects w) (AreAdded (AddsUnfit objects w) (entries_in k o rela 0 xs) c.args.flaws.now.items) (entries_in k o rela n (drop n xs))
    (entries_in k o rela (n + 1) (drop (n + 1) xs)) before after c.loop-number.invariant _ (at_drop_more (entries_in k o rela n) xs n null_rela within)
    (subst (λ (x : Rela). AddsUnfit objects w (entry_of k o rela n x) before after) c.at-entry.ensures c.in_ok-add_entry.ensures)

pub returns : goal.returns
returns c =
    let v = c.args.valued.now in
    let objects = all_valued v in
    let w = where_of v in
    let o = valued_object v in
    let k = v.number in
    let rela = c.args.rela in
    let xs = c.all_entries-run.result in
    let n = c.loop-number.number in
    let end = c.loop-number.flaws.items in
    let left = drop_all n xs (omega (arith, c.loop-number-test.false, c.len-number-end.ensures)) in
    subst (λ (ys : List Rela). AreAdded (AddsUnfit objects w) (entries_in k o rela 0 ys) c.args.flaws.now.items end) c.all_entries-run.ensures
    (c.loop-number.invariant end (subst (λ (ys : List Rela). AreAdded (AddsUnfit objects w) (entries_in k o rela n ys) end end) (sym left) refl))
