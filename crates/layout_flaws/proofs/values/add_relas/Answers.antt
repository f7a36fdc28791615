use Rattle.std.proofs.Common.{◌+◌, List, ap, arith, drop, get_or, refl, subst, sym}
use Rattle.std.proofs.lemmas.List.{drop_all, drop_more}
use Rattle.relocate.specs.SymbolTables.{all_valued, valued_object, where_of}
use Rattle.search.specs.declared.kept_lists.KeptRela.{KeptRela}
use Rattle.flaws.proofs.Additions.{some_more}
use Rattle.flaws.specs.Flaws.{AreAdded}
use Rattle.wrong_references.specs.Entries.{entries_in, entries_of_relas, rela_entries}
use Rattle.layout_flaws.specs.LayoutFlaws.{AddsUnfit}
use Rattle.layout_flaws.proofs.values.add_relas.Goals as goal

pub loop-rela-preserved : goal.loop-rela-preserved
loop-rela-preserved c =
    let v = c.args.valued.now in
    let objects = all_valued v in
    let w = where_of v in
    let o = valued_object v in
    let k = v.number in
    let xs = c.kept_relas-relas.result.now in
    let i = c.loop-rela.rela-index in
    let none : KeptRela = record { target = 0; number = 0 } in
    let rela = get_or xs i none in
    some_more (AddsUnfit objects w) (AreAdded (AddsUnfit objects w) (entries_of_relas k o xs) c.args.flaws.now.items) (entries_of_relas k o (drop i xs))
    (entries_of_relas k o (drop (i + 1) xs)) c.loop-rela.flaws.items c.add_entries.new.flaws.items c.loop-rela.invariant
    (entries_in k o rela 0 (rela_entries o rela)) (ap (entries_of_relas k o) (drop_more xs i none c.loop-rela-test.true)) c.in_ok-add_entries.ensures

pub returns : goal.returns
returns c =
    let v = c.args.valued.now in
    let objects = all_valued v in
    let w = where_of v in
    let o = valued_object v in
    let k = v.number in
    let xs = c.kept_relas-relas.result.now in
    let i = c.loop-rela.rela-index in
    let end = c.loop-rela.flaws.items in
    let left = drop_all i xs (omega (arith, c.loop-rela-test.false)) in
    subst (λ (ys : List KeptRela). AreAdded (AddsUnfit objects w) (entries_of_relas k o ys) c.args.flaws.now.items end) c.kept_relas-relas.ensures.exact
    (c.loop-rela.invariant end (subst (λ (ys : List KeptRela). AreAdded (AddsUnfit objects w) (entries_of_relas k o ys) end end) (sym left) refl))
