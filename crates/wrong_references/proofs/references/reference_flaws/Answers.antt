use Rattle.std.proofs.Common.{List, [], subst}
use Rattle.elf_model.specs.Link.Loading.{LoadedObject}
use Rattle.search.specs.Views.{loaded_views}
use Rattle.symbols.specs.Lists.{row_in}
use Rattle.symbols.specs.Rows.{Rows}
use Rattle.flaws.specs.Flaws.{AreAdded}
use Rattle.wrong_references.specs.Entries.{entries}
use Rattle.wrong_references.specs.Overlaps.{AddsOverlaps, numbered}
use Rattle.wrong_references.specs.References.{AddsEntry, AreReferenceFlaws, told_by}
use Rattle.wrong_references.specs.declared.flaw.ReferenceFlaw.{ReferenceFlaw}
use Rattle.wrong_references.proofs.EachReference.{reference_each}
use Rattle.wrong_references.proofs.Unwrong.{unwrong}
use Rattle.wrong_references.proofs.references.reference_flaws.Goals as goal

are_all : (c : goal.After-drop-mixed-2) → AreReferenceFlaws c.args.loaded.now.objects c.args.loaded.now.plan.entry c.add_all_overlaps.new.flaws.items
are_all c =
    let objects = c.args.loaded.now.objects in
    let told = told_by c.add_all_relocations.new.flaws.items (row_in c.add_all_relocations.new.names) in
    let rows = row_in c.with_hasher-names.result in
    let some = c.new-flaws.result.items in
    let resolved =
    subst (λ (os : List LoadedObject). AreAdded (AddsEntry os) (entries (loaded_views c.objects.result.now)) (told_by some rows) told) c.requires
    c.in_ok-add_all_relocations.ensures in
    let listed = subst (λ (os : List LoadedObject). AreAdded (AddsEntry objects) (entries os) (told_by some rows) told) c.objects.ensures.exact resolved in
    let empty = subst (λ (fs : List ReferenceFlaw). AreAdded (AddsEntry objects) (entries objects) (told_by fs rows) told) c.new-flaws.ensures.items listed in
    let added = subst (λ (rs : Rows). AreAdded (AddsEntry objects) (entries objects) (told_by [] rs) told) c.with_hasher-names.ensures empty in
    let overlaps =
    subst (λ (os : List LoadedObject). AreAdded AddsOverlaps (numbered 0 os) c.add_entry.new.flaws.items c.add_all_overlaps.new.flaws.items) c.objects-2.ensures.exact
    c.in_ok-add_all_overlaps.ensures in
    (told, added, c.add_entry.new.flaws.items, c.in_ok-add_entry.ensures, overlaps)

pub returns-clause-all : goal.returns-clause-all
returns-clause-all c = are_all c

pub returns-clause-each : goal.returns-clause-each
returns-clause-each c = reference_each c.args.loaded.now c.add_all_overlaps.new.flaws.items (are_all c)

pub returns-clause-none : goal.returns-clause-none
returns-clause-none c = unwrong c.args.loaded.now.objects c.args.loaded.now.plan.entry c.add_all_overlaps.new.flaws.items (are_all c)
