use Rattle.std.proofs.Common.{◌+◌, drop, ap}
use Rattle.std.proofs.lemmas.List.{drop_more}
use Rattle.search.specs.KeptLists.{pieces_at}
use Rattle.search.specs.Views.{loaded_view}
use Rattle.flaws.proofs.Additions.{one_more}
use Rattle.flaws.specs.Flaws.{AreAdded}
use Rattle.layout_flaws.specs.LayoutFlaws.{AddsLarge}
use Rattle.layout_flaws.proofs.sections.add_sections.Goals as goal

pub add_section-requires-clause-kept : goal.add_section-requires-clause-kept
add_section-requires-clause-kept c = c.kept_sections-sections.ensures.kept c.loop-section.section-index 0 c.loop-section-test.true

pub loop-section-preserved : goal.loop-section-preserved
loop-section-preserved c =
    let base = c.args.base in
    let o = loaded_view c.args.one.now in
    let k = c.args.object in
    let xs = c.kept_sections-sections.result.now in
    let i = c.loop-section.section-index in
    one_more (AddsLarge base) (AreAdded (AddsLarge base) (pieces_at k o xs) c.args.flaws.now.items) (pieces_at k o (drop i xs))
    (pieces_at k o (drop (i + 1) xs)) c.loop-section.flaws.items c.add_section.new.flaws.items c.loop-section.invariant _
    (ap (pieces_at k o) (drop_more xs i 0 c.loop-section-test.true)) c.in_ok-add_section.ensures
