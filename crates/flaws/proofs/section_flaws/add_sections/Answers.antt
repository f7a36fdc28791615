use Rattle.std.proofs.Common.{◌≡◌, ◌∙◌, ℕ, List, ◌∷◌, [], ◌+◌, drop, get_or, ap, subst, sym}
use Rattle.std.specs.Prelude.{All, map}
use Rattle.std.proofs.lemmas.List.{drop_more}
use Rattle.elf_model.specs.Link.Pieces.{Piece}
use Rattle.search.specs.KeptLists.{IsKeptSection, piece_at, pieces_at}
use Rattle.search.specs.Views.{loaded_view}
use Rattle.flaws.specs.Flaws.{AddsSection, AreAdded}
use Rattle.flaws.specs.declared.flaw.Flaw.{Flaw}
use Rattle.flaws.proofs.Additions.{one_more}
use Rattle.flaws.proofs.section_flaws.add_sections.Goals as goal

pub add_section-requires : goal.add_section-requires
add_section-requires c = c.kept_sections-sections.ensures.kept c.loop-section.section-index 0 c.loop-section-test.true

pub loop-section-preserved : goal.loop-section-preserved
loop-section-preserved c =
    let o = loaded_view c.args.one.now in
    let k = c.args.object in
    let xs = c.kept_sections-sections.result.now in
    let i = c.loop-section.section-index in
    one_more AddsSection (AreAdded AddsSection (pieces_at k o xs) c.args.flaws.now.items) (pieces_at k o (drop i xs))
    (pieces_at k o (drop (i + 1) xs)) c.loop-section.flaws.items c.add_section.new.flaws.items c.loop-section.invariant _
    (ap (pieces_at k o) (drop_more xs i 0 c.loop-section-test.true)) c.in_ok-add_section.ensures
