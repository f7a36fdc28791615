use Rattle.std.proofs.Common.{◌++◌, ◌∷◌, [], List, ap, get_or, sym}
use Rattle.elf_model.specs.Link.Pieces.{Piece}
use Rattle.search.proofs.KeptWalks.{pieces_more}
use Rattle.search.specs.KeptLists.{piece_at}
use Rattle.search.specs.Views.{loaded_view}
use Rattle.resolve.specs.OutputSections.{AreOutputsOf}
use Rattle.resolve.proofs.SectionWalks.{walk_more}
use Rattle.resolve.proofs.output_sections.add_object.Goals as goal

pub loop-section-init : goal.loop-section-init
loop-section-init c = λ done are. record {
  seen = done;
  holds = are;
  is = ap (λ (ps : List Piece). done ++ ps) (sym (c.kept_sections-sections.ensures.pieces c.args.number));
}

pub loop-section-preserved : goal.loop-section-preserved
loop-section-preserved c = λ done are.
    let n = c.args.number in
    let o = loaded_view c.args.loaded.now in
    let is = c.kept_sections-sections.result.now in
    let i = c.loop-section.section-index in
    walk_more (λ ps. AreOutputsOf ps c.loop-section.index.keys c.loop-section.numbers.items) (λ ps. AreOutputsOf ps c.add_section.new.index.keys c.add_section.new.numbers.items)
    (piece_at n o (get_or is i 0) ∷ []) _ _ _ (pieces_more n o is i 0 c.loop-section-test.true) c.in_ok-add_section.ensures (c.loop-section.invariant done are)
