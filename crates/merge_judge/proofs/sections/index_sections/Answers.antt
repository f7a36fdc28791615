use Rattle.std.proofs.Common.{arith}
use Rattle.std.proofs.lemmas.List.{get_or-map, length-map}
use Rattle.check_link.specs.PlaceIndex.{address_in}
use Rattle.check_link.specs.Views.{piece_view, piece_views}
use Rattle.merge_judge.proofs.SectionLaws.{one_more}
use Rattle.merge_judge.proofs.sections.index_sections.Goals as goal

pub loop-k-preserved : goal.loop-k-preserved
loop-k-preserved c = λ object section.
    let pieces = c.args.pieces.now in
    let k = c.loop-k.k in
    one_more object section (piece_views pieces) k _ (omega (arith, length-map pieces piece_view, c.loop-k-test.true))
    (get_or-map piece_view pieces k _ _ c.loop-k-test.true)
    (address_in c.loop-k.index object section) (address_in c.add_section.new.index object section)
    (c.in_ok-add_section.ensures object section) (c.loop-k.invariant object section)
