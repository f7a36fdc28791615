use Rattle.std.proofs.Common.{◌++◌, ◌∙◌, List, Option, ap, sym}
use Rattle.elf_model.specs.Link.Pieces as pieces
use Rattle.placing.specs.Views.{piece_view, piece_views}
use Rattle.search.specs.Views.{loaded_view}
use Rattle.debug_image.specs.DebugSections.{debug_piece}
use Rattle.debug_image.specs.Lists.{some_list}
use Rattle.debug_image.proofs.RangeSteps.{filter_map_range, map_some}
use Rattle.debug_image.proofs.debug_sections.debug_pieces.Goals as goal

pub loop-i-preserved : goal.loop-i-preserved
loop-i-preserved c =
    let f = debug_piece c.args.number (loaded_view c.args.loaded.now) in
    ap piece_views c.in_ok-add_some.ensures
    ∙ map_some piece_view c.loop-i.pieces.items c.debug_piece.result
    ∙ ap (λ (o : Option pieces.Piece). piece_views c.loop-i.pieces.items ++ some_list o) c.debug_piece.ensures
    ∙ ap (λ (ps : List pieces.Piece). ps ++ some_list (f c.loop-i.i)) c.loop-i.invariant
    ∙ sym (filter_map_range f c.loop-i.i)
