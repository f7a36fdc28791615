use Rattle.std.proofs.Common.{◌+◌, drop, sym, ◌∙◌}
use Rattle.std.specs.Prelude.{All}
use Rattle.std.proofs.lemmas.Bool.{false≢true}
use Rattle.std.proofs.lemmas.List.{at_drop_more}
use Rattle.check_link.specs.Views.{piece_views}
use Rattle.judge_model.specs.RightForeign.{IsWholeArray}
use Rattle.link_fields.proofs.Lists.{left_more, left_stop}
use Rattle.input_judge.proofs.arrays.are_arrays_whole.Goals as goal

pub returns-then-not-is_whole : goal.returns-then-not-is_whole
returns-then-not-is_whole c =
    let xs = c.args.pieces.now in
    let i = c.loop-piece.piece-index in (
      λ t. absurd (false≢true t),
      λ all. absurd
          (left_stop IsWholeArray (All IsWholeArray (piece_views xs)) (piece_views (drop i xs)) _ (piece_views (drop (i + 1) xs))
          (at_drop_more piece_views xs i _ c.loop-piece-test.true)
          (λ h. false≢true (sym c.if-not-is_whole.true ∙ c.is_whole.ensures.1 h)) c.loop-piece.invariant all),
    )

pub loop-piece-preserved : goal.loop-piece-preserved
loop-piece-preserved c =
    let xs = c.args.pieces.now in
    let i = c.loop-piece.piece-index in
    left_more IsWholeArray (All IsWholeArray (piece_views xs)) (piece_views (drop i xs)) _ (piece_views (drop (i + 1) xs))
    (at_drop_more piece_views xs i _ c.loop-piece-test.true) (c.is_whole.ensures.0 c.if-not-is_whole.false) c.loop-piece.invariant
