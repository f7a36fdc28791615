use Rattle.std.proofs.Common.{◌+◌, drop, sym, ◌∙◌}
use Rattle.std.specs.Prelude.{All}
use Rattle.std.proofs.lemmas.Bool.{false≢true}
use Rattle.std.proofs.lemmas.List.{at_drop_more}
use Rattle.check_link.specs.Views.{piece_views}
use Rattle.elf_model.specs.Link.Pieces.{Piece}
use Rattle.link_fields.proofs.Lists.{left_more, left_stop}
use Rattle.input_judge.specs.Joined.{IsJoinedBy}
use Rattle.input_judge.specs.SectionSets.{has_section}
use Rattle.input_judge.proofs.joined.are_joined_by.Goals as goal

pub returns-then-not-is_joined : goal.returns-then-not-is_joined
returns-then-not-is_joined c =
    let P : Piece → Type 0 = IsJoinedBy (has_section c.args.placed.now) in
    let xs = c.args.pieces.now in
    let i = c.loop-piece.piece-index in (
      λ t. absurd (false≢true t),
      λ all. absurd
          (left_stop P (All P (piece_views xs)) (piece_views (drop i xs)) _ (piece_views (drop (i + 1) xs))
          (at_drop_more piece_views xs i _ c.loop-piece-test.true)
          (λ h. false≢true (sym c.if-not-is_joined.true ∙ c.is_joined.ensures.1 h)) c.loop-piece.invariant all),
    )

pub loop-piece-preserved : goal.loop-piece-preserved
loop-piece-preserved c =
    let P : Piece → Type 0 = IsJoinedBy (has_section c.args.placed.now) in
    let xs = c.args.pieces.now in
    let i = c.loop-piece.piece-index in
    left_more P (All P (piece_views xs)) (piece_views (drop i xs)) _ (piece_views (drop (i + 1) xs))
    (at_drop_more piece_views xs i _ c.loop-piece-test.true) (c.is_joined.ensures.0 c.if-not-is_joined.false) c.loop-piece.invariant
