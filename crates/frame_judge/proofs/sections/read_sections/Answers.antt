use Rattle.std.proofs.Common.{◌≡◌, ◌+◌, ◌++◌, ◌∙◌, ◌∷◌, [], List, ℕ, Option, None, Some, ap, drop, refl, sym, subst, arith}
use Rattle.std.specs.Prelude.{All, SomeIff}
use Rattle.std.proofs.lemmas.Bool.{false≢true}
use Rattle.std.proofs.lemmas.List.{append_assoc, at_drop_more}
use Rattle.check_link.specs.Views.{piece_view, piece_views}
use Rattle.elf_model.specs.Link.Pieces.{Piece}
use Rattle.judge_model.specs.Frames.{IsReadable}
use Rattle.link_fields.proofs.Lists.{left_more, left_stop}
use Rattle.frame_judge.specs.Sections.{piece_bytes}
use Rattle.frame_judge.proofs.Found.{some_iff, none_iff}
use Rattle.frame_judge.proofs.sections.read_sections.Goals as goal

bytes :
    (all : List (List ℕ)) (frames : List ℕ) (more : List (List ℕ)) (rest : List Piece) (p : Piece) (behind : List Piece) (whole : List (List ℕ)) →
    more ≡ all ++ frames ∷ [] → frames ≡ p.bytes → rest ≡ p ∷ behind → all ++ piece_bytes rest ≡ whole → more ++ piece_bytes behind ≡ whole
bytes all frames more rest p behind whole items same parts before =
    ap (λ (xs : List (List ℕ)). xs ++ piece_bytes behind) (items ∙ ap (λ (b : List ℕ). all ++ b ∷ []) same)
    ∙ (append_assoc all (p.bytes ∷ []) (piece_bytes behind) ∙ (ap (λ (ps : List Piece). all ++ piece_bytes ps) (sym parts) ∙ before))

pub loop-piece-preserved : goal.loop-piece-preserved
loop-piece-preserved c =
    let xs = c.args.pieces.now in
    let i = c.loop-piece.piece-index in
    let read = some_iff _ _ _ c.in-Some.frames c.in-Some.is c.in_ok-frames.ensures in
    let parts = at_drop_more piece_views xs i _ c.loop-piece-test.true in (
      left_more IsReadable (All IsReadable (piece_views xs)) (piece_views (drop i xs)) _ (piece_views (drop (i + 1) xs)) parts read.0 c.loop-piece.invariant.0,
      bytes c.loop-piece.all.items c.in-Some.frames c.push.new.self.items (piece_views (drop i xs)) _ (piece_views (drop (i + 1) xs))
          (piece_bytes (piece_views xs)) c.in_ok-push.ensures.items read.1 parts c.loop-piece.invariant.1,
    )

pub returns-in_default-clause-only : goal.returns-in_default-clause-only
returns-in_default-clause-only c =
    let xs = c.args.pieces.now in
    let i = c.loop-piece.piece-index in
    λ all. absurd
    (left_stop IsReadable (All IsReadable (piece_views xs)) (piece_views (drop i xs)) _ (piece_views (drop (i + 1) xs))
    (at_drop_more piece_views xs i _ c.loop-piece-test.true) (none_iff _ _ _ c.in_default.is c.in_ok-frames.ensures) c.loop-piece.invariant.0 all)
