use Rattle.std.proofs.Common.{◌≡◌, ◌||◌, ℕ, List, drop}
use Rattle.std.specs.List.{list_any}
use Rattle.check_link.specs.Views.{piece_view}
use Rattle.keep_judge.specs.Collected.{has_name, is_lost_by}
use Rattle.keep_judge.proofs.asked_bounds.lost_among.Given as goal

abbrev pub invariant-loop-piece : goal.invariant-loop-piece
invariant-loop-piece l =
    (name : List ℕ) → (has_name l.lost name || list_any (λ p. is_lost_by l.drops name (piece_view p)) (drop l.piece-index l.pieces))
    ≡ list_any (λ p. is_lost_by l.drops name (piece_view p)) l.pieces
