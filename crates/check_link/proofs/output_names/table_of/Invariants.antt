use Rattle.std.proofs.Common.{◌≡◌, ℕ, List, None, drop}
use Rattle.check_link.specs.ByName.{IsKept}
use Rattle.check_link.specs.Outputs.{seen_all, seen_now}
use Rattle.check_link.specs.Views.{piece_views}
use Rattle.check_link.proofs.output_names.table_of.Given as goal

abbrev pub invariant-loop-piece : goal.invariant-loop-piece
invariant-loop-piece l = record {
  kept : IsKept l.table;
  seen : (name : List ℕ) → seen_all name (piece_views (drop l.piece-index l.pieces)) (seen_now l.table name) ≡ seen_all name (piece_views l.pieces) None;
}
