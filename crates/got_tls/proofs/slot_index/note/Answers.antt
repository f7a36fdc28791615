use Rattle.std.proofs.Common.{◌≡◌, ◌⊎◌, inl, inr, List, ℕ, subst}
use Rattle.got_tls.specs.Positions.{AreNoted, IsNoted}
use Rattle.got_tls.proofs.NotedPositions.{noted_one}
use Rattle.got_tls.proofs.slot_index.note.Goals as goal
