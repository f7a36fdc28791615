use Rattle.std.specs.Prelude.{All}
use Rattle.explain.specs.Notes.{IsNote}
use Rattle.explain.proofs.notes.notes_of.Given as goal

abbrev pub invariant-loop-place : goal.invariant-loop-place
invariant-loop-place l = All (IsNote l.loaded) l.notes.items
