use Rattle.std.proofs.Common.{take}
use Rattle.std.specs.Prelude.{All}
use Rattle.note_judge.specs.Notes.{IsNoteBy}
use Rattle.note_judge.proofs.notes.is_each_right.Given as goal

abbrev pub invariant-loop-n : goal.invariant-loop-n
invariant-loop-n l = All (IsNoteBy l.image l.allowed) (take l.n-index l.notes)
