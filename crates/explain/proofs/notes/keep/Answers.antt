use Rattle.std.proofs.lemmas.List.Elements.{All-push}
use Rattle.explain.specs.Notes.{IsNote}
use Rattle.explain.proofs.notes.keep.Goals as goal

pub returns : goal.returns
returns c = λ l so is. rw c.in_ok-push.ensures.items (All-push (IsNote l) _ _ so (rw c.in-Some.is at is))
