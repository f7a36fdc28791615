use Rattle.std.proofs.lemmas.List.Elements.{All-push}
use Rattle.explain.specs.Places.{IsSo}
use Rattle.explain.proofs.place.Found.add.Goals as goal

pub returns : goal.returns
returns c = λ g so is. rw c.in_ok-push.ensures.items (All-push (IsSo g) _ _ so (rw c.in-Some.is at is))
