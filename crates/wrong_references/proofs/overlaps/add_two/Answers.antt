use Rattle.std.proofs.Common.{inl, inr, refl}
use Rattle.std.proofs.lemmas.Bool.{false≢true}
use Rattle.wrong_references.proofs.overlaps.add_two.Goals as goal

pub returns-then-are_apart : goal.returns-then-are_apart
returns-then-are_apart c = inl (c.if-are_apart.ensures.0 refl, refl)

pub returns : goal.returns
returns c = inr (λ a. false≢true (c.if-are_apart.ensures.1 a), c.in_ok-push.ensures.items)
