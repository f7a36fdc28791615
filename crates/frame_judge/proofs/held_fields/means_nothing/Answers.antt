use Rattle.std.proofs.Common.{refl, sym, ◌∙◌}
use Rattle.std.proofs.lemmas.Bool.{false≢true}
use Rattle.std.proofs.lemmas.Option.{none-some}
use Rattle.frame_judge.proofs.PlainLaws.{nothing_of, something_of}
use Rattle.frame_judge.proofs.held_fields.means_nothing.Goals as goal

pub returns-in-Some : goal.returns-in-Some
returns-in-Some c = (λ t. absurd (false≢true t), λ none. absurd (something_of _ _ _ (sym c.in-Some.is ∙ c.asked_of-asked.ensures.value) none))

pub returns-in-None : goal.returns-in-None
returns-in-None c = (λ t. nothing_of _ _ (sym c.in-None.is ∙ c.asked_of-asked.ensures.value), λ none. refl)
