use Rattle.std.proofs.Common.{◌∙◌, sym}
use Rattle.std.proofs.lemmas.Bool.{false≢true}
use Rattle.note_judge.proofs.NoteBytes.{property_few, property_front, property_note, property_rest}
use Rattle.note_judge.proofs.notes.is_property_note.Goals as goal

pub returns-then-not-holds_front : goal.returns-then-not-holds_front
returns-then-not-holds_front c = (
  λ t. absurd (false≢true t),
  λ p. sym c.if-not-holds_front.true ∙ c.holds_front.ensures.1 (property_front c.args.image.now c.args.allowed c.args.n.now p),
)

pub returns-then-not-holds_property : goal.returns-then-not-holds_property
returns-then-not-holds_property c = (
  λ t. absurd (false≢true t),
  λ p. sym c.if-not-holds_property.true ∙ c.holds_property.ensures.1 (property_rest c.args.image.now c.args.allowed c.args.n.now p),
)

pub returns : goal.returns
returns c = (
  λ yes.
      property_note c.args.image.now c.args.allowed c.args.n.now c.if-n-ne32.false (c.holds_front.ensures.0 c.if-not-holds_front.false)
      (c.holds_property.ensures.0 c.if-not-holds_property.false) (c.holds_few.ensures.0 yes),
  λ p. c.holds_few.ensures.1 (property_few c.args.image.now c.args.allowed c.args.n.now p),
)
