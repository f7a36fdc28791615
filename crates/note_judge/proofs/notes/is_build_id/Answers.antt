use Rattle.std.proofs.Common.{◌∙◌, sym}
use Rattle.std.proofs.lemmas.Bool.{false≢true}
use Rattle.note_judge.proofs.NoteBytes.{build_front, build_id, build_mapped}
use Rattle.note_judge.proofs.notes.is_build_id.Goals as goal

pub returns-then-not-holds_front : goal.returns-then-not-holds_front
returns-then-not-holds_front c = (
  λ t. absurd (false≢true t),
  λ id. sym c.if-not-holds_front.true ∙ c.holds_front.ensures.1 (build_front c.args.image.now c.args.n.now id),
)

pub returns : goal.returns
returns c = (
  λ yes.
      build_id c.args.image.now c.args.n.now c.if-n-lt-FRONT_SIZE.false c.if-n-gt-MOST_OF_ID.false (c.holds_front.ensures.0 c.if-not-holds_front.false)
      (c.is_mapped.ensures.0 yes),
  λ id. c.is_mapped.ensures.1 (build_mapped c.args.image.now c.args.n.now id),
)
