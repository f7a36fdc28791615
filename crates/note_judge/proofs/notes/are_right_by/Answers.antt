use Rattle.note_judge.proofs.notes.are_right_by.Goals as goal

pub returns : goal.returns
returns c = (
  λ yes. record { each = c.is_each_right.ensures.0 yes; two = c.if-notes-gt-MOST_NOTES.false },
  λ right. c.is_each_right.ensures.1 right.each,
)
