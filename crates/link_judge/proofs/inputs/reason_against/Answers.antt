use Rattle.link_judge.proofs.inputs.reason_against.Goals as goal

pub returns-clause-sound : goal.returns-clause-sound
returns-clause-sound c = λ _. record {
  readable = c.requires.readable;
  objects = c.are_objects_sound.ensures.0 c.if-not-are_objects_sound.false;
  sections = c.in_ok-reason.ensures.sound c.in_default.is;
  fields = c.in_ok-are_fields_sound.ensures.0 c.if-not-branch.false;
}
