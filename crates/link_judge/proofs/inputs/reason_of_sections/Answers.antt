use Rattle.std.proofs.Common.{subst}
use Rattle.std.specs.Prelude.{All}
use Rattle.judge_model.specs.RightForeign.{IsWholeArray}
use Rattle.link_judge.proofs.inputs.reason_of_sections.Goals as goal

pub returns-clause-sound : goal.returns-clause-sound
returns-clause-sound c = λ _. record {
  arrays = subst (All IsWholeArray) c.pieces.ensures (c.are_arrays_whole.ensures.0 c.if-not-are_arrays_whole.false);
  unedited = c.in_ok-are_pieces_unedited.ensures.0 c.if-not-branch.false;
  framed = c.in_ok-are_frames_readable.ensures.0 c.if-not-branch-2.false;
  joined = c.in_ok-are_properties_joined.ensures.0 c.if-not-branch-3.false;
  unmixed = c.in_ok-are_bounds_unmixed.ensures.0 c.if-not-branch-4.false;
}
