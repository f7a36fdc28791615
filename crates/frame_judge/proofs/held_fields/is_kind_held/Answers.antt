use Rattle.std.proofs.Common.{List, ap, subst, arith}
use Rattle.std.proofs.lemmas.Bool.{false≢true}
use Rattle.field_judge.specs.Kinds.{kind_view}
use Rattle.judge_model.specs.Headers.{IsProgram}
use Rattle.link_fields.specs.Parts.{Parts}
use Rattle.frame_judge.proofs.HeldLaws.{held_low}
use Rattle.frame_judge.specs.Held.{moved_to}
use Rattle.frame_judge.proofs.held_fields.is_kind_held.Goals as goal

pub returns-then-at : goal.returns-then-at
returns-then-at c = λ g given. (
  λ t. absurd (false≢true t),
  λ held.
      absurd
      (let high = c.if-at.true in
      let program = subst IsProgram (ap (λ (q : Parts). q.image) c.parts.view_is) c.image-program.ensures.program in
      held_low program c.args.taken.now g (kind_view c.args.kind.now) c.args.at c.requires.width (omega (arith, high)) held),
)

pub returns : goal.returns
returns c = λ g given. c.is_held_by.ensures (moved_to g c.args.at) (c.asked_at.ensures c.args.parts.now.image g given)
