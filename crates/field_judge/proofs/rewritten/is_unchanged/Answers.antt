use Rattle.std.proofs.Common.{◌∙◌, ℕ, subst, sym}
use Rattle.std.proofs.lemmas.Bool.{false≢true}
use Rattle.judge_model.specs.Memory.{Holds}
use Rattle.judge_model.specs.Rewrites.{front_bytes}
use Rattle.field_judge.proofs.SomeRow.{place_is}
use Rattle.field_judge.specs.Rewritten.{instruction_view}
use Rattle.field_judge.proofs.rewritten.is_unchanged.Goals as goal

pub returns-then-not-holds_instruction : goal.returns-then-not-holds_instruction
returns-then-not-holds_instruction c = λ g given.
    let a = c.args.asked.now in
    let same = place_is a.at a.offset g.at g.offset c.args.front c.saturating_sub-start.result given.at given.offset c.saturating_sub-start.ensures in (
      λ e. absurd (false≢true e),
      λ u.
          absurd
          (false≢true
          (sym c.if-not-holds_instruction.true
          ∙ c.holds_instruction.ensures.1
          (subst (λ (n : ℕ). Holds c.args.image.now n (front_bytes (instruction_view c.args.i))) (sym same) (u.front_is c.requires)))),
    )

pub returns : goal.returns
returns c = λ g given.
    let a = c.args.asked.now in
    let same = place_is a.at a.offset g.at g.offset c.args.front c.saturating_sub-start.result given.at given.offset c.saturating_sub-start.ensures in (
      λ t. record {
        front_is = λ some.
            subst (λ (n : ℕ). Holds c.args.image.now n (front_bytes (instruction_view c.args.i))) same
            (c.holds_instruction.ensures.0 c.if-not-holds_instruction.false);
        field = (c.is_of_kind.ensures g given).0 t;
      },
      λ u. (c.is_of_kind.ensures g given).1 u.field,
    )
