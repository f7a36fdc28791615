use Rattle.std.proofs.Common.{sym, ◌∙◌}
use Rattle.std.proofs.lemmas.Bool.{false≢true}
use Rattle.std.proofs.lemmas.Option.{none-some, same_Some}
use Rattle.field_judge.proofs.OneField.{in_reach, slot_held, slot_right}
use Rattle.field_judge.specs.Given.{slot_value}
use Rattle.field_judge.specs.Kinds.{kind_view}
use Rattle.field_judge.proofs.fields.has_slot.Goals as goal

pub returns-then-holds_value : goal.returns-then-holds_value
returns-then-holds_value c = λ g v given means value.
    let image = c.args.image.now in
    let both =
    slot_right image c.args.taken.now g (kind_view c.args.kind.now) c.args.slot_kind v c.in-Some.at c.holds_value.result c.is_slot.result
    c.slot_value.result c.image-program.ensures.program means (c.holds_value.ensures g v given value) c.is_slot.ensures
    (c.slot_value.ensures image v value given.pointer) (λ u at low h. same_Some c.in-Some.at at (c.in-Some.ensures g u at given low h)) in (
      λ e. both.0 c.if-holds_value.true e,
      λ h. (both.1 h).1,
    )

pub returns-else-holds_value : goal.returns-else-holds_value
returns-else-holds_value c = λ g v given means value. (
  λ e. absurd (false≢true (sym c.if-holds_value.false ∙ e)),
  λ h.
      slot_held c.args.image.now c.args.taken.now g (kind_view c.args.kind.now) c.args.slot_kind v c.in-Some.at c.holds_value.result
      c.image-program.ensures.program means (c.holds_value.ensures g v given value)
      (λ u at low h. same_Some c.in-Some.at at (c.in-Some.ensures g u at given low h)) h,
)

pub returns-in-None : goal.returns-in-None
returns-in-None c = λ g v given means value. (
  λ e. absurd (false≢true e),
  λ (at, has).
      let image = c.args.image.now in
      let low = in_reach image c.args.taken.now at (slot_value image c.args.slot_kind has.value) c.image-program.ensures.program has.slot_is in
      absurd (none-some at (c.in-None.ensures g has.value at given low has.held)),
)
