use Rattle.std.proofs.Common.{◌∙◌, sym}
use Rattle.std.proofs.lemmas.Bool.{false≢true}
use Rattle.field_judge.proofs.RowLaws.{behind_at, front_at}
use Rattle.field_judge.proofs.rewritten.is_by.Goals as goal

pub returns-then-not-is_for : goal.returns-then-not-is_for
returns-then-not-is_for c = λ g given. (
  λ e. absurd (false≢true e),
  λ h. absurd (false≢true (sym c.if-not-is_for.true ∙ c.is_for.ensures.1 (h.type_, h.instruction))),
)

pub returns-then-not-holds_front : goal.returns-then-not-holds_front
returns-then-not-holds_front c = λ g given.
    let a = c.args.asked.now in
    let both =
    front_at c.args.image.now a.at a.offset g.at g.offset c.args.front c.saturating_sub-start.result _ _ c.holds_front.result given.at given.offset
    c.saturating_sub-start.ensures c.front_by.ensures c.holds_front.ensures in (
      λ e. absurd (false≢true e),
      λ h. absurd (false≢true (sym c.if-not-holds_front.true ∙ both.1 h.front_is)),
    )

pub returns-then-not-holds_behind : goal.returns-then-not-holds_behind
returns-then-not-holds_behind c = λ g given.
    let a = c.args.asked.now in
    let both =
    behind_at c.args.image.now a.at a.offset g.at g.offset c.nops_behind.result c.args.row c.saturating_sub-field.result c.holds_behind.result
    given.at given.offset c.saturating_sub-field.ensures c.nops_behind.ensures.exact c.holds_behind.ensures in (
      λ e. absurd (false≢true e),
      λ h. absurd (false≢true (sym c.if-not-holds_behind.true ∙ both.1 h.behind)),
    )

pub returns : goal.returns
returns c = λ g given.
    let a = c.args.asked.now in
    let front =
    front_at c.args.image.now a.at a.offset g.at g.offset c.args.front c.saturating_sub-start.result _ _ c.holds_front.result given.at given.offset
    c.saturating_sub-start.ensures c.front_by.ensures c.holds_front.ensures in
    let behind =
    behind_at c.args.image.now a.at a.offset g.at g.offset c.nops_behind.result c.args.row c.saturating_sub-field.result c.holds_behind.result
    given.at given.offset c.saturating_sub-field.ensures c.nops_behind.ensures.exact c.holds_behind.ensures in
    let for = c.is_for.ensures.0 c.if-not-is_for.false in (
      λ t. record {
        type_ = for.0;
        instruction = for.1;
        front_is = front.0 c.if-not-holds_front.false;
        field = (c.holds_field.ensures g given).0 t;
        behind = behind.0 c.if-not-holds_behind.false;
      },
      λ h. (c.holds_field.ensures g given).1 h.field,
    )
