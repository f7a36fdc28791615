use Rattle.std.proofs.Common.{◌≡◌, ◌∙◌, ℕ, Bool, Option, true, subst, sym}
use Rattle.std.specs.Prelude.{is_some}
use Rattle.std.proofs.lemmas.Bool.{false≢true}
use Rattle.elf_model.specs.Link.Relocation.{IsMismatch}
use Rattle.elf_model.specs.Link.Slots.{slot_kind_of}
use Rattle.judge_model.specs.Fields.{needs_got}
use Rattle.field_judge.proofs.OneField.{needs_value, value_there}
use Rattle.field_judge.specs.Kinds.{formula_view, kind_view}
use Rattle.field_judge.proofs.fields.is_right.Goals as goal

pub returns-then-is_mismatch : goal.returns-then-is_mismatch
returns-then-is_mismatch c = λ g given. (
  λ e. absurd (false≢true e),
  λ h.
      absurd
      (h.0
      (subst (λ (t : Bool). IsMismatch (formula_view c.args.kind.now.formula) t) given.thread
      (c.is_mismatch.ensures.0 c.if-is_mismatch.true))),
)

pub returns-then-not-has_got : goal.returns-then-not-has_got
returns-then-not-has_got c = λ g given. (
  λ e. absurd (false≢true e),
  λ h.
      absurd
      (false≢true
      (sym c.if-not-has_got.true
      ∙ c.has_got.ensures.1
      (subst (λ (o : Option ℕ). needs_got (formula_view c.args.kind.now.formula) ≡ true → is_some o ≡ true) (sym given.got) h.1))),
)

pub returns-in-Some : goal.returns-in-Some
returns-in-Some c = λ g given.
    let w = value_there g.value c.in-Some.value (sym c.in-Some.is ∙ given.value) in
    let plain = c.holds_plain.ensures g w.v given w.is w.reduced in (
      λ e. (
        λ m. false≢true
            (sym c.if-is_mismatch.false
            ∙ c.is_mismatch.ensures.1 (subst (λ (t : Bool). IsMismatch (formula_view c.args.kind.now.formula) t) (sym given.thread) m)),
        subst (λ (o : Option ℕ). needs_got (formula_view c.args.kind.now.formula) ≡ true → is_some o ≡ true) given.got
            (c.has_got.ensures.0 c.if-not-has_got.false),
        plain.0 e,
      ),
      λ h. plain.1 h.2,
    )

pub returns-in-None : goal.returns-in-None
returns-in-None c = λ g given. (
  λ e. absurd (false≢true e),
  λ h.
      absurd
      (needs_value c.args.image.now c.args.taken.now g (kind_view c.args.kind.now) (slot_kind_of (formula_view c.args.kind.now.formula))
      (sym c.in-None.is ∙ given.value) h.2),
)
