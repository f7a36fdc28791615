-- The requirements in their order: from one to the next.
use Rattle.std.proofs.Common.{◌≡◌, ℕ, ◌+◌, ◌≤◌, ◌⊎◌, inl, inr, ⊎_elim, List, [], ◌∷◌, get_or, refl, subst, sym, ◌∙◌, ap, arith}
use Rattle.std.proofs.lemmas.Bool.Decides.{eqb_tells}
use Rattle.judge_model.specs.Links.{ForeignLink}
use Rattle.judge_model.specs.RightForeign.{Holds}
use Rattle.judge_model.specs.declared.judgement.Requirement.{Requirement}
use Rattle.judge_model.specs.declared.judgement.Requirement.TheVariants.{F1, F2, F3, F4, F5, F6, F7, F8, F9, F10, F11, F12, F13}
use Rattle.link_judge.specs.Judged.{HoldsBefore, requirement_number}

abbrev requirements : List Requirement
requirements = F1 ∷ F2 ∷ F3 ∷ F4 ∷ F5 ∷ F6 ∷ F7 ∷ F8 ∷ F9 ∷ F10 ∷ F11 ∷ F12 ∷ F13 ∷ []

-- the requirement that has a number
abbrev requirement_at : ℕ → Requirement
requirement_at n = get_or (F1 ∷ requirements) n F1

at_number : (f : Requirement) → requirement_at (requirement_number f) ≡ f
at_number F1 = refl
at_number F2 = refl
at_number F3 = refl
at_number F4 = refl
at_number F5 = refl
at_number F6 = refl
at_number F7 = refl
at_number F8 = refl
at_number F9 = refl
at_number F10 = refl
at_number F11 = refl
at_number F12 = refl
at_number F13 = refl

within : (f : Requirement) → requirement_number f ≤ 13
within F1 = omega arith
within F2 = omega arith
within F3 = omega arith
within F4 = omega arith
within F5 = omega arith
within F6 = omega arith
within F7 = omega arith
within F8 = omega arith
within F9 = omega arith
within F10 = omega arith
within F11 = omega arith
within F12 = omega arith
within F13 = omega arith

same_requirement : (f g : Requirement) → requirement_number f ≡ requirement_number g → f ≡ g
same_requirement f g e = sym (at_number f) ∙ (ap requirement_at e ∙ at_number g)

same_or_not : (a b : ℕ) → (a ≡ b) ⊎ (a ≡ b → ⊥)
same_or_not a b = ⊎_elim (λ h. inl h.1) (λ h. inr h.1) (eqb_tells a b)

module _ (l : ForeignLink) where
  -- those before the next requirement hold where those before one do, and it
  pub before_next : (f g : Requirement) → requirement_number g ≡ requirement_number f + 1 → HoldsBefore f l → Holds f l → HoldsBefore g l
  before_next f g next before here e low = by (same_or_not (requirement_number e) (requirement_number f))
    where
      by : (requirement_number e ≡ requirement_number f) ⊎ (requirement_number e ≡ requirement_number f → ⊥) → Holds e l
      by (inl same) = subst (λ (x : Requirement). Holds x l) (sym (same_requirement e f same)) here
      by (inr other) = before e (omega (arith, low, next, other))

  -- none is before the first
  pub before_first : HoldsBefore F1 l
  before_first F1 low = absurd (omega (arith, low))
  before_first F2 low = absurd (omega (arith, low))
  before_first F3 low = absurd (omega (arith, low))
  before_first F4 low = absurd (omega (arith, low))
  before_first F5 low = absurd (omega (arith, low))
  before_first F6 low = absurd (omega (arith, low))
  before_first F7 low = absurd (omega (arith, low))
  before_first F8 low = absurd (omega (arith, low))
  before_first F9 low = absurd (omega (arith, low))
  before_first F10 low = absurd (omega (arith, low))
  before_first F11 low = absurd (omega (arith, low))
  before_first F12 low = absurd (omega (arith, low))
  before_first F13 low = absurd (omega (arith, low))

  pub all_hold : HoldsBefore F13 l → Holds F13 l → (f : Requirement) → Holds f l
  all_hold before last f = by (same_or_not (requirement_number f) 13)
    where
      by : (requirement_number f ≡ 13) ⊎ (requirement_number f ≡ 13 → ⊥) → Holds f l
      by (inl same) = subst (λ (x : Requirement). Holds x l) (sym (same_requirement f F13 same)) last
      by (inr other) = before f (let most = within f in omega (arith, other, most))
