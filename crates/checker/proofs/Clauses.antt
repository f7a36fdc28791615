-- The clauses in their order: from one to the next, and that the least that fails is one.
use Rattle.std.proofs.Common.{◌≡◌, ℕ, zero, suc, ◌+◌, ◌<◌, ◌≤◌, ◌⊎◌, inl, inr, ⊎_elim, List, [], ◌∷◌, get_or, refl, subst, sym, ◌∙◌, ap, arith}
use Rattle.std.proofs.lemmas.Bool.Decides.{eqb_tells}
use Rattle.elf_model.specs.Image.RightLink.{Holds, HoldsBefore, Subject, clause_number}
use Rattle.elf_model.specs.declared.verdict.Clause.{Clause}
use Rattle.elf_model.specs.declared.verdict.Clause.TheVariants.{C1, C2, C3, C4, C5, C6, C7, C8, C9, C10, C11, C12, C13, C14}

abbrev clauses : List Clause
clauses = C1 ∷ C2 ∷ C3 ∷ C4 ∷ C5 ∷ C6 ∷ C7 ∷ C8 ∷ C9 ∷ C10 ∷ C11 ∷ C12 ∷ C13 ∷ C14 ∷ []

-- the clause that has a number
abbrev clause_at : ℕ → Clause
clause_at n = get_or (C1 ∷ clauses) n C1

at_number : (c : Clause) → clause_at (clause_number c) ≡ c
at_number C1 = refl
at_number C2 = refl
at_number C3 = refl
at_number C4 = refl
at_number C5 = refl
at_number C6 = refl
at_number C7 = refl
at_number C8 = refl
at_number C9 = refl
at_number C10 = refl
at_number C11 = refl
at_number C12 = refl
at_number C13 = refl
at_number C14 = refl

within : (c : Clause) → clause_number c ≤ 14
within C1 = omega arith
within C2 = omega arith
within C3 = omega arith
within C4 = omega arith
within C5 = omega arith
within C6 = omega arith
within C7 = omega arith
within C8 = omega arith
within C9 = omega arith
within C10 = omega arith
within C11 = omega arith
within C12 = omega arith
within C13 = omega arith
within C14 = omega arith

pub same_clause : (c d : Clause) → clause_number c ≡ clause_number d → c ≡ d
same_clause c d e = sym (at_number c) ∙ (ap clause_at e ∙ at_number d)

same_or_not : (a b : ℕ) → (a ≡ b) ⊎ (a ≡ b → ⊥)
same_or_not a b = ⊎_elim (λ h. inl h.1) (λ h. inr h.1) (eqb_tells a b)

module _ (s : Subject) where
  -- the first clause holds of each subject
  pub before_second : HoldsBefore C2 s
  before_second d low = by (clause_number d) refl low
    where
      first : C1 ≡ d → Holds d s
      first e = subst (λ (c : Clause). Holds c s) e tt

      by : (n : ℕ) → n ≡ clause_number d → n < 2 → Holds d s
      by zero e small = first (ap clause_at e ∙ at_number d)
      by (suc zero) e small = first (ap clause_at e ∙ at_number d)
      by (suc (suc n)) e small = absurd (omega (arith, small))

  -- those before the next clause hold where those before a clause do, and it
  pub before_next : (c d : Clause) → clause_number d ≡ clause_number c + 1 → HoldsBefore c s → Holds c s → HoldsBefore d s
  before_next c d next before here e low = by (same_or_not (clause_number e) (clause_number c))
    where
      by : (clause_number e ≡ clause_number c) ⊎ (clause_number e ≡ clause_number c → ⊥) → Holds e s
      by (inl same) = subst (λ (x : Clause). Holds x s) (sym (same_clause e c same)) here
      by (inr other) = before e (omega (arith, low, next, other))

  pub all_hold : HoldsBefore C14 s → Holds C14 s → (c : Clause) → Holds c s
  all_hold before last c = by (same_or_not (clause_number c) 14)
    where
      by : (clause_number c ≡ 14) ⊎ (clause_number c ≡ 14 → ⊥) → Holds c s
      by (inl same) = subst (λ (x : Clause). Holds x s) (sym (same_clause c C14 same)) last
      by (inr other) = before c (let most = within c in omega (arith, other, most))
