-- The slots of relocations, and what a walk over these has noted and what it has yet to see, as one claim: the steps of its loops.
use Rattle.std.proofs.Common.{◌≡◌, ◌∙◌, ◌⊎◌, inl, inr, ℕ, Bool, false, List, [], ◌∷◌, ◌++◌, Option, Some, ap, subst, sym}
use Rattle.std.specs.Prelude.{◌↔◌, Any, Contains, not}
use Rattle.std.proofs.lemmas.List.Elements.{Contains-append_cases, Contains-append_left, Contains-append_right}
use Rattle.std.proofs.lemmas.Option.{same_Some}
use Rattle.elf_model.proofs.Finding.{Any-from_contains, Any-here, Any-there}
use Rattle.elf_model.specs.Link.Relocation.{Kind, Relocation}
use Rattle.elf_model.specs.declared.link_map.DropLine.{DropLine}
use Rattle.elf_model.specs.declared.thing.Thing.{Thing}
use Rattle.judge_model.specs.Certificates.{is_left_out}
use Rattle.judge_model.specs.Fields.{kind_of}
use Rattle.field_judge.specs.Given.{AsksSlotAt}
use Rattle.memory_judge.proofs.SpanLaws.{Any-cases, Any-none}
use Rattle.link_fields.specs.Parts.{Parts, given}
use Rattle.link_fields.specs.Slots.{AsksSlotIn, AsksSlotUnlessOut}

-- the slot of a relocation by its kind, and of one whose section isn't left out
module _ (p : Parts) (taken : List Thing) (r : Relocation) (o : Option ℕ) where
  pub asks_by :
      (k : Kind) → Some k ≡ kind_of r → ((at : ℕ) → (o ≡ Some at) ↔ AsksSlotAt p.image taken (given p r) k at) →
      (at : ℕ) → (o ≡ Some at) ↔ AsksSlotIn p taken r at
  asks_by k is told at = (
    λ e. record { kind = k; kind_is = sym is; asks = (told at).0 e },
    λ a.
        (told at).1
        (subst (λ (j : Kind). AsksSlotAt p.image taken (given p r) j at) (same_Some a.kind k (sym a.kind_is ∙ sym is)) a.asks),
  )

  pub asks_if_kept :
      (drops : List DropLine) (b : Bool) → b ≡ is_left_out drops r.object r.section → b ≡ false →
      ((at : ℕ) → (o ≡ Some at) ↔ AsksSlotIn p taken r at) → (at : ℕ) → (o ≡ Some at) ↔ AsksSlotUnlessOut p taken drops at r
  asks_if_kept drops b is never told at = (
    λ e. record { kept = ap not (sym is ∙ never); asks = (told at).0 e },
    λ a. (told at).1 a.asks,
  )

-- a walk: S is what was noted, T what is noted once another one is seen, Q the whole claim
module _ {X : Type 0} (P : X → Type 0) (S T Q : Type 0) where
  pub seen_more : (R : Type 0) (x : X) (xs rest : List X) → xs ≡ x ∷ rest → T ↔ (S ⊎ R) → R ↔ P x → (S ⊎ Any P xs) ↔ Q → (T ⊎ Any P rest) ↔ Q
  seen_more R x xs rest are more is whole = (to, from)
    where
      step : T ↔ (S ⊎ P x)
      step = (λ t. there (more.0 t), λ s. more.1 (back s))
        where
          there : S ⊎ R → S ⊎ P x
          there (inl s) = inl s
          there (inr r) = inr (is.0 r)

          back : S ⊎ P x → S ⊎ R
          back (inl s) = inl s
          back (inr p) = inr (is.1 p)

      noted : S ⊎ P x → Q
      noted (inl s) = whole.0 (inl s)
      noted (inr p) = whole.0 (inr (subst (Any P) (sym are) (Any-here P x rest p)))

      to : T ⊎ Any P rest → Q
      to (inl t) = noted (step.0 t)
      to (inr some) = whole.0 (inr (subst (Any P) (sym are) (Any-there P x rest some)))

      left : P x ⊎ Any P rest → T ⊎ Any P rest
      left (inl p) = inl (step.1 (inr p))
      left (inr some) = inr some

      from : Q → T ⊎ Any P rest
      from q = by (whole.1 q)
        where
          by : S ⊎ Any P xs → T ⊎ Any P rest
          by (inl s) = inl (step.1 (inl s))
          by (inr some) = left (Any-cases P x rest (subst (Any P) are some))

  pub parts_more : (xs ys rest : List X) → xs ≡ ys ++ rest → T ↔ (S ⊎ Any P ys) → (S ⊎ Any P xs) ↔ Q → (T ⊎ Any P rest) ↔ Q
  parts_more xs ys rest are step whole = (to, from)
    where
      noted : S ⊎ Any P ys → Q
      noted (inl s) = whole.0 (inl s)
      noted (inr (i, x, low, is, p)) =
          whole.0 (inr (subst (Any P) (sym are) (Any-from_contains P (ys ++ rest) x (Contains-append_left ys rest x (i, low, is)) p)))

      to : T ⊎ Any P rest → Q
      to (inl t) = noted (step.0 t)
      to (inr (i, x, low, is, p)) =
          whole.0 (inr (subst (Any P) (sym are) (Any-from_contains P (ys ++ rest) x (Contains-append_right ys rest x (i, low, is)) p)))

      cases : Any P (ys ++ rest) → T ⊎ Any P rest
      cases (i, x, low, is, p) = by (Contains-append_cases ys rest x (i, low, is))
        where
          by : Contains ys x ⊎ Contains rest x → T ⊎ Any P rest
          by (inl here) = inl (step.1 (inr (Any-from_contains P ys x here p)))
          by (inr there) = inr (Any-from_contains P rest x there p)

      from : Q → T ⊎ Any P rest
      from q = by (whole.1 q)
        where
          by : S ⊎ Any P xs → T ⊎ Any P rest
          by (inl s) = inl (step.1 (inl s))
          by (inr some) = cases (subst (Any P) are some)

  pub seen_from : (xs ys : List X) → xs ≡ ys → (S ⊎ Any P xs) ↔ (S ⊎ Any P ys)
  seen_from xs ys e = subst (λ (zs : List X). (S ⊎ Any P xs) ↔ (S ⊎ Any P zs)) e (λ h. h, λ h. h)

  pub seen_none : (xs ys : List X) → (S → ⊥) → xs ≡ ys → (S ⊎ Any P xs) ↔ Any P ys
  seen_none xs ys never e = subst (λ (zs : List X). (S ⊎ Any P xs) ↔ Any P zs) e (to, λ some. inr some)
    where
      to : S ⊎ Any P xs → Any P xs
      to (inl s) = absurd (never s)
      to (inr some) = some

  pub seen_all : (xs : List X) → xs ≡ [] → (S ⊎ Any P xs) ↔ Q → S ↔ Q
  seen_all xs none whole = (λ s. whole.0 (inl s), λ q. by (whole.1 q))
    where
      by : S ⊎ Any P xs → S
      by (inl s) = s
      by (inr some) = absurd (Any-none P (subst (Any P) none some))
