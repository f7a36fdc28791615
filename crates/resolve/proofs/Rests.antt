-- A claim on a whole list, as a claim on what is left of it: the steps of a tester's loop.
use Rattle.std.proofs.Common.{◌≡◌, Bool, true, false, List, [], ◌∷◌, ◌++◌, subst, sym, ◌∙◌, true≢false}
use Rattle.std.specs.Prelude.{◌↔◌, All, IsTrue}
use Rattle.std.proofs.lemmas.List.Elements.{All-append, All-cons, All-head, All-nil}
use Rattle.elf_model.proofs.Listed.{All-parts}

module _ {X : Type 0} (P : X → Type 0) where
  -- a test of one element, as one of a list
  pub told_one : (x : X) (b : Bool) → (IsTrue b ↔ P x) → IsTrue b ↔ All P (x ∷ [])
  told_one x b told = (λ t. All-cons P x [] (told.0 t) (All-nil P), λ all. told.1 (All-head P x [] all))

  module _ (Q : Type 0) (left front rest : List X) (is : left ≡ front ++ rest) (b : Bool) (told : IsTrue b ↔ All P front) (claim : Q ↔ All P left) where
    -- the front passes: the claim is one on the rest
    pub rest_more : b ≡ true → Q ↔ All P rest
    rest_more passes = (
      λ q. (All-parts P front rest (subst (All P) is (claim.0 q))).1,
      λ all. claim.1 (subst (All P) (sym is) (All-append P front rest (told.0 passes) all)),
    )

    -- the front fails: so does the claim
    pub rest_stop : b ≡ false → IsTrue false ↔ Q
    rest_stop fails = (
      λ t. absurd (true≢false (sym t)),
      λ q. sym fails ∙ told.1 (All-parts P front rest (subst (All P) is (claim.0 q))).0,
    )
