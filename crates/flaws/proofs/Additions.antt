-- What the elements of a list add to the flaws, of which some are left: the steps of a loop.
use Rattle.std.proofs.Common.{◌≡◌, List, [], ◌∷◌, ◌++◌, refl, sym, subst}
use Rattle.flaws.specs.Flaws.{AreAdded}

pub added_append :
    {A B : Type 0} (Of : A → B → B → Type 0) (xs ys : List A) (before next after : B) → AreAdded Of xs before next → AreAdded Of ys next after →
    AreAdded Of (xs ++ ys) before after
added_append {A} {B} Of [] ys before next after same more = subst (λ (z : B). AreAdded Of ys z after) same more
added_append Of (x ∷ xs) ys before next after first more = (first.0, first.1, added_append Of xs ys first.0 next after first.2 more)

module _ {A B : Type 0} (Of : A → B → B → Type 0) (G : B → Type 0) (left rest : List A) (now next : B) (claim : (end : B) → AreAdded Of left now end → G end) where
  -- one more element adds what it has
  pub one_more : (x : A) → left ≡ x ∷ rest → Of x now next → (end : B) → AreAdded Of rest next end → G end
  one_more x is adds end more = claim end (subst (λ (zs : List A). AreAdded Of zs now end) (sym is) (next, adds, more))

  -- several add what they have
  pub some_more : (front : List A) → left ≡ front ++ rest → AreAdded Of front now next → (end : B) → AreAdded Of rest next end → G end
  some_more front is adds end more =
      claim end (subst (λ (zs : List A). AreAdded Of zs now end) (sym is) (added_append Of front rest now next end adds more))
