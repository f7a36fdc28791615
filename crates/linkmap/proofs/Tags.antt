-- Laws of the text that bytes begin with.
use Rattle.std.proofs.Common.{◌≡◌, ℕ, Bool, true, false, cond, eqb, List, [], ◌∷◌, ◌++◌, Option, Some, None, refl, sym, ap, ◌∙◌, MatchOption}
use Rattle.std.specs.Borrow.{Bor}
use Rattle.std.specs.Prelude.{option_copied}
use Rattle.std.proofs.lemmas.Option.{none-some, same_Some}
use Rattle.std.proofs.lemmas.Bool.{eqb-true, eq-eqb}
use Rattle.linkmap.specs.Reading.{tag}

pub cond_some : {A : Type 0} (b : Bool) (x : Option A) (y : A) → cond b x None ≡ Some y → (b ≡ true) × (x ≡ Some y)
cond_some true x y e = (refl, e)
cond_some false x y e = absurd (none-some y e)

cons_is : (a b : ℕ) (xs ys : List ℕ) → a ≡ b → xs ≡ ys → a ∷ xs ≡ b ∷ ys
cons_is a b xs ys e f = cc

pub tag_takes : (t bytes rest : List ℕ) → tag t bytes ≡ Some rest → bytes ≡ t ++ rest
unfolding tag
tag_takes [] bytes rest e = same_Some bytes rest e
tag_takes (t ∷ ts) [] rest e = absurd (none-some rest e)
tag_takes (t ∷ ts) (b ∷ bytes) rest e =
    let s = cond_some (eqb b t) (tag ts bytes) rest e in
    cons_is b t bytes (ts ++ rest) (eqb-true b t s.0) (tag_takes ts bytes rest s.1)

pub tag_again : (t rest : List ℕ) → tag t (t ++ rest) ≡ Some rest
unfolding tag
tag_again [] rest = refl
tag_again (t ∷ ts) rest = rw (eq-eqb t t refl) (tag_again ts rest)

-- what `strip_prefix` says
pub tag_is : (t bytes : List ℕ) (r : Option (Bor (List ℕ))) → MatchOption r ((rest : List ℕ) → bytes ≡ t ++ rest → ⊥) (λ x. bytes ≡ t ++ x.now) → option_copied r ≡ tag t bytes
tag_is t bytes None h = by_none (tag t bytes) (λ rest e. h rest (tag_takes t bytes rest e)) where
  by_none : (o : Option (List ℕ)) → ((rest : List ℕ) → o ≡ Some rest → ⊥) → None ≡ o
  by_none None never = refl
  by_none (Some rest) never = absurd (never rest refl)
tag_is t bytes (Some x) h = sym (ap (tag t) h ∙ tag_again t x.now)
