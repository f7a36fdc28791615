-- A claim on a whole list, as a claim on what is left of it: the steps of every tester's loop.
use Rattle.std.proofs.Common.{◌≡◌, ℕ, suc, ◌+◌, ◌<◌, ◌≤◌, List, ◌∷◌, length, get_or, drop, drop-cons, subst, sym, arith}
use Rattle.std.specs.Prelude.{All}
use Rattle.std.proofs.lemmas.List.{drop_all}
use Rattle.std.proofs.lemmas.List.Elements.{All-cons, All-head, All-nil, All-tail}

abbrev pub Left : Type 0 → Type 0 → Type 0
Left Q P = (Q → P) × (P → Q)

pub rest_at : {X : Type 0} (xs : List X) (i : ℕ) (d : X) → i < length xs → drop i xs ≡ get_or xs i d ∷ drop (i + 1) xs
rest_at xs i d within = let e : i + 1 ≡ suc i = omega arith in rw e (drop-cons xs i d within)

pub all_more :
    {X : Type 0} (Q : Type 0) (P : X → Type 0) (xs : List X) (i : ℕ) (d : X) → i < length xs → P (get_or xs i d) →
    Left Q (All P (drop i xs)) → Left Q (All P (drop (i + 1) xs))
all_more Q P xs i d within here q = (
  λ h. All-tail P (get_or xs i d) (drop (i + 1) xs) (subst (All P) (rest_at xs i d within) (q.0 h)),
  λ r. q.1 (subst (All P) (sym (rest_at xs i d within)) (All-cons P (get_or xs i d) (drop (i + 1) xs) here r)),
)

pub all_stop :
    {X : Type 0} (Q : Type 0) (P : X → Type 0) (xs : List X) (i : ℕ) (d : X) → i < length xs → (P (get_or xs i d) → ⊥) →
    Left Q (All P (drop i xs)) → Q → ⊥
all_stop Q P xs i d within never q h =
    never (All-head P (get_or xs i d) (drop (i + 1) xs) (subst (All P) (rest_at xs i d within) (q.0 h)))

pub all_end : {X : Type 0} (Q : Type 0) (P : X → Type 0) (xs : List X) (i : ℕ) → length xs ≤ i → Left Q (All P (drop i xs)) → Q
all_end Q P xs i behind q = q.1 (subst (All P) (sym (drop_all i xs behind)) (All-nil P))
