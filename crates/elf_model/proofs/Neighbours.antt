-- Elements that stand side by side in a list, in filtered and in joined ones.
use Rattle.std.proofs.Common.{◌≡◌, ℕ, zero, suc, ◌<◌, ◌⊎◌, inl, inr, Bool, true, false, cond, List, [], ◌∷◌, ◌++◌, length, get_or, refl, sym, ◌∙◌, ap, subst, arith}
use Rattle.std.specs.Prelude.{Contains, filter}
use Rattle.std.specs.List.{flat_map}
use Rattle.std.proofs.lemmas.List.{append_assoc}
use Rattle.elf_model.proofs.Listed.{Contains-cons_cases, Contains-nil}

-- a stands right before b
pub record StandsBefore {X : Type 0} (xs : List X) (a b : X) : Type 0 where
  pub front : List X
  pub rest : List X
  pub is : xs ≡ front ++ (a ∷ (b ∷ rest))

before_cons : {X : Type 0} (x : X) (xs : List X) (a b : X) → StandsBefore xs a b → StandsBefore (x ∷ xs) a b
before_cons {X} x xs a b s = record { front = x ∷ s.front; rest = s.rest; is = ap (λ (ys : List X). x ∷ ys) s.is }

pub before_left : {X : Type 0} (xs ys : List X) (a b : X) → StandsBefore xs a b → StandsBefore (xs ++ ys) a b
before_left {X} xs ys a b s = record {
  front = s.front;
  rest = s.rest ++ ys;
  is = ap (λ (zs : List X). zs ++ ys) s.is ∙ append_assoc s.front (a ∷ (b ∷ s.rest)) ys;
}

pub before_right : {X : Type 0} (xs ys : List X) (a b : X) → StandsBefore ys a b → StandsBefore (xs ++ ys) a b
before_right {X} xs ys a b s = record {
  front = xs ++ s.front;
  rest = s.rest;
  is = ap (λ (zs : List X). xs ++ zs) s.is ∙ sym (append_assoc xs s.front (a ∷ (b ∷ s.rest)));
}

pub before_flat_map :
    {X Y : Type 0} (f : X → List Y) (xs : List X) (x : X) (a b : Y) → Contains xs x → StandsBefore (f x) a b → StandsBefore (flat_map f xs) a b
before_flat_map f [] x a b c s = absurd (Contains-nil x c)
before_flat_map {X} {Y} f (z ∷ zs) x a b c s = by (Contains-cons_cases z zs x c) (λ there. before_flat_map f zs x a b there s)
  where
    by : (z ≡ x) ⊎ Contains zs x → (Contains zs x → StandsBefore (flat_map f zs) a b) → StandsBefore (f z ++ flat_map f zs) a b
    by (inl e) rest = before_left (f z) (flat_map f zs) a b (subst (λ (w : X). StandsBefore (f w) a b) (sym e) s)
    by (inr there) rest = before_right (f z) (flat_map f zs) a b (rest there)

-- what a list begins with
pub record BeginsWith {X : Type 0} (xs : List X) (a : X) : Type 0 where
  pub rest : List X
  pub is : xs ≡ a ∷ rest

-- the first element that passes comes first of those that pass
first_passing :
    {X : Type 0} (p : X → Bool) (xs : List X) (j : ℕ) (d : X) → j < length xs → p (get_or xs j d) ≡ true →
    ((k : ℕ) → k < j → p (get_or xs k d) ≡ false) → BeginsWith (filter p xs) (get_or xs j d)
first_passing p [] j d low t none = absurd (omega (arith, low))
first_passing p (x ∷ xs) zero d low t none = rw t (record { rest = filter p xs; is = refl })
first_passing p (x ∷ xs) (suc j) d low t none =
    let fails : p x ≡ false = none 0 (omega arith) in
    rw fails (first_passing p xs j d (omega (arith, low)) t (λ k below. none (suc k) (omega (arith, below))))

-- two that pass, with none between them that does, are neighbours among those that pass
pub neighbours_passing :
    {X : Type 0} (p : X → Bool) (xs : List X) (i j : ℕ) (d : X) → i < j → j < length xs → p (get_or xs i d) ≡ true →
    p (get_or xs j d) ≡ true → ((k : ℕ) → i < k → k < j → p (get_or xs k d) ≡ false) →
    StandsBefore (filter p xs) (get_or xs i d) (get_or xs j d)
neighbours_passing p [] i j d order low t u none = absurd (omega (arith, low))
neighbours_passing p (x ∷ xs) i zero d order low t u none = absurd (omega (arith, order))
neighbours_passing p (x ∷ xs) zero (suc j) d order low t u none =
    let first = first_passing p xs j d (omega (arith, low)) u (λ k below. none (suc k) (omega arith) (omega (arith, below))) in
    rw t (record { front = []; rest = first.rest; is = rw first.is refl })
neighbours_passing {X} p (x ∷ xs) (suc i) (suc j) d order low t u none =
    let s = neighbours_passing p xs i j d (omega (arith, order)) (omega (arith, low)) t u
    (λ k above below. none (suc k) (omega (arith, above)) (omega (arith, below))) in
    elim (p x) as (λ b. StandsBefore (cond b (x ∷ filter p xs) (filter p xs)) (get_or xs i d) (get_or xs j d)) [
      | true ↦ before_cons x (filter p xs) (get_or xs i d) (get_or xs j d) s
      | false ↦ s
    ]
