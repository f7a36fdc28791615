-- What stands in a list, in one with an element more in front, in a filtered, mapped or joined one.
use Rattle.std.proofs.Common.{◌≡◌, ℕ, zero, suc, ◌<◌, ◌⊎◌, inl, inr, Bool, true, false, cond, List, [], ◌∷◌, ◌++◌, length, get_or, refl, sym, ◌∙◌, ap, subst, arith}
use Rattle.std.specs.Prelude.{All, Contains, Some, filter, find, map}
use Rattle.std.specs.List.{flat_map, slice_get}
use Rattle.std.proofs.lemmas.Bool.{false≢true}
use Rattle.std.proofs.lemmas.List.Elements.{All-contains, All-contains_itself, Contains-append_cases, Contains-append_left, Contains-append_right}
use Rattle.std.proofs.lemmas.Option.{get_or_from_slice_get, slice_get_within}

-- equal lists have equal beginnings and rests
pub cons_head : {X : Type 0} {x y : X} {xs ys : List X} → x ∷ xs ≡ y ∷ ys → x ≡ y
cons_head is = cc

pub cons_tail : {X : Type 0} {x y : X} {xs ys : List X} → x ∷ xs ≡ y ∷ ys → xs ≡ ys
cons_tail is = cc

pub Contains-here : {X : Type 0} (xs : List X) (x : X) → Contains (x ∷ xs) x
Contains-here xs x = (0, omega arith, refl)

pub Contains-there : {X : Type 0} (y : X) (xs : List X) (x : X) → Contains xs x → Contains (y ∷ xs) x
Contains-there y xs x c = (suc c.0, (let w = c.1 in omega (arith, w)), c.2)

pub Contains-nil : {X : Type 0} (x : X) → Contains [] x → ⊥
Contains-nil x c = let w = c.1 in omega (arith, w)

pub Contains-cons_cases : {X : Type 0} (y : X) (xs : List X) (x : X) → Contains (y ∷ xs) x → (y ≡ x) ⊎ Contains xs x
Contains-cons_cases {X} y xs x c = at c.0 c.1 c.2
  where
    at : (k : ℕ) → k < suc (length xs) → get_or (y ∷ xs) k x ≡ x → (y ≡ x) ⊎ Contains xs x
    at zero within e = inl e
    at (suc k) within e = inr (k, omega (arith, within), e)

-- what stands at a number
pub Contains-from_slice_get : {X : Type 0} (xs : List X) (i : ℕ) (x : X) → slice_get xs i ≡ Some x → Contains xs x
Contains-from_slice_get xs i x e = (i, slice_get_within xs i x e, get_or_from_slice_get xs i x x e)

-- what holds of all that stands in a list holds of each of its elements
pub All-from_contains : {X : Type 0} (P : X → Type 0) (xs : List X) → ((x : X) → Contains xs x → P x) → All P xs
All-from_contains P xs h k d within = h (get_or xs k d) (All-contains_itself xs k d within)

-- filtered
pub Contains-filter : {X : Type 0} (p : X → Bool) (xs : List X) (x : X) → Contains xs x → p x ≡ true → Contains (filter p xs) x
Contains-filter p [] x c t = absurd (Contains-nil x c)
Contains-filter {X} p (y ∷ ys) x c t = by (Contains-cons_cases y ys x c) (Contains-filter p ys x)
  where
    by : (y ≡ x) ⊎ Contains ys x → (Contains ys x → p x ≡ true → Contains (filter p ys) x) → Contains (filter p (y ∷ ys)) x
    by (inl e) rest =
        let py : p y ≡ true = ap p e ∙ t in
        rw py (subst (Contains (y ∷ filter p ys)) e (Contains-here (filter p ys) y))
    by (inr there) rest =
        elim (p y) as (λ b. Contains (cond b (y ∷ filter p ys) (filter p ys)) x) [
          | true ↦ Contains-there y (filter p ys) x (rest there t)
          | false ↦ rest there t
        ]

pub Contains-from_filter : {X : Type 0} (p : X → Bool) (xs : List X) (x : X) → Contains (filter p xs) x → Contains xs x × (p x ≡ true)
Contains-from_filter p [] x c = absurd (Contains-nil x c)
Contains-from_filter {X} p (y ∷ ys) x c = by (p y) refl c (Contains-from_filter p ys x)
  where
    more : Contains ys x × (p x ≡ true) → Contains (y ∷ ys) x × (p x ≡ true)
    more r = (Contains-there y ys x r.0, r.1)

    by :
        (b : Bool) → p y ≡ b → Contains (cond b (y ∷ filter p ys) (filter p ys)) x →
        (Contains (filter p ys) x → Contains ys x × (p x ≡ true)) → Contains (y ∷ ys) x × (p x ≡ true)
    by false is c rest = more (rest c)
    by true is c rest = first (Contains-cons_cases y (filter p ys) x c)
      where
        first : (y ≡ x) ⊎ Contains (filter p ys) x → Contains (y ∷ ys) x × (p x ≡ true)
        first (inl e) = (subst (Contains (y ∷ ys)) e (Contains-here ys y), sym (ap p e) ∙ is)
        first (inr there) = more (rest there)

-- mapped
pub Contains-map : {X Y : Type 0} (f : X → Y) (xs : List X) (x : X) → Contains xs x → Contains (map f xs) (f x)
Contains-map f [] x c = absurd (Contains-nil x c)
Contains-map {X} {Y} f (y ∷ ys) x c = by (Contains-cons_cases y ys x c) (Contains-map f ys x)
  where
    by : (y ≡ x) ⊎ Contains ys x → (Contains ys x → Contains (map f ys) (f x)) → Contains (f y ∷ map f ys) (f x)
    by (inl e) rest = subst (Contains (f y ∷ map f ys)) (ap f e) (Contains-here (map f ys) (f y))
    by (inr there) rest = Contains-there (f y) (map f ys) (f x) (rest there)

-- what a mapped list has is the image of an element
pub record Image {X Y : Type 0} (f : X → Y) (xs : List X) (y : Y) : Type 0 where
  pub of : X
  pub there : Contains xs of
  pub is : f of ≡ y

pub Contains-from_map : {X Y : Type 0} (f : X → Y) (xs : List X) (y : Y) → Contains (map f xs) y → Image f xs y
Contains-from_map f [] y c = absurd (Contains-nil y c)
Contains-from_map {X} {Y} f (x ∷ xs) y c = by (Contains-cons_cases (f x) (map f xs) y c) (Contains-from_map f xs y)
  where
    by : (f x ≡ y) ⊎ Contains (map f xs) y → (Contains (map f xs) y → Image f xs y) → Image f (x ∷ xs) y
    by (inl e) rest = record { of = x; there = Contains-here xs x; is = e }
    by (inr there) rest =
        let r = rest there in
        record { of = r.of; there = Contains-there x xs r.of r.there; is = r.is }

-- what holds of all images holds of the image of each element
pub All-unmap : {X Y : Type 0} (P : Y → Type 0) (f : X → Y) (xs : List X) → All P (map f xs) → All (λ x. P (f x)) xs
All-unmap P f xs all =
    All-from_contains (λ x. P (f x)) xs (λ x c. All-contains P (map f xs) (f x) all (Contains-map f xs x c))

-- joined
pub All-parts : {X : Type 0} (P : X → Type 0) (front rest : List X) → All P (front ++ rest) → All P front × All P rest
All-parts P front rest all = (
  All-from_contains P front (λ x c. All-contains P (front ++ rest) x all (Contains-append_left front rest x c)),
  All-from_contains P rest (λ x c. All-contains P (front ++ rest) x all (Contains-append_right front rest x c)),
)

pub Contains-flat_map :
    {X Y : Type 0} (f : X → List Y) (xs : List X) (x : X) (y : Y) → Contains xs x → Contains (f x) y → Contains (flat_map f xs) y
Contains-flat_map f [] x y c d = absurd (Contains-nil x c)
Contains-flat_map {X} {Y} f (z ∷ zs) x y c d = by (Contains-cons_cases z zs x c) (λ there. Contains-flat_map f zs x y there d)
  where
    by : (z ≡ x) ⊎ Contains zs x → (Contains zs x → Contains (flat_map f zs) y) → Contains (f z ++ flat_map f zs) y
    by (inl e) rest = Contains-append_left (f z) (flat_map f zs) y (subst (λ (w : X). Contains (f w) y) (sym e) d)
    by (inr there) rest = Contains-append_right (f z) (flat_map f zs) y (rest there)

-- what a joined list has stands in the part of an element
pub record InPart {X Y : Type 0} (f : X → List Y) (xs : List X) (y : Y) : Type 0 where
  pub of : X
  pub there : Contains xs of
  pub within : Contains (f of) y

pub Contains-from_flat_map : {X Y : Type 0} (f : X → List Y) (xs : List X) (y : Y) → Contains (flat_map f xs) y → InPart f xs y
Contains-from_flat_map f [] y c = absurd (Contains-nil y c)
Contains-from_flat_map {X} {Y} f (x ∷ xs) y c =
    by (Contains-append_cases (f x) (flat_map f xs) y c) (Contains-from_flat_map f xs y)
  where
    by : Contains (f x) y ⊎ Contains (flat_map f xs) y → (Contains (flat_map f xs) y → InPart f xs y) → InPart f (x ∷ xs) y
    by (inl here) rest = record { of = x; there = Contains-here xs x; within = here }
    by (inr there) rest =
        let r = rest there in
        record { of = r.of; there = Contains-there x xs r.of r.there; within = r.within }

-- the only element that passes a test is found
pub find_only :
    {X : Type 0} (p : X → Bool) (xs : List X) (x : X) → Contains xs x → p x ≡ true →
    ((y : X) → Contains xs y → p y ≡ true → y ≡ x) → find p xs ≡ Some x
find_only p [] x c t only = absurd (Contains-nil x c)
find_only {X} p (y ∷ ys) x c t only =
    by (p y) refl (Contains-cons_cases y ys x c) (λ there. find_only p ys x there t (λ z in_ys. only z (Contains-there y ys z in_ys)))
  where
    by : (b : Bool) → p y ≡ b → (y ≡ x) ⊎ Contains ys x → (Contains ys x → find p ys ≡ Some x) → cond b (Some y) (find p ys) ≡ Some x
    by true is c rest = ap (λ (z : X). Some z) (only y (Contains-here ys y) is)
    by false is (inl e) rest = absurd (false≢true (sym is ∙ (ap p e ∙ t)))
    by false is (inr there) rest = rest there
