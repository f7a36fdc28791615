-- Relations between the elements of a list, each with each later one.
use Rattle.std.proofs.Common.{◌≡◌, ℕ, suc, ◌<◌, ◌⊎◌, inl, inr, List, [], ◌∷◌, ◌++◌, length, get_or, sym, ◌∙◌, ap, subst, arith}
use Rattle.std.specs.Prelude.{All, AllPairs, Contains, map}
use Rattle.std.specs.List.{flat_map}
use Rattle.std.proofs.lemmas.Bool.{cases_order}
use Rattle.std.proofs.lemmas.List.{get_or-map, get_or_default, length-map}
use Rattle.std.proofs.lemmas.List.Elements.{All-append, All-cons, All-head, All-nil, All-tail, All-contains}
use Rattle.std.proofs.lemmas.List.Kept.{AllPairs-cons}
use Rattle.elf_model.proofs.Listed.{All-from_contains, All-parts, Contains-from_flat_map}

pub AllPairs-nil : {X : Type 0} (R : X → X → Type 0) → AllPairs R []
AllPairs-nil R i j d low high = absurd (omega (arith, high))

pub AllPairs-head : {X : Type 0} (R : X → X → Type 0) (x : X) (xs : List X) → AllPairs R (x ∷ xs) → All (R x) xs
AllPairs-head R x xs pairs k d within = pairs 0 (suc k) d (omega arith) (omega (arith, within))

pub AllPairs-tail : {X : Type 0} (R : X → X → Type 0) (x : X) (xs : List X) → AllPairs R (x ∷ xs) → AllPairs R xs
AllPairs-tail R x xs pairs i j d low high = pairs (suc i) (suc j) d (omega (arith, low)) (omega (arith, high))

pub AllPairs-append :
    {X : Type 0} (R : X → X → Type 0) (xs ys : List X) → AllPairs R xs → AllPairs R ys → All (λ x. All (R x) ys) xs → AllPairs R (xs ++ ys)
AllPairs-append R [] ys p q cross = q
AllPairs-append {X} R (x ∷ xs) ys p q cross =
    AllPairs-cons R x (xs ++ ys)
    (All-append (R x) xs ys (AllPairs-head R x xs p) (All-head (λ (z : X). All (R z) ys) x xs cross))
    (AllPairs-append R xs ys (AllPairs-tail R x xs p) q (All-tail (λ (z : X). All (R z) ys) x xs cross))

pub AllPairs-parts : {X : Type 0} (R : X → X → Type 0) (xs ys : List X) → AllPairs R (xs ++ ys) → AllPairs R xs × AllPairs R ys
AllPairs-parts R [] ys pairs = (AllPairs-nil R, pairs)
AllPairs-parts R (x ∷ xs) ys pairs =
    let parts = AllPairs-parts R xs ys (AllPairs-tail R x (xs ++ ys) pairs) in
    (AllPairs-cons R x xs (All-parts (R x) xs ys (AllPairs-head R x (xs ++ ys) pairs)).0 parts.0, parts.1)

pub AllPairs-weaker : {X : Type 0} (R S : X → X → Type 0) → ((x y : X) → R x y → S x y) → (xs : List X) → AllPairs R xs → AllPairs S xs
AllPairs-weaker R S h xs pairs i j d low high = h (get_or xs i d) (get_or xs j d) (pairs i j d low high)

pub AllPairs-unmap :
    {X Y : Type 0} (R : Y → Y → Type 0) (f : X → Y) (xs : List X) → AllPairs R (map f xs) → AllPairs (λ x y. R (f x) (f y)) xs
AllPairs-unmap {X} {Y} R f xs pairs i j d low high =
    let n = length-map xs f in
    let in_i : i < length xs = omega (arith, low, high) in
    let p : R (get_or (map f xs) i (f d)) (get_or (map f xs) j (f d)) = pairs i j (f d) low (omega (arith, n, high)) in
    let q : R (f (get_or xs i d)) (get_or (map f xs) j (f d)) =
    subst (λ (y : Y). R y (get_or (map f xs) j (f d))) (get_or-map f xs i d (f d) in_i) p in
    subst (R (f (get_or xs i d))) (get_or-map f xs j d (f d) high) q

pub AllPairs-map :
    {X Y : Type 0} (R : Y → Y → Type 0) (f : X → Y) (xs : List X) → AllPairs (λ x y. R (f x) (f y)) xs → AllPairs R (map f xs)
AllPairs-map R f [] pairs = AllPairs-nil R
AllPairs-map {X} {Y} R f (x ∷ xs) pairs =
    AllPairs-cons R (f x) (map f xs) (images xs (AllPairs-head (λ (a b : X). R (f a) (f b)) x xs pairs))
    (AllPairs-map R f xs (AllPairs-tail (λ (a b : X). R (f a) (f b)) x xs pairs))
  where
    images : (ys : List X) → All (λ y. R (f x) (f y)) ys → All (R (f x)) (map f ys)
    images [] all = All-nil (R (f x))
    images (y ∷ ys) all =
        All-cons (R (f x)) (f y) (map f ys) (All-head (λ (z : X). R (f x) (f z)) y ys all)
        (images ys (All-tail (λ (z : X). R (f x) (f z)) y ys all))

-- the parts of a joined list: each is right in itself, and so are each and each later one together
pub AllPairs-flat_map :
    {X Y : Type 0} (R : Y → Y → Type 0) (f : X → List Y) (xs : List X) →
    All (λ x. AllPairs R (f x)) xs → AllPairs (λ x y. All (λ a. All (R a) (f y)) (f x)) xs → AllPairs R (flat_map f xs)
AllPairs-flat_map R f [] each cross = AllPairs-nil R
AllPairs-flat_map {X} {Y} R f (x ∷ xs) each cross =
    let C : X → X → Type 0 = λ y z. All (λ a. All (R a) (f z)) (f y) in
    AllPairs-append R (f x) (flat_map f xs) (All-head (λ (y : X). AllPairs R (f y)) x xs each)
    (AllPairs-flat_map R f xs (All-tail (λ (y : X). AllPairs R (f y)) x xs each) (AllPairs-tail C x xs cross))
    (λ k d within.
    All-from_contains (R (get_or (f x) k d)) (flat_map f xs) (λ b in_rest.
    let part = Contains-from_flat_map f xs b in_rest in
    let rows : All (λ a. All (R a) (f part.of)) (f x) = All-contains (C x) xs part.of (AllPairs-head C x xs cross) part.there in
    All-contains (R (get_or (f x) k d)) (f part.of) b (rows k d within) part.within))

-- two that stand in a list are one, or related one way
pub related :
    {X : Type 0} (R : X → X → Type 0) (xs : List X) (x y : X) → AllPairs R xs → Contains xs x → Contains xs y →
    (x ≡ y) ⊎ (R x y ⊎ R y x)
related {X} R xs x y pairs c d = by (cases_order c.0 d.0)
  where
    x_at : get_or xs c.0 y ≡ x
    x_at = get_or_default xs c.0 y x c.1 ∙ c.2

    by : (c.0 ≡ d.0) ⊎ ((c.0 < d.0) ⊎ (d.0 < c.0)) → (x ≡ y) ⊎ (R x y ⊎ R y x)
    by (inl e) = inl (sym x_at ∙ (ap (λ (k : ℕ). get_or xs k y) e ∙ d.2))
    by (inr (inl low)) =
        inr (inl (subst (R x) d.2 (subst (λ (z : X). R z (get_or xs d.0 y)) x_at (pairs c.0 d.0 y low d.1))))
    by (inr (inr high)) =
        inr (inr (subst (R y) x_at (subst (λ (z : X). R z (get_or xs c.0 y)) d.2 (pairs d.0 c.0 y high c.1))))
