-- Look-ups in filtered and mapped lists.
use Rattle.std.proofs.Common.{◌≡◌, ◌∙◌, List, [], ◌∷◌, refl, ap}
use Rattle.std.specs.Prelude.{All, Bool, true, false, cond, ◌&&◌, is_some, map, filter, find, None, Option, Some, option_map}
use Rattle.std.specs.Option.{option_or}
use Rattle.std.proofs.lemmas.List.Elements.{All-head, All-tail}

-- the first element that passes a test after a filter passes both
pub find-filter : {X : Type 0} (p q : X → Bool) (xs : List X) → find q (filter p xs) ≡ find (λ x. p x && q x) xs
find-filter p q [] = refl
find-filter {X} p q (x ∷ xs) =
    elim (p x) as (λ b. find q (cond b (x ∷ filter p xs) (filter p xs)) ≡ cond (b && q x) (Some x) (find (λ y. p y && q y) xs)) [
      | true ↦ ap (λ (o : Option X). cond (q x) (Some x) o) (find-filter p q xs)
      | false ↦ find-filter p q xs
    ]

-- the first element of the images that passes a test is the image of the first whose image passes it
pub find-map : {X Y : Type 0} (q : Y → Bool) (f : X → Y) (xs : List X) → find q (map f xs) ≡ option_map f (find (λ x. q (f x)) xs)
find-map q f [] = refl
find-map {X} {Y} q f (x ∷ xs) =
    elim (q (f x)) as (λ b. cond b (Some (f x)) (find q (map f xs)) ≡ option_map f (cond b (Some x) (find (λ y. q (f y)) xs))) [
      | true ↦ refl
      | false ↦ find-map q f xs
    ]

-- two tests that agree at each element find the same
pub find-agree : {X : Type 0} (p q : X → Bool) (xs : List X) → All (λ x. p x ≡ q x) xs → find p xs ≡ find q xs
find-agree p q [] same = refl
find-agree {X} p q (x ∷ xs) same =
    ap (λ (b : Bool). cond b (Some x) (find p xs)) (All-head (λ (y : X). p y ≡ q y) x xs same)
    ∙ ap (λ (o : Option X). cond (q x) (Some x) o) (find-agree p q xs (All-tail (λ (y : X). p y ≡ q y) x xs same))

-- what is found, or else nothing
pub or_none : {X : Type 0} (o : Option X) → option_or o None ≡ o
or_none None = refl
or_none (Some x) = refl

pub none_found : {X : Type 0} (o : Option X) → is_some o ≡ false → o ≡ None
none_found None e = refl
none_found (Some x) e = absurd (cc)

-- a filter of images keeps the images of those whose image passes
pub filter-map : {X Y : Type 0} (q : Y → Bool) (f : X → Y) (xs : List X) → filter q (map f xs) ≡ map f (filter (λ x. q (f x)) xs)
filter-map q f [] = refl
filter-map {X} {Y} q f (x ∷ xs) =
    elim (q (f x)) as (λ b. cond b (f x ∷ filter q (map f xs)) (filter q (map f xs)) ≡ map f (cond b (x ∷ filter (λ y. q (f y)) xs) (filter (λ y. q (f y)) xs))) [
      | true ↦ ap (λ (ys : List Y). f x ∷ ys) (filter-map q f xs)
      | false ↦ filter-map q f xs
    ]
