-- What is gathered of the symbols of objects, one front of them after the other.
use Rattle.std.proofs.Common.{◌≡◌, Bool, List, ◌++◌, append_assoc, map, sym, ◌∙◌, ap}
use Rattle.std.specs.Prelude.{filter}
use Rattle.std.proofs.lemmas.List.{map-append}
use Rattle.std.proofs.lemmas.List.Elements.{filter-append}

-- what is gathered of a list is that of its parts
abbrev pub Joins : {X Y : Type 0} → (List X → List Y) → Type 0
Joins {X} {Y} g = (xs ys : List X) → g (xs ++ ys) ≡ g xs ++ g ys

-- that of the front is added to what there was: then that of the rest is left
pub gathered_more :
    {X Y : Type 0} (g : List X → List Y) → Joins g → (now new all : List Y) (left front rest : List X) →
    left ≡ front ++ rest → new ≡ now ++ g front → now ++ g left ≡ all → new ++ g rest ≡ all
gathered_more {X} {Y} g joins now new all left front rest is added so_far =
    ap (λ (ys : List Y). ys ++ g rest) added
    ∙ append_assoc now (g front) (g rest)
    ∙ ap (λ (ys : List Y). now ++ ys) (sym (joins front rest))
    ∙ ap (λ (xs : List X). now ++ g xs) (sym is)
    ∙ so_far

-- of those that pass a test, seen otherwise, and of those of them that pass another one
pub joins_map : {X Y : Type 0} (f : X → Y) (p : X → Bool) → Joins (λ xs. map f (filter p xs))
joins_map {X} f p xs ys =
    ap (λ (zs : List X). map f zs) (filter-append p xs ys)
    ∙ map-append f (filter p xs) (filter p ys)

pub joins_filter : {X : Type 0} (q p : X → Bool) → Joins (λ xs. filter q (filter p xs))
joins_filter {X} q p xs ys =
    ap (λ (zs : List X). filter q zs) (filter-append p xs ys)
    ∙ filter-append q (filter p xs) (filter p ys)
