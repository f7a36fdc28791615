-- What holds of all of a filtered list holds of those of the list that pass, and back.
use Rattle.std.proofs.Common.{◌≡◌, Bool, true, List}
use Rattle.std.specs.Prelude.{All, filter}
use Rattle.std.proofs.lemmas.List.Elements.{All-contains}
use Rattle.elf_model.proofs.Listed.{All-from_contains, Contains-filter, Contains-from_filter}

pub All-unfilter : {X : Type 0} (p : X → Bool) (P : X → Type 0) (xs : List X) → All P (filter p xs) → All (λ x. p x ≡ true → P x) xs
All-unfilter p P xs all =
    All-from_contains (λ x. p x ≡ true → P x) xs (λ x c e. All-contains P (filter p xs) x all (Contains-filter p xs x c e))

pub All-filter : {X : Type 0} (p : X → Bool) (P : X → Type 0) (xs : List X) → All (λ x. p x ≡ true → P x) xs → All P (filter p xs)
All-filter p P xs all =
    All-from_contains P (filter p xs)
    (λ x c. let there = Contains-from_filter p xs x c in All-contains (λ y. p y ≡ true → P y) xs x all there.0 there.1)
