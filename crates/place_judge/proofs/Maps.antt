-- A claim on values as the code holds them is the claim on what the definitions see of them.
use Rattle.std.proofs.Common.{List, map, subst, sym}
use Rattle.std.specs.Prelude.{◌↔◌, All, Any}
use Rattle.std.proofs.lemmas.List.Elements.{All-map}
use Rattle.elf_model.proofs.Finding.{Any-from_contains}
use Rattle.elf_model.proofs.Listed.{All-unmap, Contains-from_map, Contains-map}

module _ {X Y : Type 0} (P : Y → Type 0) (f : X → Y) where
  pub all_seen : (xs : List X) → All (λ x. P (f x)) xs ↔ All P (map f xs)
  all_seen xs = (All-map P f xs, All-unmap P f xs)

  pub any_seen : (xs : List X) → Any (λ x. P (f x)) xs ↔ Any P (map f xs)
  any_seen xs = (to, from)
    where
      to : Any (λ x. P (f x)) xs → Any P (map f xs)
      to (i, x, low, is, p) = Any-from_contains P (map f xs) (f x) (Contains-map f xs x (i, low, is)) p

      from : Any P (map f xs) → Any (λ x. P (f x)) xs
      from (i, y, low, is, p) =
          let m = Contains-from_map f xs y (i, low, is) in
          Any-from_contains (λ (x : X). P (f x)) xs m.of m.there (subst P (sym m.is) p)
