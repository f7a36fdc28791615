-- Objects that the command names, in its order.
use Rattle.std.specs.Prelude.{◌≡◌, ◌⊎◌, ◌<◌, ℕ, Bool, true, false, All, AllPairs, IfSome, List, Option, slice_get}
use Rattle.std.specs.Option.{option_map_or}
use Rattle.elf_model.specs.Inputs.Opening.{Opened}
use Rattle.judge_model.specs.Loaded.{Origin, is_named_by}
use Rattle.order_judge.specs.Origins.{origin_of_pair}

-- there is an item of a number, and the command itself names what it loads
abbrev pub is_named_at : List Opened → ℕ → Bool
is_named_at os item = option_map_or is_named_by (slice_get os item) false

-- one stands before the other
abbrev pub IsBefore : Origin → Origin → Type 0
IsBefore a b = (a.item < b.item) ⊎ ((a.item ≡ b.item) × (a.offset < b.offset))

abbrev pub AreOriginsInTurn : List Opened → Origin → Origin → Type 0
AreOriginsInTurn os a b = is_named_at os a.item ≡ true → is_named_at os b.item ≡ true → IsBefore a b

-- behind the last one that the command names, where there was one, those that it names are in its order
abbrev pub IsNamedBehind : List Opened → Option (ℕ × ℕ) → Origin → Type 0
IsNamedBehind os last b = is_named_at os b.item ≡ true → IfSome last (λ a. IsBefore (origin_of_pair a) b)

pub record AreInTurnBehind (os : List Opened) (last : Option (ℕ × ℕ)) (origins : List Origin) : Type 0 where
  pub behind : All (IsNamedBehind os last) origins
  pub pairs : AllPairs (AreOriginsInTurn os) origins
