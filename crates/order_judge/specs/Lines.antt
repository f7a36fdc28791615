-- Lines of objects in their order.
use Rattle.std.specs.Prelude.{◌≡◌, ℕ, ◌+◌, List, [], ◌∷◌, IsSomeAnd, slice_get}
use Rattle.elf_model.specs.Image.MapRecord.{ObjectRow}
use Rattle.elf_model.specs.Inputs.Opening.{Opened}

abbrev pub IsPathOf : List ℕ → Opened → Type 0
IsPathOf path o = path ≡ o.path

-- a line has a number, an item that is there, and this item's path
pub record IsLine (os : List Opened) (k : ℕ) (row : ObjectRow) : Type 0 where
  pub number : row.object ≡ k
  pub path : IsSomeAnd (slice_get os row.item) (IsPathOf row.path)

-- lines of objects from a number on
abbrev pub AreLines : List Opened → ℕ → List ObjectRow → Type 0
AreLines os k [] = Unit {0}
AreLines os k (row ∷ rows) = IsLine os k row × AreLines os (k + 1) rows
