-- Lists of names with their rows.
use Rattle.std.specs.Prelude.{◌≡◌, ℕ, List, [], ◌∷◌, None, Option}
use Rattle.std.specs.List.{position}
use Rattle.std.specs.Map.{lookup}
use Rattle.std.specs.Str.{bytes_eq}
use Rattle.elf_model.specs.declared.name.Name.{Name}
use Rattle.symbols.specs.Rows.{Rows}
use Rattle.symbols.specs.declared.row.Row.{Row}

-- a name and its row
abbrev pub NamedRow : Type 0
NamedRow = Name × Row

-- the row of a name in a list: the first that stands beside it
abbrev pub row_in : List NamedRow → Rows
row_in rows name = lookup (λ k. bytes_eq name k.0.now) rows

-- the first place of a name in a list
abbrev pub place_in : List NamedRow → List ℕ → Option ℕ
place_in rows name = position (λ e. bytes_eq name e.0.0.now) rows

-- no name stands twice
abbrev pub HasNamesOnce : List NamedRow → Type 0
HasNamesOnce [] = Unit {0}
HasNamesOnce (e ∷ es) = (row_in es e.0.0.now ≡ None) × HasNamesOnce es
