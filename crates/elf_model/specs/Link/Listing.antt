-- Which names have a line in the map: those that objects define, and those of the linker's that kept relocations use
-- (profile).
use Rattle.std.specs.Prelude.{◌≡◌, ℕ, ◌≤◌, ◌&&◌, ◌||◌, Bool, not, cond, List, Option, None, count_by, find, is_some, option_map}
use Rattle.std.specs.List.{list_any}
use Rattle.std.specs.Str.{bytes_eq}
use Rattle.elf_model.specs.Link.LinkerNames.{bound_of}
use Rattle.elf_model.specs.Link.Loading.{LoadedObject}
use Rattle.elf_model.specs.Link.Meaning.{Linker, Meaning, meaning, meaning_name}
use Rattle.elf_model.specs.Link.Relocation.{Relocation, is_local, relocations}
use Rattle.elf_model.specs.Link.Resolution.{chosen}

-- a kept relocation names it by a symbol that isn't LOCAL
abbrev pub is_use_of : List ℕ → Relocation → Bool
is_use_of name r = not (is_local r.symbol) && bytes_eq r.symbol.name name

abbrev pub is_used : List LoadedObject → List ℕ → Bool
is_used objects name = list_any (is_use_of name) (relocations objects)

-- what a name means that has a line
abbrev pub listed : List LoadedObject → List ℕ → Option Meaning
listed objects name = cond (is_some (chosen objects name) || is_used objects name) (meaning objects name) None

-- a linker's name that has a line: one that is used and that no object defines
abbrev pub has_linker_line : List LoadedObject → List ℕ → Bool
has_linker_line objects name = is_used objects name && not (is_some (chosen objects name))

abbrev pub linker_line : List LoadedObject → List ℕ → Option Meaning
linker_line objects name = cond (has_linker_line objects name) (option_map (Linker name) (bound_of objects name)) None

abbrev pub has_meaning : List ℕ → Meaning → Bool
has_meaning name m = bytes_eq (meaning_name m) name

-- a list has what each name means by a rule, once
pub record AreOf (means : List ℕ → Option Meaning) (ms : List Meaning) : Type 0 where
  pub found : (name : List ℕ) → find (has_meaning name) ms ≡ means name
  pub once : (name : List ℕ) → count_by (has_meaning name) ms ≤ 1

-- what all names mean that have a line, as a list; and those of the linker's among them
abbrev pub AreListed : List LoadedObject → List Meaning → Type 0
AreListed objects ms = AreOf (listed objects) ms

abbrev pub AreLinkerLines : List LoadedObject → List Meaning → Type 0
AreLinkerLines objects ms = AreOf (linker_line objects) ms
