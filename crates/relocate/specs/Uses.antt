-- The linker's names with what they stand for, as the code has them.
use Rattle.std.specs.Prelude.{◌≡◌, Bool, false, true, ℕ, List, Option, None, Some, map}
use Rattle.std.specs.Borrow.{Bor}
use Rattle.elf_model.specs.Link.Loading.{LoadedObject}
use Rattle.elf_model.specs.Link.Meaning.{Common, Linker, Meaning, Symbol}
use Rattle.elf_model.specs.Link.Relocation.{symbol_at}
use Rattle.elf_model.specs.Link.UsedNames.{is_linker_use}
use Rattle.elf_model.specs.declared.bound.Bound.{Bound}
use Rattle.search.specs.Views.{loaded_view}
use Rattle.relocate.specs.References.{IsObjectAt}
use Rattle.relocate.specs.declared.linker_uses.User.{User}

abbrev pub line_view : Bor (List ℕ) × Bound → Meaning
line_view e = Linker e.0.now e.1

abbrev pub line_views : List (Bor (List ℕ) × Bound) → List Meaning
line_views es = map line_view es

-- what a reference uses is the linker's
abbrev pub is_linkers : Option Meaning → Bool
is_linkers None = false
is_linkers (Some (Symbol s)) = false
is_linkers (Some (Common b)) = false
is_linkers (Some (Linker name bound)) = true

-- no symbol of an object is of a linker's name that no object defines
abbrev pub HasNoLinkerUse : List LoadedObject → ℕ → LoadedObject → Type 0
HasNoLinkerUse objects n o = (j : ℕ) → is_linker_use objects (symbol_at n o j) ≡ false

-- an object whose relocations use names
abbrev pub using : User → LoadedObject
using u = loaded_view u.loaded.now

pub record IsUser (u : User) : Type 0 where
  pub here : IsObjectAt u.resolved.now u.number (using u)
