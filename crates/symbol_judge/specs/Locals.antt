-- The LOCAL symbols of objects whose names entries have, found by these names' numbers and by the values of entries.
use Rattle.std.specs.Prelude.{◌≡◌, ℕ, ◌+◌, ◌*◌, ◌%◌, ◌^◌, ◌&&◌, Bool, cond, not, List, [], ◌∷◌, All, None, Option, option_map}
use Rattle.std.specs.List.{flat_map, position}
use Rattle.std.specs.List.Sorted.{IsNonDecreasingBy}
use Rattle.std.specs.Option.{option_and_then, option_map_or}
use Rattle.std.specs.Str.{bytes_eq}
use Rattle.elf_model.specs.Link.Meaning.{Symbol}
use Rattle.elf_model.specs.Link.Relocation.{is_local}
use Rattle.elf_model.specs.Link.Resolution.{SymbolOf, is_undefined}
use Rattle.elf_model.specs.declared.records.SectionHeader.{SectionHeader}
use Rattle.elf_model.specs.declared.records.Symbol as entry
use Rattle.link_fields.specs.Parts.{Parts}
use Rattle.symbol_judge.specs.Indexes.{wanted_at}
use Rattle.symbol_judge.specs.Wanted.{Fits}
use Rattle.symbol_judge.specs.declared.locals.Local.{Local}
use Rattle.symbol_judge.specs.declared.wanted.Wanted.{Wanted}

-- by what one is found, whose name has a number and whose entry has a value
abbrev pub key_of : ℕ → ℕ → ℕ
key_of number value = number * 2 ^ 64 + value % 2 ^ 64

abbrev pub local_with : ℕ → Wanted → Local
local_with number w = record { key = key_of number w.value; number = number; wanted = w }

-- a symbol is LOCAL and defined; what is kept of one whose name is among names
abbrev pub is_candidate : SymbolOf → Bool
is_candidate s = is_local s && not (is_undefined s.entry)

abbrev pub numbered : Parts → SymbolOf → ℕ → Option Local
numbered p s number = option_map (local_with number) (wanted_at p (Symbol s))

abbrev pub local_in : Parts → List (List ℕ) → SymbolOf → Option Local
local_in p names s = cond (is_candidate s) (option_and_then (numbered p s) (position (bytes_eq s.name) names)) None

abbrev pub listed : {X : Type 0} → Option X → List X
listed o = option_map_or (λ x. x ∷ []) o []

abbrev pub locals_in : Parts → List (List ℕ) → List SymbolOf → List Local
locals_in p names ss = flat_map (λ s. listed (local_in p names s)) ss

-- such a table by rising keys
pub record IsKeyed (table : List Local) : Type 0 where
  pub rising : IsNonDecreasingBy (λ x. x.key) table
  pub keys : All (λ x. x.key ≡ key_of x.number x.wanted.value) table

-- one has the number of a name, and an entry is what it asks for
pub record IsLocalBy (hs : List SectionHeader) (number : ℕ) (e : entry.Symbol) (x : Local) : Type 0 where
  pub number_is : x.number ≡ number
  pub fits : Fits hs e x.wanted
