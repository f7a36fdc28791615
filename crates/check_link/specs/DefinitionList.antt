-- The definitions as a list keeps them: by their numbers, at which their objects have them.
use Rattle.std.specs.Prelude.{ℕ, List, [], None, Option, Some, ◌∷◌, option_map, unwrap_or}
use Rattle.std.specs.List.{slice_get}
use Rattle.std.specs.Option.{option_and_then}
use Rattle.elf_model.specs.Inputs.ObjectFile.{symbols}
use Rattle.elf_model.specs.Link.Loading.{LoadedObject}
use Rattle.elf_model.specs.Link.Resolution.{SymbolOf, symbol_of}
use Rattle.elf_model.specs.declared.references.SymbolRef.{SymbolRef}
use Rattle.check_load.specs.Numbered.{name_at}

-- the numbers of a symbol
abbrev pub ref_of : SymbolOf → SymbolRef
ref_of s = record { object = record { 0 = s.object }; symbol = s.number }

-- a symbol without its name
abbrev pub unnamed : SymbolOf → SymbolOf
unnamed s = record { object = s.object; number = s.number; name = []; entry = s.entry; dropped = s.dropped }

-- the symbol that has an object's and its own number, and its name; None, and an empty one, where there is none
abbrev pub symbol_at : List LoadedObject → ℕ → ℕ → Option SymbolOf
symbol_at objects k j = option_and_then (λ o. option_map (symbol_of k o j) (slice_get (symbols o.bytes) j)) (slice_get objects k)

abbrev pub name_there : List LoadedObject → ℕ → ℕ → List ℕ
name_there objects k j = unwrap_or (option_map (λ (o : LoadedObject). name_at o.bytes j) (slice_get objects k)) []

-- the name of the one at a position, an empty one past the end
abbrev pub name_in : List SymbolOf → ℕ → List ℕ
name_in ss i = unwrap_or (option_map (λ (s : SymbolOf). s.name) (slice_get ss i)) []

-- the one that there is, as a list
abbrev pub if_there : Option SymbolOf → List SymbolOf
if_there None = []
if_there (Some s) = s ∷ []
