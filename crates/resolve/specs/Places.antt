-- Indices among the definitions: for each name that has a number, where its definition is.
use Rattle.std.specs.Prelude.{◌≡◌, ℕ, Bool, is_none, List, Option, option_map}
use Rattle.std.specs.List.{position, slice_get}
use Rattle.std.specs.Option.{option_and_then}
use Rattle.std.specs.Str.{bytes_eq}
use Rattle.elf_model.specs.Link.ChosenSymbols.{chosen_symbols}
use Rattle.elf_model.specs.Link.Loading.{LoadedObject}
use Rattle.elf_model.specs.Inputs.ObjectFile.{symbols}
use Rattle.elf_model.specs.Link.Resolution.{SymbolOf, chosen, symbol_of}
use Rattle.elf_model.specs.declared.references.SymbolRef.{SymbolRef}
use Rattle.search.specs.Loads.{LoadedPlan}
use Rattle.search.specs.Numbers.{name_number}
use Rattle.resolve.specs.Meaning.{named_at}

-- the index for a symbol of an object, by the number of its name
abbrev pub place_at : LoadedPlan → List ℕ → ℕ → ℕ → Option ℕ
place_at l places object number = option_and_then (λ n. slice_get places n) (name_number l object number)

-- the chosen definition at a place, if there is one
abbrev pub at_some : List LoadedObject → Option ℕ → Option SymbolOf
at_some objects place = option_and_then (λ p. slice_get (chosen_symbols objects) p) place

-- no definition stands where the indices say for a number
abbrev pub is_unplaced : List SymbolRef → List ℕ → ℕ → Bool
is_unplaced chosen places number = is_none (option_and_then (λ p. slice_get chosen p) (slice_get places number))

-- the symbol that has an object's and its own number; None where there is none
abbrev pub symbol_numbered : List LoadedObject → ℕ → ℕ → Option SymbolOf
symbol_numbered objects object number =
    option_and_then (λ o. option_map (symbol_of object o number) (slice_get (symbols o.bytes) number)) (slice_get objects object)

-- the index for a name
abbrev pub place_named : LoadedPlan → List ℕ → List ℕ → Option ℕ
place_named l places name = option_and_then (λ n. slice_get places n) (position (bytes_eq name) l.names)

-- the indices for names, and for the names of symbols
pub record ArePlaces (l : LoadedPlan) (places : List ℕ) : Type 0 where
  pub named : (name : List ℕ) → at_some l.objects (place_named l places name) ≡ chosen l.objects name
  pub each : (object number : ℕ) → at_some l.objects (place_at l places object number) ≡ named_at l.objects object number
