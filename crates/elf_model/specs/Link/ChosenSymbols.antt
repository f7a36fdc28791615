-- The symbols that names mean, as a list: each chosen definition once. It says no more than `chosen` does.
use Rattle.std.specs.Prelude.{◌==◌, ◌&&◌, ◌||◌, Bool, false, List, filter}
use Rattle.std.specs.Option.{option_map_or}
use Rattle.elf_model.specs.Link.Loading.{LoadedObject}
use Rattle.elf_model.specs.Link.Resolution.{SymbolOf, all_symbols, chosen, is_common_definition, is_strong, is_weak_definition}

-- the symbols that define a name: strong, common or weak
abbrev pub is_definition : SymbolOf → Bool
is_definition s = is_strong s || (is_common_definition s || is_weak_definition s)

abbrev pub definitions : List LoadedObject → List SymbolOf
definitions objects = filter is_definition (all_symbols objects)

-- they are one symbol: of one object, with one number
abbrev pub is_same_symbol : SymbolOf → SymbolOf → Bool
is_same_symbol s t = s.object == t.object && s.number == t.number

-- the symbol is the chosen definition of its name
abbrev pub is_chosen : List LoadedObject → SymbolOf → Bool
is_chosen objects s = option_map_or (is_same_symbol s) (chosen objects s.name) false

abbrev pub chosen_symbols : List LoadedObject → List SymbolOf
chosen_symbols objects = filter (is_chosen objects) (definitions objects)
