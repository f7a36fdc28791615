-- What a reference to a symbol means, by its object's and its own number.
use Rattle.std.specs.Prelude.{ℕ, cond, List, Option, Some, None, option_map}
use Rattle.std.specs.List.{slice_get}
use Rattle.std.specs.Option.{option_and_then, option_map_or}
use Rattle.elf_model.specs.Link.Loading.{LoadedObject}
use Rattle.elf_model.specs.Link.LinkerNames.{bound_of}
use Rattle.elf_model.specs.Image.MapRecord.{OfLocal, OfName, TargetRow}
use Rattle.elf_model.specs.Link.Meaning.{Linker, Meaning, Symbol, meaning}
use Rattle.elf_model.specs.Link.Relocation.{definition_of, is_local, symbol_at}
use Rattle.elf_model.specs.Link.Resolution.{SymbolOf, chosen, is_undefined}
use Rattle.elf_model.specs.Link.Slots.{target_of}

-- what a symbol of an object means; nothing where there is no such object
abbrev pub at_symbol : {X : Type 0} → (SymbolOf → Option X) → List LoadedObject → ℕ → ℕ → Option X
at_symbol means objects object number = option_and_then (λ o. means (symbol_at object o number)) (slice_get objects object)

-- what a reference to a symbol uses
abbrev pub definition_at : List LoadedObject → ℕ → ℕ → Option Meaning
definition_at objects = at_symbol (definition_of objects) objects

-- the chosen definition of the name of a symbol that isn't LOCAL
abbrev pub named_of : List LoadedObject → SymbolOf → Option SymbolOf
named_of objects s = cond (is_local s) None (chosen objects s.name)

abbrev pub named_at : List LoadedObject → ℕ → ℕ → Option SymbolOf
named_at objects = at_symbol (named_of objects) objects

-- what a symbol means whose name no object defines: a LOCAL one that is defined, itself; another one, what the
-- linker defines for its name
abbrev pub unchosen_of : List LoadedObject → SymbolOf → Option Meaning
unchosen_of objects s =
    cond (is_local s) (cond (is_undefined s.entry) None (Some (Symbol s))) (option_map (Linker s.name) (bound_of objects s.name))

abbrev pub unchosen_at : List LoadedObject → ℕ → ℕ → Option Meaning
unchosen_at objects = at_symbol (unchosen_of objects) objects

-- the target of a reference to a symbol: itself where it is LOCAL, or where there is no such object; else its name
abbrev pub target_at : List LoadedObject → ℕ → ℕ → TargetRow
target_at objects object number =
    option_map_or (λ o. target_of (symbol_at object o number)) (slice_get objects object) (OfLocal object number)

-- a symbol itself where it is defined
abbrev pub itself_of : SymbolOf → Option Meaning
itself_of s = cond (is_undefined s.entry) None (Some (Symbol s))

abbrev pub itself_at : List LoadedObject → ℕ → ℕ → Option Meaning
itself_at objects = at_symbol itself_of objects

-- the chosen definition of a target: what its name means, or the symbol itself
abbrev pub chosen_definition : List LoadedObject → TargetRow → Option Meaning
chosen_definition objects (OfName name) = meaning objects name
chosen_definition objects (OfLocal object number) = itself_at objects object number
