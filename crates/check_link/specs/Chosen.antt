-- The chosen definitions of names, as an index has their positions in the list of the definitions.
use Rattle.std.specs.Prelude.{◌≡◌, ℕ, ◌+◌, ◌≤◌, Bool, true, false, cond, List, [], ◌∷◌, Option, Some, None, length, slice_get, slice_index_or, slice_set}
use Rattle.std.specs.Option.{option_and_then, option_map_or}
use Rattle.check_load.specs.NameNumbers.{IsNumberOf, number_of}
use Rattle.check_load.specs.Numbered.{number_in}
use Rattle.check_load.specs.declared.loaded.Loaded.{Loaded}
use Rattle.elf_model.specs.Link.ChosenSymbols.{is_chosen, is_same_symbol}
use Rattle.elf_model.specs.Link.Loading.{LoadedObject}
use Rattle.elf_model.specs.Link.Resolution.{SymbolOf, chosen, is_common_definition, is_strong, is_weak_definition}
use Rattle.check_link.specs.declared.chosen_definitions.Chosen.{Chosen}
use Rattle.check_link.specs.declared.chosen_definitions.Rank.{Rank}
use Rattle.check_link.specs.declared.chosen_definitions.Rank.TheVariants as rank

-- a symbol is a definition of a rank
abbrev pub is_of_rank : Rank → SymbolOf → Bool
is_of_rank rank.Strong s = is_strong s
is_of_rank rank.Common s = is_common_definition s
is_of_rank rank.Weak s = is_weak_definition s

-- the number of the first of symbols that passes a test, where they are numbered from k on
abbrev pub first_from : (SymbolOf → Bool) → ℕ → List SymbolOf → Option ℕ
first_from test k [] = None
first_from test k (s ∷ ss) = cond (test s) (Some k) (first_from test (k + 1) ss)

-- positions are of names
abbrev pub IsSized : Chosen → Type 0
IsSized index = length index.positions.items ≤ length index.names

-- the position of the name that has a number
abbrev pub position_at : List (Option ℕ) → ℕ → Option ℕ
position_at positions i = slice_index_or positions i None

-- the position that an index has for a name
abbrev pub position_in : Chosen → List ℕ → Option ℕ
position_in index name = position_at index.positions.items (number_of index.names name)

-- the number of the name of a symbol of loaded objects, by its object's and its own number, as it is kept
abbrev pub hint_at : List Loaded → ℕ → ℕ → Option ℕ
hint_at objects object j = option_and_then (λ l. number_in l.numbers j) (slice_get objects object)

-- the number that is kept for a symbol is that of its name, and so it is for each of several
pub record IsHinted (names : List (List ℕ)) (objects : List Loaded) (s : SymbolOf) : Type 0 where
  pub hint : (k : ℕ) → hint_at objects s.object s.number ≡ Some k → IsNumberOf names s.name k

pub record AreHinted (names : List (List ℕ)) (objects : List Loaded) (ss : List SymbolOf) : Type 0 where
  pub each : (i : ℕ) (s : SymbolOf) → slice_get ss i ≡ Some s → IsHinted names objects s

-- marks with the one at a position set
abbrev pub marked_by : List Bool → Option ℕ → List Bool
marked_by marks None = marks
marked_by marks (Some p) = slice_set marks p true

-- the definition that an index has for a name
abbrev pub definition_in : Chosen → List SymbolOf → List ℕ → Option SymbolOf
definition_in index ss name = option_and_then (slice_get ss) (position_in index name)

-- a symbol is the one that an index has for its name
abbrev pub is_found : Chosen → List SymbolOf → SymbolOf → Bool
is_found index ss s = option_map_or (is_same_symbol s) (definition_in index ss s.name) false

-- an index has for each name its chosen definition
abbrev pub AreChosen : List LoadedObject → List SymbolOf → Chosen → Type 0
AreChosen objects ss index = (name : List ℕ) → definition_in index ss name ≡ chosen objects name

-- each position that an index has is that of the chosen one of its own name
abbrev pub IsOwn : List SymbolOf → Chosen → Type 0
IsOwn ss index = (n p : ℕ) (s : SymbolOf) → position_at index.positions.items n ≡ Some p → slice_get ss p ≡ Some s → position_in index s.name ≡ Some p

-- definitions that have a mark are those that an index has for their names; they are the chosen ones of their names
abbrev pub AreOwnIn : List SymbolOf → Chosen → List Bool → Type 0
AreOwnIn ss index own = (i : ℕ) (s : SymbolOf) → slice_index_or own i false ≡ true → slice_get ss i ≡ Some s → definition_in index ss s.name ≡ Some s

-- the positions that an index has are those of marks that are set
abbrev pub HaveMarks : Chosen → List Bool → Type 0
HaveMarks index own = (n p : ℕ) → position_at index.positions.items n ≡ Some p → slice_get own p ≡ Some false → ⊥

abbrev pub AreOwnChoices : List LoadedObject → List SymbolOf → List Bool → Type 0
AreOwnChoices objects ss own = (i : ℕ) (s : SymbolOf) → slice_get own i ≡ Some true → slice_get ss i ≡ Some s → chosen objects s.name ≡ Some s

-- definitions without a mark aren't chosen
abbrev pub AreOtherChoices : List LoadedObject → List SymbolOf → List Bool → Type 0
AreOtherChoices objects ss own = (i : ℕ) (s : SymbolOf) → slice_get own i ≡ Some false → slice_get ss i ≡ Some s → is_chosen objects s ≡ false
