-- The owners of all names, by the names' numbers.
use Rattle.std.specs.Prelude.{◌≡◌, ℕ, ◌&&◌, Bool, true, false, List, length, slice_index_or}
use Rattle.std.specs.Option.{option_map_or}
use Rattle.elf_model.specs.Link.ChosenSymbols.{is_definition}
use Rattle.elf_model.specs.Link.Resolution.{SymbolOf}
use Rattle.search.specs.Loads.{LoadedPlan}
use Rattle.search.specs.Names.{is_among, number_of}
use Rattle.search.specs.Numbers.{name_number}
use Rattle.resolve.specs.Offered.{is_referred}
use Rattle.symbols.specs.Owners.{owner_in, owner_ref}
use Rattle.symbols.specs.Rows.{Rows}
use Rattle.symbols.specs.declared.owner.Owner.{Owner}
use Rattle.symbols.specs.declared.owner.Owner.TheVariants as owner

-- the owner of the name of a symbol, by its object's and its own number
abbrev pub owner_numbered : LoadedPlan → List Owner → ℕ → ℕ → Owner
owner_numbered l owners object number =
    option_map_or (λ n. slice_index_or owners n owner.Nobody) (name_number l object number) owner.Nobody

-- a symbol is the owner of its name; it is also a definition
abbrev pub is_owner : LoadedPlan → List Owner → SymbolOf → Bool
is_owner l owners s = option_map_or (is_referred s) (owner_ref (owner_numbered l owners s.object s.number)) false

abbrev pub is_kept : LoadedPlan → List Owner → SymbolOf → Bool
is_kept l owners s = is_owner l owners s && is_definition s

-- the owners of names are those that rows tell
pub record AreOwners (names : List (List ℕ)) (rows : Rows) (owners : List Owner) : Type 0 where
  pub sized : length owners ≡ length names
  pub each : (n : List ℕ) → is_among names n ≡ true → slice_index_or owners (number_of names n) owner.Nobody ≡ owner_in rows n
