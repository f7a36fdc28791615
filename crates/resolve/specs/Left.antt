-- Names that symbols have and no object defines.
use Rattle.std.specs.Prelude.{◌≡◌, ℕ, ◌&&◌, Bool, false, not, is_none, is_some, List, [], Some, slice_index_or}
use Rattle.std.specs.BTreeSet.{BTreeSet}
use Rattle.std.specs.Borrow.{Bor}
use Rattle.std.specs.List.{slice_get}
use Rattle.std.specs.Str.{bytes_eq}
use Rattle.elf_model.specs.Link.Loading.{LoadedObject}
use Rattle.elf_model.specs.Link.Relocation.{is_local, symbol_at}
use Rattle.elf_model.specs.Link.Resolution.{SymbolOf, chosen}
use Rattle.elf_model.specs.Link.UsedNames.{is_linker_use}
use Rattle.elf_model.specs.declared.references.SymbolRef.{SymbolRef}
use Rattle.resolve.specs.Outputs.{bound_among}
use Rattle.resolve.specs.Places.{is_unplaced}

-- a symbol isn't LOCAL and has a name that no object defines
abbrev pub is_left_of : List LoadedObject → List ℕ → SymbolOf → Bool
is_left_of objects name s = not (is_local s) && (bytes_eq s.name name && is_none (chosen objects s.name))

-- no symbol of the objects that isn't LOCAL has the name, or an object defines it
abbrev pub HasNoneLeft : List LoadedObject → List ℕ → Type 0
HasNoneLeft objects name =
    (k : ℕ) (o : LoadedObject) → slice_get objects k ≡ Some o → (j : ℕ) → is_left_of objects name (symbol_at k o j) ≡ false

-- no symbol of the objects that isn't LOCAL has a name that the linker defines and no object does
abbrev pub HasNoLinkerNames : List LoadedObject → Type 0
HasNoLinkerNames objects =
    (k : ℕ) (o : LoadedObject) → slice_get objects k ≡ Some o → (j : ℕ) → is_linker_use objects (symbol_at k o j) ≡ false

-- the name that has a number is none of a definition, by the indices, and one that the linker defines, by the output names
abbrev pub is_linkers : List SymbolRef → List ℕ → BTreeSet (Bor (List ℕ)) → List (List ℕ) → ℕ → Bool
is_linkers chosen places outputs names n = is_unplaced chosen places n && is_some (bound_among outputs (slice_index_or names n []))
