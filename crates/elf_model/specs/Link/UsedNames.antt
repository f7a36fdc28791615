-- The linker's names that relocations use, and sets of the names of definitions.
use Rattle.std.specs.Prelude.{◌≡◌, ℕ, ◌&&◌, ◌||◌, ◌++◌, Bool, not, is_some, List, [], ◌∷◌, Option, option_map, option_to_list, true}
use Rattle.std.specs.BTreeSet.{BTreeSet, contains_by}
use Rattle.std.specs.Borrow.{Bor}
use Rattle.std.specs.Cmp.Lexicographic.{slice_cmp}
use Rattle.std.specs.List.{list_any}
use Rattle.std.specs.Ordering.{nat_cmp}
use Rattle.std.specs.Str.{bytes_eq}
use Rattle.elf_model.specs.Link.LinkerNames.{bound_of}
use Rattle.elf_model.specs.Link.Loading.{LoadedObject}
use Rattle.elf_model.specs.Link.Meaning.{Linker, Meaning}
use Rattle.elf_model.specs.Link.Relocation.{Relocation, is_local}
use Rattle.elf_model.specs.Link.Resolution.{SymbolOf, chosen, has_name}

-- whether a set has a name
abbrev pub is_among : BTreeSet (Bor (List ℕ)) → List ℕ → Bool
is_among names name = contains_by (λ k. slice_cmp nat_cmp name k.now) names

pub record IsAmong (names : BTreeSet (Bor (List ℕ))) (name : List ℕ) : Type 0 where
  pub has : is_among names name ≡ true

-- a set has the names of the definitions alone
abbrev pub AreNamesOf : List SymbolOf → BTreeSet (Bor (List ℕ)) → Type 0
AreNamesOf definitions names = (name : List ℕ) → is_among names name ≡ list_any (has_name name) definitions

-- a symbol that isn't LOCAL has a name that the linker defines and no object does
abbrev pub is_linker_use : List LoadedObject → SymbolOf → Bool
is_linker_use objects s = not (is_local s) && (is_some (bound_of objects s.name) && not (is_some (chosen objects s.name)))

-- a relocation uses such a name
abbrev pub uses_line : List LoadedObject → List ℕ → Relocation → Bool
uses_line objects name r = is_linker_use objects r.symbol && bytes_eq r.symbol.name name

-- a set has gained the names that relocations use so
abbrev pub Gains : List LoadedObject → List Relocation → BTreeSet (Bor (List ℕ)) → BTreeSet (Bor (List ℕ)) → Type 0
Gains objects rs old new = (name : List ℕ) → is_among new name ≡ (is_among old name || list_any (uses_line objects name) rs)

-- what the linker defines for a name, and for names in their order
abbrev pub linker_meaning : List LoadedObject → List ℕ → Option Meaning
linker_meaning objects name = option_map (Linker name) (bound_of objects name)

abbrev pub linker_meanings : List LoadedObject → List (Bor (List ℕ)) → List Meaning
linker_meanings objects [] = []
linker_meanings objects (name ∷ names) = option_to_list (linker_meaning objects name.now) ++ linker_meanings objects names
