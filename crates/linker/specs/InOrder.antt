-- The definitions that have a line, in the order of their names: found by the positions of the names.
use Rattle.std.specs.Prelude.{◌≡◌, ℕ, List, [], ◌++◌, map, slice_index_or, unwrap_or}
use Rattle.std.specs.Cmp.Lexicographic.{slice_cmp}
use Rattle.std.specs.List.Sorted.{IsSortedByKey}
use Rattle.std.specs.Ordering.{nat_cmp}
use Rattle.elf_model.specs.Link.Listing.{AreListed}
use Rattle.elf_model.specs.Link.Loading.{LoadedObject}
use Rattle.elf_model.specs.Link.Meaning.{Linker, Meaning, Symbol, meaning_name, meant}
use Rattle.elf_model.specs.Link.Resolution.{SymbolOf}
use Rattle.elf_model.specs.declared.bound.Bound.TheVariants.{ImageStart}
use Rattle.resolve.specs.Chosen.{defined_in}
use Rattle.image_write.specs.CommonRows.{own_commons}
use Rattle.relocate.specs.Uses.{line_views}
use Rattle.linker.specs.declared.listed_definitions.InOrder.{InOrder}
use Rattle.linker.specs.declared.name_order.Keyed.{Keyed}

-- what a chosen symbol means: it always means something
abbrev pub own_meaning : List LoadedObject → SymbolOf → Meaning
own_meaning objects s = unwrap_or (meant objects s) (Symbol s)

-- what symbols mean, and behind that the lines of the linker's names
abbrev pub all_meanings : List LoadedObject → List SymbolOf → List Meaning → List Meaning
all_meanings objects symbols lines = map (own_meaning objects) symbols ++ lines

-- what has its name at a position; the name behind the last is empty
abbrev pub meaning_at : List LoadedObject → List SymbolOf → List Meaning → ℕ → Meaning
meaning_at objects symbols lines position = slice_index_or (all_meanings objects symbols lines) position (Linker [] ImageStart)

abbrev pub meanings_at : List LoadedObject → List SymbolOf → List Meaning → List Keyed → List Meaning
meanings_at objects symbols lines ks = map (λ k. meaning_at objects symbols lines k.position) ks

-- all that have a line, in the order of their names
pub record AreInOrder (objects : List LoadedObject) (ms : List Meaning) : Type 0 where
  pub listed : AreListed objects ms
  pub rising : IsSortedByKey meaning_name (slice_cmp nat_cmp) ms

-- those of what is found in order
abbrev pub meanings_in : InOrder → List Meaning
meanings_in o = meanings_at o.resolved.now (defined_in o.names.symbols) (line_views o.names.linkers.now) o.keys.items

-- they are no common blocks
abbrev pub HasNoCommonLine : List Meaning → Type 0
HasNoCommonLine ms = (base : ℕ) (objects : List LoadedObject) → own_commons base objects ms ≡ []
