-- The definitions that have a line in the map, in the order of their names, and what a link keeps of them.
use Rattle.std.specs.Prelude.{◌≡◌, ℕ, ◌+◌, ◌<◌, List, [], Option, None, Some, length, slice_index_or}
use Rattle.std.specs.Cmp.Lexicographic.{slice_cmp}
use Rattle.std.specs.List.Sorted.{IsSortedByKey}
use Rattle.std.specs.Ordering.{nat_cmp}
use Rattle.elf_model.specs.Link.Listing.{AreLinkerLines, AreListed}
use Rattle.elf_model.specs.Link.Loading.{LoadedObject}
use Rattle.elf_model.specs.Link.Meaning.{meaning_name}
use Rattle.elf_model.specs.Link.Resolution.{AreSoundSymbols}
use Rattle.resolve.specs.Views.{meaning_view, meaning_views}
use Rattle.resolve.specs.declared.definition.Definition as code
use Rattle.relocate.specs.Uses.{line_views}
use Rattle.image_write.specs.declared.listed.Listed.{Listed}
use Rattle.image_write.specs.declared.listed.Listed.TheVariants as kept
use Rattle.image_write.specs.declared.symbol_table.SymbolTable.{SymbolTable}

-- no two neighbours have one name
abbrev pub HasNoTwins : List code.Definition → Type 0
HasNoTwins ms =
    (k : ℕ) (d : code.Definition) → k + 1 < length ms →
    meaning_name (meaning_view (slice_index_or ms k d)) ≡ meaning_name (meaning_view (slice_index_or ms (k + 1) d)) → ⊥

pub record IsListing (objects : List LoadedObject) (ms : List code.Definition) : Type 0 where
  pub listed : AreListed objects (meaning_views ms)
  pub rising : IsSortedByKey (λ m. meaning_name (meaning_view m)) (slice_cmp nat_cmp) ms
  pub no_twins : HasNoTwins ms
  pub sound : AreSoundSymbols objects

-- those that a link has in order, with their symbol table
abbrev pub in_order : Listed → List code.Definition
in_order (kept.InOrder ms t) = ms.items
in_order (kept.Unlisted r lines) = []

abbrev pub table_in : Listed → Option SymbolTable
table_in (kept.InOrder ms t) = Some t
table_in (kept.Unlisted r lines) = None

-- the definitions that have a line, or what they are listed of: resolved names, and the lines of the linker's own names
abbrev pub AreKept : List LoadedObject → Listed → Type 0
AreKept objects (kept.InOrder ms t) = IsListing objects ms.items
AreKept objects (kept.Unlisted r lines) = (r ≡ objects) × AreLinkerLines objects (line_views lines.items)
