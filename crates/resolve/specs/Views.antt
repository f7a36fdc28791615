-- The crate's own types as the definitions see them.
use Rattle.std.specs.Prelude.{ℕ, List, map}
use Rattle.std.specs.Borrow.{Bor}
use Rattle.elf_model.specs.Image.MapRecord.{TargetRow, OfName, OfLocal}
use Rattle.elf_model.specs.Link.Meaning as meaning
use Rattle.elf_model.specs.Link.Resolution as resolution
use Rattle.elf_model.specs.declared.references.Target.{Target}
use Rattle.elf_model.specs.declared.references.Target.TheVariants as target
use Rattle.resolve.specs.Blocks.{block_view}
use Rattle.resolve.specs.declared.entries.SymbolOf.{SymbolOf}
use Rattle.resolve.specs.declared.definition.Definition.{Definition}
use Rattle.resolve.specs.declared.definition.Definition.TheVariants as variant

abbrev pub symbol_view : SymbolOf → resolution.SymbolOf
symbol_view s = record { object = s.object; number = s.number; name = s.name.now; entry = s.entry; dropped = s.dropped }

abbrev pub symbol_views : List SymbolOf → List resolution.SymbolOf
symbol_views ss = map symbol_view ss

abbrev pub meaning_view : Definition → meaning.Meaning
meaning_view (variant.Symbol s) = meaning.Symbol (symbol_view s)
meaning_view (variant.Common b) = meaning.Common (block_view b)
meaning_view (variant.Linker name bound) = meaning.Linker name.now bound

abbrev pub meaning_views : List Definition → List meaning.Meaning
meaning_views ms = map meaning_view ms

-- the name of what a name means, as the code holds it
abbrev pub held_name : Definition → Bor (List ℕ)
held_name (variant.Symbol s) = s.name
held_name (variant.Common b) = b.name
held_name (variant.Linker name bound) = name

abbrev pub target_view : Target → TargetRow
target_view (target.Name name) = OfName name.now
target_view (target.Local symbol) = OfLocal symbol.object.0 symbol.symbol
