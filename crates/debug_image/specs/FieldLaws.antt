-- Laws of relocated debug data, in other words than the list of fields: which bytes an entry leaves (AMD64 psABI 4.4, "Relocation Types").
use Rattle.std.specs.Prelude.{◌≡◌, ◌≤◌, ◌<◌, ℕ, ◌+◌, ◌*◌, false, true, Some, Contains, List, count_by, drop, length, slice_index, take}
use Rattle.std.specs.List.{slice_get}
use Rattle.byteview.specs.Numbers.{le_bytes}
use Rattle.elf_model.specs.Inputs.ObjectFile.{rela_symbol, rela_type}
use Rattle.elf_model.specs.Link.Loading.{LoadedObject}
use Rattle.elf_model.specs.Link.Placement.{Placed}
use Rattle.elf_model.specs.Link.Relocation.{Kind, definition_of, modulo_64, relocation_of, symbol_at, whole_value}
use Rattle.elf_model.specs.declared.records.Rela.{Rela}
use Rattle.debug_image.specs.DebugValues.{Data, covers, debug_bytes, debug_kind, entries_for, fields, is_in_range, ones, shares_bytes, terms_of, used_value}
use Rattle.debug_image.specs.declared.symbol_values.SymbolValue.{SymbolValue}
use Rattle.debug_image.specs.declared.symbol_values.SymbolValue.TheVariants.{Known, NoData}

-- an entry of a section of an object, of a kind, whose field is inside, and shares no byte with that of another one
pub record IsApart (d : Data) (q : Placed) (o : LoadedObject) (r : Rela) (k : Kind) : Type 0 where
  pub object : slice_get d.objects q.piece.object ≡ Some o
  pub entry : Contains (entries_for o q.piece.section) r
  pub kind : debug_kind (rela_type r) ≡ Some k
  pub inside : r.r_offset + k.width ≤ length q.piece.bytes
  pub apart : shares_bytes d q ≡ false

-- what its symbol stands for
abbrev pub meant_by : Data → Placed → LoadedObject → Rela → SymbolValue
meant_by d q o r = used_value d (rela_symbol r) (definition_of d.objects (symbol_at q.piece.object o (rela_symbol r)))

-- the value of the psABI's formula where the symbol has the value s
abbrev pub formula_value : Data → Placed → LoadedObject → Rela → Kind → ℕ → ℕ
formula_value d q o r k s = modulo_64 (whole_value k.formula (terms_of d q (relocation_of q.piece.object o q.piece.section r) s))

-- the bytes of its field
abbrev pub field_bytes : Data → Placed → Rela → Kind → List ℕ
field_bytes d q r k = take k.width (drop r.r_offset (debug_bytes d q))

-- where the symbol has a value, and that of the formula fits, the field holds that, least significant byte first
abbrev pub FieldsHaveValues : Type 0
FieldsHaveValues =
    (d : Data) (q : Placed) (o : LoadedObject) (r : Rela) (k : Kind) (s : ℕ) → IsApart d q o r k → meant_by d q o r ≡ Known s
    → is_in_range k.range (8 * k.width) (formula_value d q o r k s) ≡ true → field_bytes d q r k ≡ le_bytes k.width (formula_value d q o r k s)

-- where the symbol is a place in data that aren't in the image, all bits of the field are ones
abbrev pub FieldsWithoutData : Type 0
FieldsWithoutData =
    (d : Data) (q : Placed) (o : LoadedObject) (r : Rela) (k : Kind) → IsApart d q o r k → meant_by d q o r ≡ NoData
    → field_bytes d q r k ≡ le_bytes k.width ones

-- a byte in no field is that of the input
abbrev pub OthersAreOfInput : Type 0
OthersAreOfInput =
    (d : Data) (q : Placed) (j : ℕ) → j < length q.piece.bytes → count_by (covers j) (fields d q) ≡ 0
    → slice_index (debug_bytes d q) j ≡ slice_index q.piece.bytes j
