-- The text of a link map, version 1 or 2 (docs/MAP.md): how each line is spelled, which lines make a map, and
-- at which line a text first fails to be the beginning of one. The rules are this profile's.
use Rattle.std.specs.Prelude.{◌≡◌, ℕ, ◌+◌, ◌-◌, ◌/◌, ◌%◌, ◌^◌, ◌<◌, ◌≤◌, Bool, not, ◌&&◌, ◌==◌, nat_lt, nat_le, if◌then◌else◌, ◌⊎◌, List, [], ◌∷◌, ◌++◌, None, map, length, take, slice_index_or, option_to_list, codes, decimal, All}
use Rattle.std.specs.List.{flat_map}
use Rattle.std.specs.Ordering.{nat_cmp}
use Rattle.std.specs.Cmp.Lexicographic.{slice_cmp}
use Rattle.std.specs.declared.cmp.Ordering.TheVariants.{Less}
use Rattle.elf_model.specs.declared.link_map.Definition.{Definition}
use Rattle.elf_model.specs.declared.link_map.Definition.TheVariants as definition
use Rattle.elf_model.specs.declared.link_map.DropLine.{DropLine}
use Rattle.elf_model.specs.declared.link_map.GotLine.{GotLine}
use Rattle.elf_model.specs.declared.link_map.SlotKind.{SlotKind}
use Rattle.elf_model.specs.declared.link_map.SlotKind.TheVariants as kind
use Rattle.elf_model.specs.declared.link_map.SymtabLine.{SymtabLine}
use Rattle.elf_model.specs.declared.faults.MapFault.{MapFault}
use Rattle.elf_model.specs.declared.faults.MapFault.TheVariants as fault
use Rattle.elf_model.specs.Image.MapRecord.{MapRecord, ObjectRow, PlaceRow, CommonRow, SlotRow, SymbolRow, TargetRow, OfName, OfLocal}

-- a hexadecimal digit, in lower case
abbrev pub hex_digit : ℕ → ℕ
hex_digit d = if nat_lt d 10 then 48 + d else 87 + d

-- a number in 2, 4, 8 and 16 hexadecimal digits: those of its upper half, then those of its lower half
unfoldable pub pair : ℕ → List ℕ
pair n = hex_digit (n / 16) ∷ hex_digit (n % 16) ∷ []

unfoldable pub quad : ℕ → List ℕ
quad n = pair (n / 2 ^ 8) ++ pair (n % 2 ^ 8)

unfoldable pub word : ℕ → List ℕ
word n = quad (n / 2 ^ 16) ++ quad (n % 2 ^ 16)

unfoldable pub hex : ℕ → List ℕ
hex n = word (n / 2 ^ 32) ++ word (n % 2 ^ 32)

-- the bytes that stand for themselves in a NAME: 0x21 to 0x7e except the backslash
abbrev pub is_plain : ℕ → Bool
is_plain b = nat_le 33 b && nat_le b 126 && not (b == 92)

-- a byte of a NAME: itself, or `\x` and two hexadecimal digits
unfoldable pub spelled : ℕ → List ℕ
spelled b = if is_plain b then b ∷ [] else codes "\\x" ++ pair b

-- a NAME
abbrev pub escaped : List ℕ → List ℕ
escaped bytes = flat_map spelled bytes

-- the fields of a line, each with the space or the newline that ends it: an ADDR, another number, another
-- number at the line's end, a NAME, which always ends its line
unfoldable pub address : ℕ → List ℕ
address n = hex n ++ codes " "

unfoldable pub number : ℕ → List ℕ
number n = decimal n ++ codes " "

unfoldable pub last_number : ℕ → List ℕ
last_number n = decimal n ++ codes "\n"

unfoldable pub name : List ℕ → List ℕ
name bytes = escaped bytes ++ codes "\n"

-- `ldmap N`
unfoldable pub version_text : ℕ → List ℕ
version_text n = codes "ldmap " ++ last_number n

-- `object K ITEM OFFSET NAME`
unfoldable pub object_text : ObjectRow → List ℕ
object_text o = codes "object " ++ (number o.object ++ (number o.item ++ (number o.offset ++ name o.path)))

-- `drop K SEC`
unfoldable pub drop_text : DropLine → List ℕ
drop_text d = codes "drop " ++ (number d.object ++ last_number d.section)

-- `place ADDR SIZE K SEC NAME`
unfoldable pub place_text : PlaceRow → List ℕ
place_text p = codes "place " ++ (address p.address ++ (number p.size ++ (number p.object ++ (number p.section ++ name p.name))))

-- `common ADDR SIZE ALIGN NAME`
unfoldable pub common_text : CommonRow → List ℕ
common_text c = codes "common " ++ (address c.address ++ (number c.size ++ (number c.align ++ name c.name)))

-- `got ADDR SIZE`
unfoldable pub got_text : GotLine → List ℕ
got_text g = codes "got " ++ (address g.address ++ last_number g.size)

-- `slot ADDR WHAT name NAME` or `slot ADDR WHAT local K SYM`; WHAT is `value` or `thread`
abbrev pub kind_text : SlotKind → List ℕ
kind_text kind.Value = codes "value "
kind_text kind.Thread = codes "thread "

abbrev pub target_text : TargetRow → List ℕ
target_text (OfName bytes) = codes "name " ++ name bytes
target_text (OfLocal object symbol) = codes "local " ++ (number object ++ last_number symbol)

unfoldable pub slot_text : SlotRow → List ℕ
slot_text s = codes "slot " ++ (address s.address ++ (kind_text s.kind ++ target_text s.target))

-- `symbol ADDR strong K SYM NAME`, or `weak K SYM`, `common`, `linker` in place of `strong K SYM`
abbrev pub definition_text : Definition → List ℕ
definition_text (definition.Strong object symbol) = codes "strong " ++ (number object ++ number symbol)
definition_text (definition.Weak object symbol) = codes "weak " ++ (number object ++ number symbol)
definition_text definition.Common = codes "common "
definition_text definition.Linker = codes "linker "

unfoldable pub symbol_text : SymbolRow → List ℕ
symbol_text s = codes "symbol " ++ (address s.address ++ (definition_text s.definition ++ name s.name))

-- `symtab OFFSET COUNT`
unfoldable pub symtab_text : SymtabLine → List ℕ
symtab_text t = codes "symtab " ++ (number t.offset ++ last_number t.count)

-- a line of a map, and its text
pub data Line : Type 0 where
  Version : ℕ → Line
  Object : ObjectRow → Line
  Drop : DropLine → Line
  Place : PlaceRow → Line
  Common : CommonRow → Line
  Got : GotLine → Line
  Slot : SlotRow → Line
  Symbol : SymbolRow → Line
  Symtab : SymtabLine → Line
  End : Line

abbrev pub line_text : Line → List ℕ
line_text (Version n) = version_text n
line_text (Object o) = object_text o
line_text (Drop d) = drop_text d
line_text (Place p) = place_text p
line_text (Common c) = common_text c
line_text (Got g) = got_text g
line_text (Slot s) = slot_text s
line_text (Symbol s) = symbol_text s
line_text (Symtab t) = symtab_text t
line_text End = codes "end\n"

-- the lines of a map between the first and the last, in their order
unfoldable pub body : MapRecord → List Line
body m = map Object m.objects ++ (map Drop m.drops ++ (map Place m.places ++ (map Common m.commons ++ (map Got (option_to_list m.got) ++ (map Slot m.slots ++ (map Symbol m.symbols ++ map Symtab (option_to_list m.symtab)))))))

-- all lines of a map, and its text
abbrev pub lines : MapRecord → List Line
lines m = Version m.version ∷ (body m ++ End ∷ [])

abbrev pub text : MapRecord → List ℕ
text m = flat_map line_text (lines m)

-- keys: numbers are compared as numbers, names by their bytes, object and section by the object first
abbrev pub NameBefore : List ℕ → List ℕ → Type 0
NameBefore a b = slice_cmp nat_cmp a b ≡ Less

abbrev pub DropBefore : DropLine → DropLine → Type 0
DropBefore p q = (p.object < q.object) ⊎ ((p.object ≡ q.object) × (p.section < q.section))

abbrev pub PlaceBefore : PlaceRow → PlaceRow → Type 0
PlaceBefore p q = (p.object < q.object) ⊎ ((p.object ≡ q.object) × (p.section < q.section))

abbrev pub CommonBefore : CommonRow → CommonRow → Type 0
CommonBefore p q = NameBefore p.name q.name

abbrev pub SlotBefore : SlotRow → SlotRow → Type 0
SlotBefore p q = p.address < q.address

abbrev pub SymbolBefore : SymbolRow → SymbolRow → Type 0
SymbolBefore p q = NameBefore p.name q.name

-- each element stands before the next in the order of their keys
abbrev pub Ascends : {X : Type 0} → (X → X → Type 0) → List X → Type 0
Ascends {X} Before xs = (k : ℕ) (d : X) → k + 1 < length xs → Before (slice_index_or xs k d) (slice_index_or xs (k + 1) d)

-- the objects are numbered 0, 1, 2, ..
abbrev pub AreNumbered : List ObjectRow → Type 0
AreNumbered objects = (k : ℕ) (d : ObjectRow) → k < length objects → (slice_index_or objects k d).object ≡ k

-- version 1 has no line of a symbol table, version 2 may have one, and there is no other version
abbrev pub IsVersioned : MapRecord → Type 0
IsVersioned m = ((m.version ≡ 1) × (m.symtab ≡ None)) ⊎ (m.version ≡ 2)

-- the version and the keys of a map are as its text needs them
pub record IsOrdered (m : MapRecord) : Type 0 where
  pub version : IsVersioned m
  pub objects : AreNumbered m.objects
  pub drops : Ascends DropBefore m.drops
  pub places : Ascends PlaceBefore m.places
  pub commons : Ascends CommonBefore m.commons
  pub slots : Ascends SlotBefore m.slots
  pub symbols : Ascends SymbolBefore m.symbols

-- the bytes of a name are bytes
abbrev pub AreBytes : List ℕ → Type 0
AreBytes bytes = All (λ b. b < 256) bytes

-- the numbers of a line are below 2^64, and the bytes of its name are bytes
pub record FitsObject (o : ObjectRow) : Type 0 where
  pub object : o.object < 2 ^ 64
  pub item : o.item < 2 ^ 64
  pub offset : o.offset < 2 ^ 64
  pub path : AreBytes o.path

pub record FitsDrop (d : DropLine) : Type 0 where
  pub object : d.object < 2 ^ 64
  pub section : d.section < 2 ^ 64

pub record FitsPlace (p : PlaceRow) : Type 0 where
  pub address : p.address < 2 ^ 64
  pub size : p.size < 2 ^ 64
  pub object : p.object < 2 ^ 64
  pub section : p.section < 2 ^ 64
  pub name : AreBytes p.name

pub record FitsCommon (c : CommonRow) : Type 0 where
  pub address : c.address < 2 ^ 64
  pub size : c.size < 2 ^ 64
  pub align : c.align < 2 ^ 64
  pub name : AreBytes c.name

pub record FitsGot (g : GotLine) : Type 0 where
  pub address : g.address < 2 ^ 64
  pub size : g.size < 2 ^ 64

abbrev pub FitsTarget : TargetRow → Type 0
FitsTarget (OfName bytes) = AreBytes bytes
FitsTarget (OfLocal object symbol) = (object < 2 ^ 64) × (symbol < 2 ^ 64)

pub record FitsSlot (s : SlotRow) : Type 0 where
  pub address : s.address < 2 ^ 64
  pub target : FitsTarget s.target

abbrev pub FitsDefinition : Definition → Type 0
FitsDefinition (definition.Strong object symbol) = (object < 2 ^ 64) × (symbol < 2 ^ 64)
FitsDefinition (definition.Weak object symbol) = (object < 2 ^ 64) × (symbol < 2 ^ 64)
FitsDefinition definition.Common = Unit {0}
FitsDefinition definition.Linker = Unit {0}

pub record FitsSymbol (s : SymbolRow) : Type 0 where
  pub address : s.address < 2 ^ 64
  pub definition : FitsDefinition s.definition
  pub name : AreBytes s.name

pub record FitsSymtab (t : SymtabLine) : Type 0 where
  pub offset : t.offset < 2 ^ 64
  pub count : t.count < 2 ^ 64

-- each line of a map fits so
pub record Fits (m : MapRecord) : Type 0 where
  pub objects : All FitsObject m.objects
  pub drops : All FitsDrop m.drops
  pub places : All FitsPlace m.places
  pub commons : All FitsCommon m.commons
  pub got : All FitsGot (option_to_list m.got)
  pub slots : All FitsSlot m.slots
  pub symbols : All FitsSymbol m.symbols
  pub symtab : All FitsSymtab (option_to_list m.symtab)

-- the records that have a text
pub record IsMap (m : MapRecord) : Type 0 where
  pub fits : Fits m
  pub ordered : IsOrdered m

-- the bytes begin with the first n lines of some map
pub record Begins (n : ℕ) (bytes : List ℕ) : Type 0 where
  pub whole : MapRecord
  pub is_map : IsMap whole
  pub within : n ≤ length (lines whole)
  pub rest : List ℕ
  pub front : bytes ≡ flat_map line_text (take n (lines whole)) ++ rest

-- line n, counted from 1, is the first at which the bytes are no beginning of a map. A last line without its
-- newline, the end of a text that ends too early, and whatever follows the last line count as such lines.
pub record IsFirstWrong (n : ℕ) (bytes : List ℕ) : Type 0 where
  pub counted : 0 < n
  pub right : Begins (n - 1) bytes
  pub wrong : ¬ Begins n bytes
  pub no_map : (m : MapRecord) → IsMap m → bytes ≡ text m → ⊥

-- when reading a map answers each fault
abbrev pub MapFails : List ℕ → MapFault → Type 0
MapFails bytes fault.Memory = Unit {0}
MapFails bytes (fault.Line n) = IsFirstWrong n bytes
