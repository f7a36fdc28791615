-- What the readers of the parts of a line answer: the value that the bytes begin with, and the bytes after
-- it, or None where they begin with no such value.
use Rattle.std.specs.Prelude.{ℕ, zero, suc, ◌+◌, ◌-◌, ◌*◌, ◌^◌, ◌≡◌, Bool, not, ◌&&◌, ◌||◌, ◌==◌, nat_lt, nat_le, if◌then◌else◌, Option, Some, None, Result, Ok, Err, List, [], ◌∷◌, ◌++◌, length, take, drop, slice_index, option_map, codes}
use Rattle.std.specs.List.{prefix_len}
use Rattle.std.specs.Str.Parse.{digits_value}
use Rattle.std.specs.Char.{is_ascii_digit}
use Rattle.elf_model.specs.declared.link_map.Definition.{Definition}
use Rattle.elf_model.specs.declared.link_map.Definition.TheVariants as definition
use Rattle.elf_model.specs.declared.link_map.DropLine.{DropLine}
use Rattle.elf_model.specs.declared.link_map.GotLine.{GotLine}
use Rattle.elf_model.specs.declared.link_map.SlotKind.{SlotKind}
use Rattle.elf_model.specs.declared.link_map.SlotKind.TheVariants as kind
use Rattle.elf_model.specs.declared.link_map.SymtabLine.{SymtabLine}
use Rattle.elf_model.specs.Image.MapRecord.{ObjectRow, PlaceRow, CommonRow, SlotRow, SymbolRow, TargetRow, OfName, OfLocal}
use Rattle.elf_model.specs.Image.MapText.{is_plain, Line, Object, Drop, Place, Common, Got, Slot, Symbol, Symtab, End}
use Rattle.linkmap.specs.declared.digits.LineFault.{LineFault}
use Rattle.linkmap.specs.declared.digits.LineFault.TheVariants as line_fault

abbrev pub Reads : Type 0 → Type 0
Reads X = List ℕ → Option (X × List ℕ)

-- the bytes behind a text that they begin with
unfoldable pub tag : List ℕ → List ℕ → Option (List ℕ)
tag [] bytes = Some bytes
tag (t ∷ ts) [] = None
tag (t ∷ ts) (b ∷ bytes) = if b == t then tag ts bytes else None

-- a value, then what the first reader left to the second
abbrev pub chained : {X Y : Type 0} → Option (X × List ℕ) → (X → Reads Y) → Option (Y × List ℕ)
chained None next = None
chained (Some p) next = next p.0 p.1

abbrev pub seen : {X Y : Type 0} → (X → Y) → Reads X → Reads Y
seen f read bytes = chained (read bytes) (λ x rest. Some (f x, rest))

abbrev pub both : {X Y : Type 0} → Reads X → Reads Y → Reads (X × Y)
both first second bytes = chained (first bytes) (λ x rest. chained (second rest) (λ y left. Some ((x, y), left)))

-- a value with a text behind it
abbrev pub before : {X : Type 0} → List ℕ → Reads X → Reads X
before text read bytes = chained (read bytes) (λ x rest. option_map (λ left. (x, left)) (tag text rest))

-- the one reader behind the text, the other where the bytes don't begin with it
abbrev pub fork : {X : Type 0} → Option (List ℕ) → Reads X → Option (X × List ℕ) → Option (X × List ℕ)
fork None here other = other
fork (Some rest) here other = here rest

-- a hexadecimal digit in lower case, and a number of two halves
abbrev pub digit_at : Reads ℕ
digit_at [] = None
digit_at (b ∷ rest) = if nat_le 48 b && nat_le b 57 then Some (b - 48, rest) else (if nat_le 97 b && nat_le b 102 then Some (b - 87, rest) else None)

abbrev pub halves : ℕ → Reads ℕ → Reads ℕ
halves m read bytes = chained (read bytes) (λ high rest. chained (read rest) (λ low left. Some (high * m + low, left)))

unfoldable pub pair_at : Reads ℕ
pair_at = halves 16 digit_at

unfoldable pub quad_at : Reads ℕ
quad_at = halves (2 ^ 8) pair_at

unfoldable pub word_at : Reads ℕ
word_at = halves (2 ^ 16) quad_at

unfoldable pub hex_at : Reads ℕ
hex_at = halves (2 ^ 32) word_at

unfoldable pub address_at : Reads ℕ
address_at = before (codes " ") hex_at

-- decimal digits as a number is spelled: no zero in front, and below 2^64
abbrev pub is_canonical : List ℕ → Bool
is_canonical ds = nat_lt 0 (length ds) && (not (slice_index ds 0 == 48) || length ds == 1) && nat_lt (digits_value 10 ds) (2 ^ 64)

abbrev pub digits_len : List ℕ → ℕ
digits_len bytes = prefix_len is_ascii_digit bytes

abbrev pub decimal_in : List ℕ → List ℕ → Option (ℕ × List ℕ)
decimal_in ds rest = if is_canonical ds then Some (digits_value 10 ds, rest) else None

unfoldable pub decimal_at : Reads ℕ
decimal_at bytes = decimal_in (take (digits_len bytes) bytes) (drop (digits_len bytes) bytes)

unfoldable pub number_at : Reads ℕ
number_at = before (codes " ") decimal_at

unfoldable pub last_number_at : Reads ℕ
last_number_at = before (codes "\n") decimal_at

-- `\x` and two digits, where the byte does not stand for itself
abbrev pub unless_plain : ℕ → List ℕ → Option (ℕ × List ℕ)
unless_plain b rest = if is_plain b then None else Some (b, rest)

unfoldable pub escape_at : Reads ℕ
escape_at bytes = fork (tag (codes "\\x") bytes) (λ rest. chained (pair_at rest) unless_plain) None

-- a name up to its newline. The first argument counts the bytes to be passed over, the rest of an escape.
abbrev pub with_front : List ℕ → Option (List ℕ × List ℕ) → Option (List ℕ × List ℕ)
with_front bytes None = None
with_front bytes (Some p) = Some (bytes ++ p.0, p.1)

unfoldable pub name_behind : ℕ → Reads (List ℕ)
name_behind n [] = None
name_behind (suc n) (b ∷ bytes) = name_behind n bytes
name_behind zero (b ∷ bytes) = if is_plain b then with_front (b ∷ []) (name_behind zero bytes) else (if b == 10 then Some ([], bytes) else chained (escape_at (b ∷ bytes)) (λ c rest. with_front (c ∷ []) (name_behind 3 bytes)))

abbrev pub name_at : Reads (List ℕ)
name_at bytes = name_behind zero bytes

-- the fields of each line, behind its first word
unfoldable pub object_at : Reads ObjectRow
object_at = seen (λ x. record { object = x.0; item = x.1.0; offset = x.1.1.0; path = x.1.1.1 }) (both number_at (both number_at (both number_at name_at)))

unfoldable pub drop_at : Reads DropLine
drop_at = seen (λ x. record { object = x.0; section = x.1 }) (both number_at last_number_at)

unfoldable pub place_at : Reads PlaceRow
place_at = seen (λ x. record { address = x.0; size = x.1.0; object = x.1.1.0; section = x.1.1.1.0; name = x.1.1.1.1 }) (both address_at (both number_at (both number_at (both number_at name_at))))

unfoldable pub common_at : Reads CommonRow
common_at = seen (λ x. record { address = x.0; size = x.1.0; align = x.1.1.0; name = x.1.1.1 }) (both address_at (both number_at (both number_at name_at)))

unfoldable pub got_at : Reads GotLine
got_at = seen (λ x. record { address = x.0; size = x.1 }) (both address_at last_number_at)

unfoldable pub kind_at : Reads SlotKind
kind_at bytes = fork (tag (codes "value ") bytes) (λ rest. Some (kind.Value, rest)) (fork (tag (codes "thread ") bytes) (λ rest. Some (kind.Thread, rest)) None)

unfoldable pub target_at : Reads TargetRow
target_at bytes = fork (tag (codes "name ") bytes) (seen OfName name_at) (fork (tag (codes "local ") bytes) (seen (λ x. OfLocal x.0 x.1) (both number_at last_number_at)) None)

unfoldable pub slot_at : Reads SlotRow
slot_at = seen (λ x. record { address = x.0; kind = x.1.0; target = x.1.1 }) (both address_at (both kind_at target_at))

unfoldable pub definition_at : Reads Definition
definition_at bytes = fork (tag (codes "strong ") bytes) (seen (λ x. definition.Strong x.0 x.1) (both number_at number_at)) (fork (tag (codes "weak ") bytes) (seen (λ x. definition.Weak x.0 x.1) (both number_at number_at)) (fork (tag (codes "common ") bytes) (λ rest. Some (definition.Common, rest)) (fork (tag (codes "linker ") bytes) (λ rest. Some (definition.Linker, rest)) None)))

unfoldable pub symbol_at : Reads SymbolRow
symbol_at = seen (λ x. record { address = x.0; definition = x.1.0; name = x.1.1 }) (both address_at (both definition_at name_at))

unfoldable pub symtab_at : Reads SymtabLine
symtab_at = seen (λ x. record { offset = x.0; count = x.1 }) (both number_at last_number_at)

-- the first line, by its version
unfoldable pub version_at : Reads ℕ
version_at bytes = fork (tag (codes "ldmap 1\n") bytes) (λ rest. Some (1, rest)) (fork (tag (codes "ldmap 2\n") bytes) (λ rest. Some (2, rest)) None)

-- a line behind the first: by its first word, or the last line
unfoldable pub line_at : Reads Line
line_at bytes = fork (tag (codes "object ") bytes) (seen Object object_at) (fork (tag (codes "drop ") bytes) (seen Drop drop_at) (fork (tag (codes "place ") bytes) (seen Place place_at) (fork (tag (codes "common ") bytes) (seen Common common_at) (fork (tag (codes "got ") bytes) (seen Got got_at) (fork (tag (codes "slot ") bytes) (seen Slot slot_at) (fork (tag (codes "symbol ") bytes) (seen Symbol symbol_at) (fork (tag (codes "symtab ") bytes) (seen Symtab symtab_at) (fork (tag (codes "end\n") bytes) (λ rest. Some (End, rest)) None))))))))

-- what a reader that takes memory answers, seen by `view`
abbrev pub Fails : {Y : Type 0} → LineFault → Option Y → Type 0
Fails line_fault.Memory read = Unit {0}
Fails line_fault.Bad read = read ≡ None

abbrev pub Gives : {X Y : Type 0} → (X → Y) → Result X LineFault → Option Y → Type 0
Gives view (Ok x) read = read ≡ Some (view x)
Gives view (Err e) read = Fails e read
