-- The bytes of debug data: those of the input, and over them what relocations want (AMD64 psABI 4.4, "Relocation Types"; ELF
-- Handling For Thread-Local Storage for the offsets in the thread block; what is wanted of what isn't in the image is the profile's).
use Rattle.std.specs.Prelude.{ℕ, ◌+◌, ◌-◌, ◌*◌, ◌%◌, ◌^◌, ◌==◌, ◌&&◌, ◌||◌, Bool, false, true, not, cond, List, [], ◌∷◌, ◌++◌, Option, None, Some, codes, count_by, find, length, map, nat_le, nat_lt, option_map, replicate, slice_index, unwrap_or}
use Rattle.std.specs.List.{filter_map, flat_map, list_any, range_with_len, slice_get}
use Rattle.std.specs.Option.{is_none, is_some, option_and_then, option_map_or, option_or}
use Rattle.std.specs.Str.{bytes_eq}
use Rattle.byteview.specs.Numbers.{le_bytes}
use Rattle.elf_model.specs.Link.LinkerValues.{bound_value}
use Rattle.elf_model.specs.Link.Loading.{LoadedObject, is_dropped}
use Rattle.elf_model.specs.Link.Meaning.{Common, Linker, Meaning, Symbol}
use Rattle.elf_model.specs.Link.Pieces.{is_alloc}
use Rattle.elf_model.specs.Inputs.ObjectFile.{rela_type, relas}
use Rattle.elf_model.specs.Own.OwnLayout.{own_in_load_order, own_where}
use Rattle.elf_model.specs.Link.Placement.{Placed, Where, is_of_section}
use Rattle.elf_model.specs.Link.Relocation.{Always, Either, Kind, Range, Relocation, S+A-P, Signed, Terms, Unsigned, definition_of, is_some_kind, kind, kind_of, modulo_64, relocation_of, whole_value}
use Rattle.elf_model.specs.Link.RelocationValues as plain
use Rattle.elf_model.specs.Link.Resolution.{SymbolOf, is_absolute}
use Rattle.elf_model.specs.Link.Slots.{slot_kind_of}
use Rattle.elf_model.specs.Link.ThreadStorage.{block_in, thread_offset}
use Rattle.elf_model.specs.declared.records.Rela.{Rela}
use Rattle.elf_model.specs.declared.references.SectionRef.{SectionRef}
use Rattle.debug_image.specs.DebugSections.{Chunk, debug_offset}
use Rattle.debug_image.specs.KeptGroups.{stand_in}
use Rattle.debug_image.specs.ObjectSections.{header_in, numbers, section_ref}
use Rattle.debug_image.specs.Symbols.{thread_start_of}
use Rattle.debug_image.specs.declared.symbol_values.SymbolValue.{SymbolValue}
use Rattle.debug_image.specs.declared.symbol_values.SymbolValue.TheVariants.{Known, NoAddress, NoData}

-- the debug data of a link: where it is laid out, its objects, and the sections of each that hold debug data, at their offsets
pub record Data : Type 0 where
  pub base : ℕ
  pub objects : List LoadedObject
  pub rows : List (List Placed)

abbrev pub where_of : Data → Where
where_of d = own_where d.base d.objects

-- The kinds.

-- the kinds of the profile that name no slot of the GOT, which has slots only for what is in memory; and those of an offset in the block
-- of thread-local storage, whose P is where that begins
abbrev pub R_X86_64_DTPOFF64 : ℕ
R_X86_64_DTPOFF64 = 17

abbrev pub R_X86_64_DTPOFF32 : ℕ
R_X86_64_DTPOFF32 = 21

abbrev pub is_block_kind : ℕ → Bool
is_block_kind number = (number == R_X86_64_DTPOFF64) || (number == R_X86_64_DTPOFF32)

abbrev pub slotless : Kind → Option Kind
slotless k = cond (is_none (slot_kind_of k.formula)) (Some k) None

abbrev pub debug_kind : ℕ → Option Kind
debug_kind number =
    cond (number == R_X86_64_DTPOFF64) (Some (kind R_X86_64_DTPOFF64 8 S+A-P Always))
    (cond (number == R_X86_64_DTPOFF32) (Some (kind R_X86_64_DTPOFF32 4 S+A-P Signed)) (option_and_then slotless (kind_of number)))

-- a value of 64 bits fits a field of n bits
abbrev pub is_signed : ℕ → ℕ → Bool
is_signed n v = nat_lt v (2 ^ (n - 1)) || nat_le (2 ^ 64 - 2 ^ (n - 1)) v

abbrev pub is_in_range : Range → ℕ → ℕ → Bool
is_in_range Always n v = true
is_in_range Signed n v = is_signed n v
is_in_range Unsigned n v = nat_lt v (2 ^ n)
is_in_range Either n v = nat_lt v (2 ^ n) || is_signed n v

-- Values.

-- where a section of an object is, by their numbers: its address, or its offset in what is joined of its name; None where it isn't in
-- the image
abbrev pub address_of : Data → ℕ → ℕ → Option ℕ
address_of d object number = option_map (λ q. q.at) (find (is_of_section object number) (own_in_load_order d.base d.objects))

abbrev pub section_value : Data → ℕ → ℕ → Option ℕ
section_value d object number = option_or (address_of d object number) (debug_offset d.rows object number)

-- the section in which a symbol of a section stands: that section, or, where it is dropped, what stands for it in the kept group
abbrev pub section_meant : Data → ℕ → ℕ → Option SectionRef
section_meant d object number =
    option_and_then (λ o. cond (is_dropped o number) (stand_in d.objects o number) (Some (section_ref object number))) (slice_get d.objects object)

abbrev pub meant_value : Data → ℕ → ℕ → Option ℕ
meant_value d object number = option_and_then (λ r. section_value d r.object.0 r.section) (section_meant d object number)

-- a section of an object is no part of memory, so that what stands in it has no address
abbrev pub is_outside_memory : Data → ℕ → ℕ → Bool
is_outside_memory d object number = option_map_or (λ o. not (is_alloc (header_in o number))) (slice_get d.objects object) false

-- S of a symbol, of what a name means, and of what an entry uses: 0 where it names none; where what it names isn't in the image, S is no
-- address, or a place in no data
abbrev pub value_in : Bool → Option ℕ → SymbolValue
value_in outside None = cond outside NoData NoAddress
value_in outside (Some v) = Known v

abbrev pub symbol_value : Data → SymbolOf → SymbolValue
symbol_value d s =
    cond (is_absolute s.entry) (Known s.entry.st_value)
    (value_in (is_outside_memory d s.object s.entry.st_shndx)
    (option_map (λ at. (at + s.entry.st_value) % 2 ^ 64) (meant_value d s.object s.entry.st_shndx)))

abbrev pub meaning_value : Data → Meaning → SymbolValue
meaning_value d (Symbol s) = symbol_value d s
meaning_value d (Common b) = value_in false (address_of d b.object b.number)
meaning_value d (Linker name bound) = Known (bound_value (where_of d) name bound)

abbrev pub definition_value : Data → Option Meaning → SymbolValue
definition_value d m = option_map_or (meaning_value d) m NoAddress

abbrev pub used_value : Data → ℕ → Option Meaning → SymbolValue
used_value d number m = cond (number == 0) (Known 0) (definition_value d m)

-- what the letters of the formulas stand for: as in memory, but for S, for P, which is the offset in what is joined, or where the block of
-- thread-local storage begins, and for G, since no kind names a slot
abbrev pub place_of : Data → Placed → Rela → ℕ
place_of d q r = cond (is_block_kind (rela_type r)) (thread_start_of d.base d.objects) (q.at + r.r_offset)

abbrev pub terms_of : Data → Placed → Relocation → ℕ → Terms
terms_of d q r s =
    record (plain.terms_of d.objects (where_of d) r) { s = s; p = place_of d q r.entry; g = 0; t = thread_offset (block_in (where_of d)) s }

-- what is wanted of an address that isn't in the image: 0, or 1 where 0 ends a list (DWARF 4, 2.6.2, "Location Lists", and 2.17.3,
-- "Non-Contiguous Address Ranges")
abbrev pub gone_value : List ℕ → ℕ
gone_value name = cond (bytes_eq name (codes ".debug_ranges") || bytes_eq name (codes ".debug_loc")) 1 0

-- the value that an entry of a kind wants: None where it wants a place in data that aren't in the image, which no number may stand for,
-- since it would be a place in other data
abbrev pub value_by : Data → Placed → Relocation → Kind → SymbolValue → Option ℕ
value_by d q r k NoData = None
value_by d q r k NoAddress = Some (gone_value q.piece.name)
value_by d q r k (Known s) = Some (modulo_64 (whole_value k.formula (terms_of d q r s)))

abbrev pub value_of : Data → Placed → Relocation → Kind → Option ℕ
value_of d q r k = value_by d q r k (used_value d r.symbol.number (definition_of d.objects r.symbol))

-- the same where it fits the field
abbrev pub in_range : Kind → ℕ → Option ℕ
in_range k v = cond (is_in_range k.range (8 * k.width) v) (Some v) None

abbrev pub fitting_value : Data → Placed → Relocation → Kind → Option ℕ
fitting_value d q r k = option_and_then (in_range k) (value_of d q r k)

-- Fields.

-- so many bytes of a section from one on, their value, and whether that is the one that is wanted
pub record Field : Type 0 where
  pub at : ℕ
  pub width : ℕ
  pub value : ℕ
  pub done : Bool

-- the field of an entry of a kind: None where it isn't inside its section; of all ones where there is no value that fits, so that it is a
-- place behind the end of what it speaks of, and not in the data of another object
abbrev pub is_inside : Placed → Rela → Kind → Bool
is_inside q r k = nat_le (r.r_offset + k.width) (length q.piece.bytes)

abbrev pub ones : ℕ
ones = 2 ^ 64 - 1

abbrev pub field_with : Rela → Kind → Option ℕ → Field
field_with r k v = record { at = r.r_offset; width = k.width; value = unwrap_or v ones; done = is_some v }

abbrev pub field_of : Data → Placed → Relocation → Kind → Option Field
field_of d q r k = cond (is_inside q r.entry k) (Some (field_with r.entry k (fitting_value d q r k))) None

-- that of an entry: None also where its type is none of a kind
abbrev pub entry_field : Data → Placed → LoadedObject → Rela → Option Field
entry_field d q o r =
    option_and_then (field_of d q (relocation_of q.piece.object o q.piece.section r)) (debug_kind (rela_type r))

-- the entries for a section of an object: those of each section of relocations that isn't dropped
abbrev pub is_rela_for : LoadedObject → ℕ → ℕ → Bool
is_rela_for o target i = ((header_in o i).sh_info == target) && not (is_dropped o i)

abbrev pub entries_at : LoadedObject → ℕ → ℕ → List Rela
entries_at o target i = cond (is_rela_for o target i) (unwrap_or (relas o.bytes i) []) []

abbrev pub entries_for : LoadedObject → ℕ → List Rela
entries_for o target = flat_map (entries_at o target) (numbers o)

abbrev pub fields_for : Data → Placed → LoadedObject → List Field
fields_for d q o = filter_map (entry_field d q o) (entries_for o q.piece.section)

abbrev pub fields : Data → Placed → List Field
fields d q = option_map_or (fields_for d q) (slice_get d.objects q.piece.object) []

-- Bytes.

-- byte k lies in a field, and what the field has there
abbrev pub covers : ℕ → Field → Bool
covers k f = nat_le f.at k && nat_lt k (f.at + f.width)

abbrev pub field_byte : ℕ → Field → ℕ
field_byte k f = slice_index (le_bytes f.width f.value) (k - f.at)

-- byte k of a section: that of the last of some fields in which it lies, or another one where it lies in none
abbrev pub byte_under : ℕ → ℕ → List Field → ℕ
byte_under k b [] = b
byte_under k b (f ∷ fs) = byte_under k (cond (covers k f) (field_byte k f) b) fs

-- the bytes of a section as they stand in the image: those of the last field that has them, and the input's
abbrev pub debug_byte : Data → Placed → ℕ → ℕ
debug_byte d q k = byte_under k (slice_index q.piece.bytes k) (fields d q)

abbrev pub debug_bytes : Data → Placed → List ℕ
debug_bytes d q = map (debug_byte d q) (range_with_len 0 (length q.piece.bytes))

abbrev pub chunk_bytes : Data → Chunk → List ℕ
chunk_bytes d c = replicate c.pad 0 ++ debug_bytes d c.place

abbrev pub all_bytes : Data → List Chunk → List ℕ
all_bytes d cs = flat_map (chunk_bytes d) cs

-- an entry of a section isn't done: its type isn't NONE, and it has no field, or one without the value that it wants
abbrev pub is_left : Data → Placed → LoadedObject → Rela → Bool
is_left d q o r = is_some_kind r && not (option_map_or (λ f. f.done) (entry_field d q o r) false)

abbrev pub entries_left : Data → Placed → Bool
entries_left d q = option_map_or (λ o. list_any (is_left d q o) (entries_for o q.piece.section)) (slice_get d.objects q.piece.object) false

-- a byte of a section lies in the fields of two entries
abbrev pub is_shared : List Field → ℕ → Bool
is_shared fs k = nat_lt 1 (count_by (covers k) fs)

abbrev pub shares_bytes : Data → Placed → Bool
shares_bytes d q = list_any (is_shared (fields d q)) (range_with_len 0 (length q.piece.bytes))

-- a section isn't relocated as its entries say
abbrev pub has_left : Data → Placed → Bool
has_left d q = entries_left d q || shares_bytes d q
