-- What a place of a failed check says of a link: what is so there, which makes the clause false.
use Rattle.std.specs.Prelude.{◌≡◌, ◌≢◌, ◌+◌, ◌-◌, ◌*◌, ◌<◌, ◌≤◌, ◌%◌, ◌^◌, ◌||◌, ◌⊎◌, ℕ, Bool, true, false, not, List, Option, None, Some, All, Any, Contains, IfNone, IfSome, IsSome, IsSomeAnd, IsTrue, cond, drop, is_some, length, nat_le, option_map, slice_index, unwrap_or}
use Rattle.std.specs.List.{list_any, slice_get}
use Rattle.byteview.specs.Numbers.{le_at, text}
use Rattle.elf_model.specs.Inputs.Command.{Plan}
use Rattle.elf_model.specs.Inputs.Files.{File}
use Rattle.elf_model.specs.Inputs.ObjectFile.{rela_type}
use Rattle.elf_model.specs.Inputs.Records.{file_header}
use Rattle.elf_model.specs.Image.MapRecord.{SlotRow, MapRecord}
use Rattle.elf_model.specs.Image.MapText.{Line, Object, Drop, Place, Common}
use Rattle.elf_model.specs.Image.MemoryImage.{Encloses, file_end, first_address, loads, memory_of, thread_blocks}
use Rattle.elf_model.specs.Image.RightLink.{EndsRight, EntersRight, HasCommonLine, HasLine, HoldsInitial, IsClearOf, IsInFilePart, IsOfSegment, Subject, byte_at, drop_rows, facts_of_piece, facts_of_row, fill_of, objects_of, placed_of, sections_of, tabled_of, thread_data_end, things_of, where_of, AreRelocationsRight, Holds, HoldsBefore, IsRead}
use Rattle.elf_model.specs.Image.SymbolTable.{entry_count, headers_at, strtab_at, symtab_at, tables}
use Rattle.elf_model.specs.Link.ArrayOrder.{placed_in_array_order}
use Rattle.elf_model.specs.Link.Commons.{Block, block_named}
use Rattle.elf_model.specs.Link.Listing.{listed}
use Rattle.elf_model.specs.Link.Loading.{LoadedObject}
use Rattle.elf_model.specs.Link.Meaning.{meaning_value, object_meaning}
use Rattle.elf_model.specs.Link.Pieces.{Piece, kept_sections, load_size}
use Rattle.elf_model.specs.Link.Placement.{AreApart, Covers, IsWithin, LiesInSegment, Placed, Where, got_start, got_things, is_thread_place, range_of, section_address}
use Rattle.elf_model.specs.Link.Relocation.{IsFieldInside, IsMismatch, IsThreadMismatch, IsUndefined, Kind, RefersToDropped, RefersToMixed, Relocation, is_in_field, kind_of, relocation_kind}
use Rattle.elf_model.specs.Link.RelocationValues.{Fits, value_of}
use Rattle.elf_model.specs.Link.Resolution.{IsEntry}
use Rattle.elf_model.specs.Link.Slots.{got_bytes, has_got, is_slot_of, request_of, requests, row_request, same_request, size_with}
use Rattle.elf_model.specs.Link.ThreadStorage.{thread_headers}
use Rattle.elf_model.specs.Link.WantedBytes.{wanted_byte}
use Rattle.elf_model.specs.declared.records.ProgramHeader.{ProgramHeader}
use Rattle.elf_model.specs.declared.records.Rela.{Rela}
use Rattle.elf_model.specs.declared.thing.Thing.{Thing}
use Rattle.elf_model.specs.declared.verdict.Clause.{Clause}
use Rattle.elf_model.specs.declared.verdict.Clause.TheVariants.{C2, C3, C5, C6, C7, C8, C9, C10, C11, C12, C13, C14}
use Rattle.linkmap.specs.Lines.{line_view}
use Rattle.linkmap.specs.declared.line.Line as printed
use Rattle.check_link.specs.Slots.{line_of, request_view}
use Rattle.check_link.specs.Views.{placed_view}
use Rattle.check_link.specs.declared.requests.Request as asked
use Rattle.check_link.specs.declared.things.Placed as code
use Rattle.check_places.specs.ObjectLines.{row_of}
use Rattle.check_relocs.specs.LawfulFields.{refers_to_dropped}
use Rattle.check_relocs.specs.declared.lawful_fields.Relocated.{Relocated}
use Rattle.check_relocs.specs.declared.targets.Target.{Target}
use Rattle.check_tables.specs.Listed.{meaning_line}
use Rattle.checker.specs.ThreadBlock.{BeginsAfter, IsPlaceClear}
use Rattle.input_names.specs.RelocationPlaces.{IsRelocationAt, IsOverlap}
use Rattle.input_names.specs.declared.relocation_faults.RelocationFault.{RelocationFault}
use Rattle.input_names.specs.declared.relocation_faults.RelocationFault.TheVariants as fault
use Rattle.input_names.specs.declared.relocation_places.RelocationPlace.{RelocationPlace}
use Rattle.explain_check.specs.declared.place.ByteOf.{ByteOf}
use Rattle.explain_check.specs.declared.place.ByteOf.TheVariants as of
use Rattle.explain_check.specs.declared.place.BytePlace.{BytePlace}
use Rattle.explain_check.specs.declared.place.LineKey.{LineKey}
use Rattle.explain_check.specs.declared.place.LineKey.TheVariants as key
use Rattle.explain_check.specs.declared.place.NumberName.{NumberName}
use Rattle.explain_check.specs.declared.place.NumberName.TheVariants as number
use Rattle.explain_check.specs.declared.place.Part.{Part}
use Rattle.explain_check.specs.declared.place.TableEntry.{TableEntry}
use Rattle.check_places.specs.Far.{AreFar}
use Rattle.explain_check.specs.declared.place.CheckPlace.TheVariants as place
use Rattle.explain_check.specs.declared.place.CheckPlace.{CheckPlace}

-- C2, C3, C13. The line of a section and of a common block, which may have any address: it is 0 here.
abbrev pub place_line : Piece → Line
place_line p = Place (record { address = 0; size = p.size; object = p.object; section = p.section; name = p.name })

abbrev pub common_line : Block → Line
common_line b = Common (record { address = 0; size = b.size; align = b.align; name = b.name })

-- the line that a map should have for a key, if it should have one
abbrev pub wanted_line : Subject → LineKey → Option Line
wanted_line s (key.Object k) = option_map (λ o. Object (row_of k o)) (slice_get (objects_of s) k)
wanted_line s (key.Drop k) = option_map Drop (slice_get (drop_rows 0 (objects_of s)) k)
wanted_line s (key.Place k) = option_map place_line (slice_get (kept_sections (objects_of s)) k)
wanted_line s (key.Common name) = option_map common_line (block_named (objects_of s) name.now)
wanted_line s (key.Symbol name) = option_map (meaning_line (where_of s)) (listed (objects_of s) name.now)

-- its line is this one, or neither is there
abbrev pub IsRightLine : Subject → LineKey → Type 0
IsRightLine s (key.Object k) = slice_get s.map.objects k ≡ option_map (row_of k) (slice_get (objects_of s) k)
IsRightLine s (key.Drop k) = slice_get s.map.drops k ≡ slice_get (drop_rows 0 (objects_of s)) k
IsRightLine s (key.Place k) =
    option_map facts_of_row (slice_get s.map.places k) ≡ option_map facts_of_piece (slice_get (kept_sections (objects_of s)) k)
IsRightLine s (key.Common name) = HasCommonLine s.map.commons (objects_of s) name.now
IsRightLine s (key.Symbol name) = HasLine s.map.symbols (objects_of s) (where_of s) name.now

pub record IsWrongLine (s : Subject) (k : LineKey) (wanted : Option printed.Line) : Type 0 where
  pub is_wanted : option_map line_view wanted ≡ wanted_line s k
  pub wrong : ¬ IsRightLine s k

-- C12. The value of what the entry's name means, modulo 2 ^ 64; None where it has no lawful meaning.
abbrev pub IsEntryValue : List LoadedObject → Where → List ℕ → Option ℕ → Type 0
IsEntryValue objects w name None = ¬ (IsEntry objects name × IsSome (object_meaning objects name))
IsEntryValue objects w name (Some value) =
    IsEntry objects name × (option_map (λ m. meaning_value w m % 2 ^ 64) (object_meaning objects name) ≡ Some value)

pub record IsWrongEntry (s : Subject) (e_entry : ℕ) (value : Option ℕ) : Type 0 where
  pub entry : e_entry ≡ (file_header s.image).e_entry
  pub is_value : IsEntryValue (objects_of s) (where_of s) s.plan.entry value
  pub wrong : ¬ EntersRight s

-- C5, C6. The piece that the thing is which has a number: none where it is the headers or the GOT, which stand first.
abbrev pub piece_of : Subject → ℕ → Option Placed
piece_of s k =
    let gots = length (got_things s.map.got) in
    cond (nat_le k gots) None (slice_get (placed_of s) (k - 1 - gots))

-- a thread-local section with all its addresses, and any thing with those that it has in memory
pub record IsThread (s : Subject) (k : ℕ) (t : Thing) : Type 0 where
  pub q : Placed
  pub there : piece_of s k ≡ Some q
  pub thread : is_thread_place q ≡ true
  pub range : t ≡ range_of q

abbrev pub IsThing : Subject → Bool → ℕ → Thing → Type 0
IsThing s true k t = IsThread s k t
IsThing s false k t = slice_get (things_of s) k ≡ Some t

-- a part is one of the link's
pub record IsPart (s : Subject) (p : Part) : Type 0 where
  pub there : IsThing s p.thread p.number p.thing
  pub is_piece : piece_of s p.number ≡ option_map placed_view p.piece

pub record IsUnaligned (s : Subject) (p : Part) : Type 0 where
  pub part : IsPart s p
  pub thing : p.thread ≡ false
  pub wrong : ¬ (p.thing.at % p.thing.align ≡ 0)

-- two of the things, or two of the thread-local sections, have an address in common
pub record IsShared (s : Subject) (p q : Part) : Type 0 where
  pub first : IsPart s p
  pub second : IsPart s q
  pub same_list : p.thread ≡ q.thread
  pub two : p.number ≢ q.number
  pub wrong : ¬ AreApart p.thing q.thing

-- the sections of a link, those of an output section in their order
abbrev pub ordered_sections : Subject → List Placed
ordered_sections s = placed_in_array_order (sections_of s)

-- the thing that has a number isn't empty, or is the GOT
abbrev pub MustLie : Subject → ℕ → Thing → Type 0
MustLie s k t = (0 < t.size) ⊎ ((k ≡ 1) × IsSome s.map.got)

-- no segment with exactly its rights holds a thing whole, which isn't empty or is the GOT; the segment that does hold it,
-- if one does
pub record IsUnheld (s : Subject) (p : Part) (segment : Option ProgramHeader) : Type 0 where
  pub part : IsPart s p
  pub thing : p.thread ≡ false
  pub must_lie : MustLie s p.number p.thing
  pub held : IfSome segment (λ h. Contains (loads s.image) h × Encloses h p.thing.at p.thing.size)
  pub nowhere : IfNone segment (All (λ h. ¬ Encloses h p.thing.at p.thing.size) (loads s.image))
  pub wrong : ¬ LiesInSegment (loads s.image) p.thing

-- C7. The first line for the slot of a line is another one, or no relocation asks for its slot
abbrev pub IsNeedless : Subject → ℕ → Option ℕ → asked.Request → Type 0
IsNeedless s k (Some first) q = (line_of s.map.slots (request_view q) ≡ Some first) × (first ≢ k)
IsNeedless s k None q = list_any (same_request (request_view q)) (requests (objects_of s)) ≡ false

pub record IsWrongSlot (s : Subject) (k : ℕ) (first : Option ℕ) (q : asked.Request) : Type 0 where
  pub row : SlotRow
  pub there : slice_get s.map.slots k ≡ Some row
  pub request : request_view q ≡ row_request row
  pub needless : IsNeedless s k first q

-- a kept relocation makes a request for which there is no slot
pub record IsUnserved (s : Subject) (p : RelocationPlace) (q : asked.Request) : Type 0 where
  pub r : Relocation
  pub at : IsRelocationAt (objects_of s) p r
  pub asks : request_of r ≡ Some (request_view q)
  pub none : list_any (is_slot_of (request_view q)) s.map.slots ≡ false

-- where the last file part ends
abbrev pub parts_end : Subject → ℕ
parts_end s = file_end (loads s.image)

-- A number as the map or the image has it, where it does.
abbrev pub number_there : Subject → NumberName → Option ℕ
number_there s number.GotSize = option_map (λ g. g.size) s.map.got
number_there s (number.SlotAddress k) = option_map (λ row. row.address) (slice_get s.map.slots k)
number_there s number.Length = Some (length s.image)
number_there s number.TableOffset = option_map (λ line. line.offset) s.map.symtab
number_there s number.TableCount = option_map (λ line. line.count) s.map.symtab
number_there s number.HeadersOffset = Some (file_header s.image).e_shoff
number_there s number.HeadersCount = Some (file_header s.image).e_shnum
number_there s number.NamesSection = Some (file_header s.image).e_shstrndx

-- and as it should be, where that is said
abbrev pub number_wanted : Subject → NumberName → Option ℕ
number_wanted s number.GotSize = Some (size_with (length s.map.slots))
number_wanted s (number.SlotAddress k) = option_map (λ g. g.address + 8 + 8 * k) s.map.got
number_wanted s number.Length = cond (is_some s.map.symtab) None (Some (parts_end s))
number_wanted s number.TableOffset = Some (symtab_at (parts_end s))
number_wanted s number.TableCount = Some (entry_count (tabled_of s))
number_wanted s number.HeadersOffset = Some (cond (is_some s.map.symtab) (headers_at (parts_end s) (tabled_of s)) 0)
number_wanted s number.HeadersCount = Some (cond (is_some s.map.symtab) 4 0)
number_wanted s number.NamesSection = Some (cond (is_some s.map.symtab) 3 0)

pub record IsWrongNumber (s : Subject) (name : NumberName) (there wanted : ℕ) : Type 0 where
  pub is_there : number_there s name ≡ Some there
  pub is_wanted : number_wanted s name ≡ Some wanted
  pub wrong : ¬ (there ≡ wanted)

-- C8. The first PT_TLS header, and the wanted one, where the headers aren't those that are wanted.
pub record IsWrongThreadHeader (s : Subject) (there wanted : Option ProgramHeader) : Type 0 where
  pub is_there : there ≡ slice_get (thread_blocks s.image) 0
  pub is_wanted : wanted ≡ slice_get (thread_headers s.plan.base (placed_of s)) 0
  pub wrong : ¬ (thread_blocks s.image ≡ thread_headers s.plan.base (placed_of s))

-- the GOT, which is at an address, or a piece has an address from one on and below another; or a piece of thread-local
-- zeros begins before that
abbrev pub IsInner : Subject → ℕ → ℕ → Option code.Placed → ℕ → Type 0
IsInner s start end None at = (at ≡ got_start s.map.got) × (¬ All (IsClearOf start end) (got_things s.map.got))
IsInner s start end (Some q) at =
    Contains (placed_of s) (placed_view q)
    × ((at ≡ q.at) × (¬ (BeginsAfter end (placed_view q) × IsPlaceClear start end (placed_view q))))

-- it is so of where a block begins and of where the thread-local pieces with bytes end
pub record IsInBlock (s : Subject) (piece : Option code.Placed) (at start end : ℕ) : Type 0 where
  pub header : ProgramHeader
  pub there : slice_get (thread_blocks s.image) 0 ≡ Some header
  pub is_start : start ≡ header.p_vaddr
  pub is_end : end ≡ thread_data_end s
  pub inner : IsInner s start end piece at

-- C9. What is wrong with a relocation, by its kind, by what its symbol means, and by the section that it relocates
abbrev pub IsWrongWith : Option Kind → Target → Relocated → Rela → RelocationFault → Type 0
IsWrongWith kind t to e fault.Undefined = t.undefined ≡ true
IsWrongWith kind t to e fault.RefToDropped = refers_to_dropped t to ≡ true
IsWrongWith kind t to e fault.RelocKind = kind ≡ None
IsWrongWith kind t to e fault.FieldOutside = ¬ IfSome kind (λ k. e.r_offset + k.width ≤ to.size)
IsWrongWith kind t to e fault.TlsMismatch = IsSomeAnd kind (λ k. IsMismatch k.formula t.thread_local)
IsWrongWith kind t to e fault.MixedSection = t.mixed ≡ true

-- why a relocation isn't lawful
abbrev pub IsUnlawful : List LoadedObject → Relocation → RelocationFault → Type 0
IsUnlawful objects r fault.Undefined = IsUndefined objects r.symbol
IsUnlawful objects r fault.RefToDropped = RefersToDropped objects r
IsUnlawful objects r fault.RelocKind = relocation_kind r ≡ None
IsUnlawful objects r fault.FieldOutside = ¬ IsFieldInside r
IsUnlawful objects r fault.TlsMismatch = IsThreadMismatch objects r
IsUnlawful objects r fault.MixedSection = RefersToMixed objects r

pub record IsWrongRelocation (objects : List LoadedObject) (p : RelocationPlace) (f : RelocationFault) : Type 0 where
  pub r : Relocation
  pub at : IsRelocationAt objects p r
  pub wrong : IsUnlawful objects r f

-- a kept relocation has a value that doesn't fit its field, which is at the address
pub record IsUnfit (objects : List LoadedObject) (w : Where) (p : RelocationPlace) (value : ℕ) (address : ℕ) : Type 0 where
  pub r : Relocation
  pub at : IsRelocationAt objects p r
  pub is_value : value ≡ value_of objects w r
  pub is_address : address ≡ (section_address w.placed r.object r.section + r.entry.r_offset) % 2 ^ 64
  pub wrong : ¬ Fits objects w r

-- the width of an entry's field; 0 for a type that is no kind
abbrev pub width_of_entry : Rela → ℕ
width_of_entry e = unwrap_or (option_map (λ k. k.width) (kind_of (rela_type e))) 0

-- byte k of a section lies in a relocation's field
pub record IsFieldOver (objects : List LoadedObject) (object section k : ℕ) (p : RelocationPlace) : Type 0 where
  pub r : Relocation
  pub at : IsRelocationAt objects p r
  pub over : is_in_field object section k r ≡ true

-- C10. Byte k of the piece that has a number is wanted to be this, and lies in a relocation's field if one is told.
pub record IsOfPiece (s : Subject) (n : ℕ) (q : code.Placed) (relocation : Option RelocationPlace) (k : ℕ) (wanted : Option ℕ) : Type 0 where
  pub piece : slice_get (placed_of s) n ≡ Some (placed_view q)
  pub below : k < load_size (placed_view q).piece
  pub wanted_is : wanted ≡ Some (wanted_byte (objects_of s) (where_of s) (placed_view q).piece k)
  pub field : IfSome relocation (IsFieldOver (objects_of s) q.piece.object q.piece.section k)

-- C11. An address outside of all things, in memory that has rights, is wanted to have this fill.
pub record IsOfFill (s : Subject) (rights a : ℕ) (wanted : Option ℕ) : Type 0 where
  pub rights_are : option_map (λ c. c.rights) (memory_of s.image a) ≡ Some rights
  pub outside : All (λ t. ¬ Covers t a) (things_of s)
  pub wanted_is : wanted ≡ Some (fill_of rights)

-- C14. What follows the last file part, and what should.
abbrev pub tail_of : Subject → List ℕ
tail_of s = drop (parts_end s) s.image

abbrev pub wanted_tail : Subject → List ℕ
wanted_tail s = tables (where_of s) (parts_end s) (tabled_of s)

-- byte i is in an entry of the table that bytes have from a place on, not in the first one, and the entry has this name, one
-- of those that the bytes have from another place on
pub record IsInEntry (bytes : List ℕ) (entries names i : ℕ) (e : TableEntry) : Type 0 where
  pub some : 0 < e.number
  pub first : entries + 24 * e.number ≤ i
  pub last : i < entries + 24 * e.number + 24
  pub named : e.name.now ≡ text bytes (names + le_at 4 bytes (entries + 24 * e.number))

pub record IsOfTail (s : Subject) (end : ℕ) (entry : Option TableEntry) (i : ℕ) (wanted : Option ℕ) : Type 0 where
  pub told : IsSome s.map.symtab
  pub is_end : end ≡ parts_end s
  pub is_wanted : wanted ≡ slice_get (wanted_tail s) i
  pub in_entry : IfSome entry (IsInEntry (wanted_tail s) (symtab_at (parts_end s) - parts_end s) (strtab_at (parts_end s) (tabled_of s) - parts_end s) i)

-- what a byte is wanted to be, also byte k of the GOT, and the byte at an offset of the file below the end of the last file part
-- and in none
abbrev pub IsWanted : Subject → ByteOf → ℕ → Option ℕ → Type 0
IsWanted s (of.Got got) k wanted =
    (s.map.got ≡ Some got) × ((k < got.size) × (wanted ≡ Some (slice_index (got_bytes (objects_of s) (where_of s)) k)))
IsWanted s (of.Piece n q relocation) k wanted = IsOfPiece s n q relocation k wanted
IsWanted s (of.Fill rights) a wanted = IsOfFill s rights a wanted
IsWanted s of.Gap i wanted = (i < parts_end s) × (All (λ h. ¬ IsInFilePart h i) (loads s.image) × (wanted ≡ Some 0))
IsWanted s (of.Tail end entry) i wanted = IsOfTail s end entry i wanted

-- the byte that is there
abbrev pub byte_there : Subject → ByteOf → ℕ → Option ℕ
byte_there s (of.Got got) k = byte_at s.image (got.address + k)
byte_there s (of.Piece n q relocation) k = byte_at s.image (q.at + k)
byte_there s (of.Fill rights) a = byte_at s.image a
byte_there s of.Gap i = Some (slice_index s.image i)
byte_there s (of.Tail end entry) i = slice_get (tail_of s) i

-- it is another one than the wanted one, or only one of both is there
pub record IsWrongByte (s : Subject) (b : ByteOf) (p : BytePlace) : Type 0 where
  pub there : p.there ≡ byte_there s b p.offset
  pub wanted : IsWanted s b p.offset p.wanted
  pub wrong : ¬ (p.there ≡ p.wanted)

-- C11. A thing is a nonempty one of a segment, and has bytes in the file, where this is asked for.
abbrev pub IsAmong : Bool → ProgramHeader → Thing → Type 0
IsAmong in_file h t = IsOfSegment h t × IsTrue (not in_file || t.in_file)

-- the memory of the segment that has a number, or its file part, doesn't end at an address, at which the last of these things
-- does, or at which the segment begins if it has none
pub record IsWrongEnd (s : Subject) (k : ℕ) (h : ProgramHeader) (in_file : Bool) (end : ℕ) : Type 0 where
  pub there : slice_get (loads s.image) k ≡ Some h
  pub last : (end ≡ h.p_vaddr) ⊎ Any (λ t. IsAmong in_file h t × (t.at + t.size ≡ end)) (things_of s)
  pub none_later : All (λ t. IsAmong in_file h t → t.at + t.size ≤ end) (things_of s)
  pub differs : ¬ (h.p_vaddr + cond in_file h.p_filesz h.p_memsz ≡ end)
  pub wrong : ¬ EndsRight (things_of s) h

-- what is so at a place: it denies the clause that fails there
abbrev pub FailsIn : Subject → CheckPlace → Type 0
FailsIn s (place.Line k wanted) = IsWrongLine s k wanted
FailsIn s (place.Unaligned p) = IsUnaligned s p
FailsIn s (place.Outside p) = IsPart s p × (¬ IsWithin s.plan.base p.thing)
FailsIn s (place.Shared p q) = IsShared s p q
FailsIn s (place.Far p q) = AreFar (ordered_sections s) p q
FailsIn s (place.Unheld p segment) = IsUnheld s p segment
FailsIn s (place.First address) = (address ≡ first_address (loads s.image)) × (address ≢ s.plan.base)
FailsIn s (place.Got there) = (there ≡ is_some s.map.got) × (has_got (objects_of s) ≡ not there)
FailsIn s (place.SlotLine k first q) = IsWrongSlot s k first q
FailsIn s (place.NoSlot p q) = IsUnserved s p q
FailsIn s (place.Number name there wanted) = IsWrongNumber s name there wanted
FailsIn s (place.Byte b p) = IsWrongByte s b p
FailsIn s (place.ThreadHeader there wanted) = IsWrongThreadHeader s there wanted
FailsIn s (place.InThreadBlock name at start end) = IsInBlock s name at start end
FailsIn s (place.ThreadBytes h) = (slice_get (thread_blocks s.image) 0 ≡ Some h) × (¬ HoldsInitial (loads s.image) h)
FailsIn s (place.Relocation p f) = IsWrongRelocation (objects_of s) p f
FailsIn s (place.Overlap p q) = IsOverlap (objects_of s) p q × (¬ AreRelocationsRight s)
FailsIn s (place.Value p value address) = IsUnfit (objects_of s) (where_of s) p value address
FailsIn s (place.SegmentEnd k h in_file end) = IsWrongEnd s k h in_file end
FailsIn s (place.Entry e_entry value) = IsWrongEntry s e_entry value
FailsIn s (place.Symtab there) = (s.map.version ≡ 2) × ((there ≡ is_some s.map.symtab) × (there ≢ not s.plan.strip))
FailsIn s (place.Whole c) = ¬ Holds c s

-- the clause that fails at a place
abbrev pub clause_of : CheckPlace → Clause
clause_of (place.Line (key.Object k) wanted) = C2
clause_of (place.Line (key.Drop k) wanted) = C3
clause_of (place.Line (key.Place k) wanted) = C3
clause_of (place.Line (key.Common name) wanted) = C3
clause_of (place.Line (key.Symbol name) wanted) = C13
clause_of (place.Unaligned p) = C5
clause_of (place.Outside p) = C5
clause_of (place.Shared p q) = C5
clause_of (place.Far p q) = C5
clause_of (place.Unheld p segment) = C6
clause_of (place.First address) = C6
clause_of (place.Got there) = C7
clause_of (place.SlotLine k first q) = C7
clause_of (place.NoSlot p q) = C7
clause_of (place.Number number.GotSize there wanted) = C7
clause_of (place.Number (number.SlotAddress k) there wanted) = C7
clause_of (place.Number number.Length there wanted) = C11
clause_of (place.Number name there wanted) = C14
clause_of (place.Byte (of.Got got) p) = C7
clause_of (place.Byte (of.Piece k q relocation) p) = C10
clause_of (place.Byte (of.Fill rights) p) = C11
clause_of (place.Byte of.Gap p) = C11
clause_of (place.Byte (of.Tail end entry) p) = C14
clause_of (place.ThreadHeader there wanted) = C8
clause_of (place.InThreadBlock name at start end) = C8
clause_of (place.ThreadBytes h) = C8
clause_of (place.Relocation p f) = C9
clause_of (place.Overlap p q) = C9
clause_of (place.Value p value address) = C9
clause_of (place.SegmentEnd k h in_file end) = C11
clause_of (place.Entry e_entry value) = C12
clause_of (place.Symtab there) = C14
clause_of (place.Whole c) = c

abbrev pub AreFailures : Subject → List CheckPlace → Type 0
AreFailures s places = All (FailsIn s) places

-- what a place says is so of a link, and the clause that it denies is this one
pub record IsOf (s : Subject) (c : Clause) (p : CheckPlace) : Type 0 where
  pub fails : FailsIn s p
  pub clause : clause_of p ≡ c

-- a clause is the first that fails of a link
pub record IsFirst (s : Subject) (c : Clause) : Type 0 where
  pub before : HoldsBefore c s
  pub fails : ¬ Holds c s

-- the words are a plan and the text is a map, and in their link a clause fails at the place
pub record FailsAt (files : List File) (words : List (List ℕ)) (image bytes : List ℕ) (p : CheckPlace) : Type 0 where
  pub plan : Plan
  pub map : MapRecord
  pub read : IsRead words bytes (record { plan = plan; files = files; image = image; map = map })
  pub fails : FailsIn (record { plan = plan; files = files; image = image; map = map }) p
