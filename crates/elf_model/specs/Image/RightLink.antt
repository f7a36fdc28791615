-- What a right link is: fourteen clauses on the files, the words, the image and the map (System V gABI 4 and
-- 5; ELF Handling For Thread-Local Storage; what fills gaps is the profile's). None of them says how a linker
-- lays anything out.
use Rattle.std.specs.Prelude.{◌≡◌, ℕ, ◌+◌, ◌^◌, ◌<◌, ◌≤◌, ◌==◌, true, not, cond, List, [], ◌∷◌, Option, None, Some, Ok, All, Any, drop, filter, find, length, map, option_map, slice_index, count_by, is_some, IfSome, IsSomeAnd, Bool, ◌&&◌, ◌++◌}
use Rattle.std.specs.List.{list_any}
use Rattle.std.specs.Str.{bytes_eq}
use Rattle.elf_model.specs.Inputs.Command.{Plan, command_of}
use Rattle.elf_model.specs.Link.ArrayOrder.{placed_in_array_order}
use Rattle.elf_model.specs.Inputs.Files.{File}
use Rattle.elf_model.specs.Link.Listing.{listed}
use Rattle.elf_model.specs.Link.Loading.{LoadedObject, is_dropped, loaded_objects, AreObjects, HaveLawfulGroups}
use Rattle.elf_model.specs.Link.Commons.{Block, block_named, blocks}
use Rattle.elf_model.specs.Image.MapRecord.{CommonRow, MapRecord, ObjectRow, PlaceRow, SlotRow, SymbolRow}
use Rattle.elf_model.specs.Image.MapText.{text, IsMap}
use Rattle.elf_model.specs.Link.Meaning.{Meaning, Symbol, meaning_name, meaning_value, object_meaning}
use Rattle.elf_model.specs.Image.MemoryImage.{HasNoSections, IsImage, Cell, file_end, memory_of, loads, thread_blocks, Encloses}
use Rattle.elf_model.specs.Inputs.Opening.{AreArchives, AreFilesThere, HaveIndexes, opened}
use Rattle.elf_model.specs.Inputs.ObjectFile.{sections}
use Rattle.elf_model.specs.Link.LinkerValues.{end_of_pieces}
use Rattle.elf_model.specs.Link.Pieces.{Piece, is_alloc, is_thread_zero, kept_sections, load_size, AreLawfulKinds}
use Rattle.elf_model.specs.Link.Placement.{Placed, Where, is_common_row_of, placed_blocks, placed_by, things, thing_of, thread_ranges, is_thread_place, got_things, Covers, IsPlaced, HasRights}
use Rattle.elf_model.specs.Inputs.Records.{file_header}
use Rattle.elf_model.specs.Link.Relocation.{AreLawfulRelocations}
use Rattle.elf_model.specs.Link.RelocationValues.{AllFit}
use Rattle.elf_model.specs.Link.Resolution.{is_weak, AreSoundCommons, AreUnique, AreSoundSymbols, IsEntry}
use Rattle.elf_model.specs.Link.Slots.{Request, got_bytes, has_got, is_slot_of, requests, same_request, size_with}
use Rattle.elf_model.specs.Image.SymbolTable.{entry_count, headers_at, name_section, symtab_at, tabled, tables}
use Rattle.elf_model.specs.Link.ThreadStorage.{is_thread_data, thread_headers}
use Rattle.elf_model.specs.Link.WantedBytes.{wanted_byte}
use Rattle.elf_model.specs.declared.link_map.Definition.{Definition}
use Rattle.elf_model.specs.declared.link_map.DropLine.{DropLine}
use Rattle.elf_model.specs.declared.link_map.GotLine.{GotLine}
use Rattle.elf_model.specs.declared.link_map.SymtabLine.{SymtabLine}
use Rattle.elf_model.specs.declared.link_map.Definition.TheVariants.{Common, Linker, Strong, Weak}
use Rattle.elf_model.specs.declared.records.ProgramHeader.{ProgramHeader}
use Rattle.elf_model.specs.declared.records.SectionHeader.{SectionHeader}
use Rattle.elf_model.specs.declared.thing.Thing.{Thing}
use Rattle.elf_model.specs.declared.verdict.Clause.{Clause}
use Rattle.elf_model.specs.declared.verdict.Clause.TheVariants.{C1, C2, C3, C4, C5, C6, C7, C8, C9, C10, C11, C12, C13, C14}

-- what the clauses speak of, once the words are a plan and the text is a map
pub record Subject : Type 0 where
  pub plan : Plan
  pub files : List File
  pub image : List ℕ
  pub map : MapRecord

abbrev pub objects_of : Subject → List LoadedObject
objects_of s = loaded_objects s.files s.plan

abbrev pub sections_of : Subject → List Placed
sections_of s = placed_by s.map.places (kept_sections (objects_of s))

abbrev pub placed_of : Subject → List Placed
placed_of s = sections_of s ++ placed_blocks s.map.commons (blocks (objects_of s))

abbrev pub where_of : Subject → Where
where_of s = record { base = s.plan.base; placed = placed_of s; got = s.map.got; slots = s.map.slots }

abbrev pub things_of : Subject → List Thing
things_of s = things s.image s.map (placed_of s)

-- C1. The words are the plan, and the text is the map's.
pub record IsRead (words : List (List ℕ)) (bytes : List ℕ) (s : Subject) : Type 0 where
  pub plan : command_of words ≡ Ok s.plan
  pub map : IsMap s.map
  pub spelled : bytes ≡ text s.map

-- C2. The files are there, the archives can be searched, what is loaded are objects with lawful groups, and the map's
-- objects are those loaded, in order.
abbrev pub object_rows : ℕ → List LoadedObject → List ObjectRow
object_rows k [] = []
object_rows k (o ∷ os) = record { object = k; item = o.item; offset = o.offset; path = o.path } ∷ object_rows (k + 1) os

pub record IsLoaded (s : Subject) : Type 0 where
  pub files : AreFilesThere s.files s.plan
  pub archives : AreArchives (opened s.files s.plan)
  pub indexes : HaveIndexes (opened s.files s.plan)
  pub objects : AreObjects (objects_of s)
  pub groups : HaveLawfulGroups (objects_of s)
  pub rows : s.map.objects ≡ object_rows 0 (objects_of s)

-- C3. Kept sections have lawful kinds, common symbols are sound, and the drop, place and common lines are exactly the
-- dropped sections with SHF_ALLOC, the kept ones and the common blocks, but for addresses; the common ones name by name.
abbrev pub is_dropped_line : LoadedObject → ℕ → SectionHeader → Bool
is_dropped_line o i h = is_alloc h && is_dropped o i

-- the lines of one object, the number k, from section number i on
abbrev pub drops_from : ℕ → LoadedObject → ℕ → List SectionHeader → List DropLine
drops_from k o i [] = []
drops_from k o i (h ∷ hs) =
    cond (is_dropped_line o i h) (record { object = k; section = i } ∷ drops_from k o (i + 1) hs) (drops_from k o (i + 1) hs)

abbrev pub drop_rows : ℕ → List LoadedObject → List DropLine
drop_rows k [] = []
drop_rows k (o ∷ os) = drops_from k o 0 (sections o.bytes) ++ drop_rows (k + 1) os

pub record SectionFacts : Type 0 where
  pub object : ℕ
  pub section : ℕ
  pub size : ℕ
  pub name : List ℕ

abbrev pub facts_of_row : PlaceRow → SectionFacts
facts_of_row row = record { object = row.object; section = row.section; size = row.size; name = row.name }

abbrev pub facts_of_piece : Piece → SectionFacts
facts_of_piece p = record { object = p.object; section = p.section; size = p.size; name = p.name }

-- what a common line says but for its address
pub record CommonFacts : Type 0 where
  pub name : List ℕ
  pub size : ℕ
  pub align : ℕ

abbrev pub facts_of_common : CommonRow → CommonFacts
facts_of_common row = record { name = row.name; size = row.size; align = row.align }

abbrev pub facts_of_block : Block → CommonFacts
facts_of_block b = record { name = b.name; size = b.size; align = b.align }

abbrev pub HasCommonLine : List CommonRow → List LoadedObject → List ℕ → Type 0
HasCommonLine rows objects name =
    option_map facts_of_common (find (is_common_row_of name) rows) ≡ option_map facts_of_block (block_named objects name)

pub record AreSectionsListed (s : Subject) : Type 0 where
  pub kinds : AreLawfulKinds (objects_of s)
  pub sound : AreSoundCommons (objects_of s)
  pub drops : s.map.drops ≡ drop_rows 0 (objects_of s)
  pub places : map facts_of_row s.map.places ≡ map facts_of_piece (kept_sections (objects_of s))
  pub commons : (name : List ℕ) → HasCommonLine s.map.commons (objects_of s) name

-- C4. The image is one that a loader maps (`IsImage`).
-- C5. Pieces, GOT and headers are aligned, within the addresses, and apart; so are the thread-local pieces among
-- themselves; and the pieces of an output section are near one another, in their order (`IsPlaced`).
-- C6. Each thing lies in a segment that has exactly its rights (`HasRights`).

-- C7. The GOT stands exactly where a relocation asks for one. It has a slot for each request of a relocation, one for
-- all that are the same, and no other; the slots fill it behind its first word, and memory holds word and slots.
abbrev pub byte_at : List ℕ → ℕ → Option ℕ
byte_at image a = option_map (λ c. c.byte) (memory_of image a)

abbrev pub HasSlot : List SlotRow → List LoadedObject → Request → Type 0
HasSlot rows objects q = count_by (is_slot_of q) rows ≡ cond (list_any (same_request q) (requests objects)) 1 0

-- slots stand one behind the other, from an address on
abbrev pub StandFrom : ℕ → List SlotRow → Type 0
StandFrom a [] = Unit {0}
StandFrom a (row ∷ rows) = (row.address ≡ a) × StandFrom (a + 8) rows

pub record HoldsGot (objects : List LoadedObject) (w : Where) (image : List ℕ) (got : GotLine) : Type 0 where
  pub size : got.size ≡ size_with (length w.slots)
  pub places : StandFrom (got.address + 8) w.slots
  pub bytes : (k : ℕ) → k < got.size → byte_at image (got.address + k) ≡ Some (slice_index (got_bytes objects w) k)

pub record IsGotRight (s : Subject) : Type 0 where
  pub present : is_some s.map.got ≡ has_got (objects_of s)
  pub slots : (q : Request) → HasSlot s.map.slots (objects_of s) q
  pub held : IfSome s.map.got (HoldsGot (objects_of s) (where_of s) s.image)

-- C8. PT_TLS stands exactly where thread-local pieces do, and says where these are. Those with bytes end before those
-- without begin; nothing else stands between the block's beginning and the end of those with bytes; and one PT_LOAD
-- holds the initial bytes.
abbrev pub other_things : Subject → List Thing
other_things s = got_things s.map.got ++ map thing_of (filter (λ q. not (is_thread_place q)) (placed_of s))

abbrev pub thread_data_end : Subject → ℕ
thread_data_end s = end_of_pieces is_thread_data (placed_of s)

-- a thing has no address from one address on and below another
abbrev pub IsClearOf : ℕ → ℕ → Thing → Type 0
IsClearOf start end t = (a : ℕ) → start ≤ a → a < end → Covers t a → ⊥

abbrev pub HoldsInitial : List ProgramHeader → ProgramHeader → Type 0
HoldsInitial segments h = 0 < h.p_filesz → Any (λ g. Encloses g h.p_vaddr h.p_filesz) segments

pub record IsThreadBlockRight (s : Subject) : Type 0 where
  pub headers : thread_blocks s.image ≡ thread_headers s.plan.base (placed_of s)
  pub before : All (λ q. is_thread_zero q.piece ≡ true → thread_data_end s ≤ q.at) (placed_of s)
  pub clear : All (λ h. All (IsClearOf h.p_vaddr (thread_data_end s)) (other_things s)) (thread_blocks s.image)
  pub held : All (HoldsInitial (loads s.image)) (thread_blocks s.image)

-- C9. Each kept relocation is lawful, and its value fits its field.
pub record AreRelocationsRight (s : Subject) : Type 0 where
  pub lawful : AreLawfulRelocations (objects_of s)
  pub fits : AllFit (objects_of s) (where_of s)

-- C10. Memory holds each piece that takes up some: at each of its addresses the byte that is wanted there.
pub record HoldsPiece (objects : List LoadedObject) (w : Where) (image : List ℕ) (q : Placed) : Type 0 where
  pub bytes : (k : ℕ) → k < load_size q.piece → byte_at image (q.at + k) ≡ Some (wanted_byte objects w q.piece k)

-- C11. Each mapped byte outside all things is fill: 0x90 where it may be executed, else 0.
abbrev pub fill_of : ℕ → ℕ
fill_of rights = cond (rights == 5) 0x90 0

abbrev pub IsFilled : List ℕ → List Thing → Type 0
IsFilled image ts =
    (a : ℕ) (c : Cell) → memory_of image a ≡ Some c → All (λ t. ¬ Covers t a) ts → c.byte ≡ fill_of c.rights

-- a nonempty thing of the segment
pub record IsOfSegment (h : ProgramHeader) (t : Thing) : Type 0 where
  pub some_bytes : 0 < t.size
  pub inside : Encloses h t.at t.size

-- a PT_LOAD's memory ends with a nonempty thing, and its file part with the last of those that have bytes in
-- the file; without any it is empty
pub record EndsRight (ts : List Thing) (h : ProgramHeader) : Type 0 where
  pub memory : Any (λ t. IsOfSegment h t × (t.at + t.size ≡ h.p_vaddr + h.p_memsz)) ts
  pub file_holds : All (λ t. IsOfSegment h t → t.in_file ≡ true → t.at + t.size ≤ h.p_vaddr + h.p_filesz) ts
  pub file_ends :
      0 < h.p_filesz
      → Any (λ t. IsOfSegment h t × (t.in_file ≡ true) × (t.at + t.size ≡ h.p_vaddr + h.p_filesz)) ts

-- a file offset lies in the file part of a segment
abbrev pub IsInFilePart : ProgramHeader → ℕ → Type 0
IsInFilePart h i = (h.p_offset ≤ i) × (i < h.p_offset + h.p_filesz)

-- a map without a line of a symbol table tells that the file ends with the last file part
pub record HasNothingElse (image : List ℕ) (symtab : Option SymtabLine) (ts : List Thing) : Type 0 where
  pub fill : IsFilled image ts
  pub segments : All (EndsRight ts) (loads image)
  pub gaps : (i : ℕ) → i < file_end (loads image) → All (λ h. ¬ IsInFilePart h i) (loads image) → slice_index image i ≡ 0
  pub end : symtab ≡ None → length image ≡ file_end (loads image)

-- C12. The entry is lawful, and e_entry is its value.
abbrev pub EntersRight : Subject → Type 0
EntersRight s =
    IsEntry (objects_of s) s.plan.entry
    × IsSomeAnd (object_meaning (objects_of s) s.plan.entry) (λ d. (file_header s.image).e_entry ≡ meaning_value (where_of s) d)

-- C13. Symbols are sound, no name has two strong definitions, and the symbol lines are exactly the definitions of the
-- names that objects define, and of the linker's names that kept relocations use, with their values: each name has
-- the line that its definition asks for, or none.
abbrev pub definition_row : Meaning → Definition
definition_row (Symbol d) = cond (is_weak d.entry) (Weak d.object d.number) (Strong d.object d.number)
definition_row (Meaning.Common b) = Common
definition_row (Meaning.Linker name bound) = Linker

abbrev pub symbol_row_of : Where → Meaning → SymbolRow
symbol_row_of w d = record { address = meaning_value w d; definition = definition_row d; name = meaning_name d }

abbrev pub HasLine : List SymbolRow → List LoadedObject → Where → List ℕ → Type 0
HasLine rows objects w name = find (λ row. bytes_eq row.name name) rows ≡ option_map (symbol_row_of w) (listed objects name)

pub record AreSymbolsListed (s : Subject) : Type 0 where
  pub sound : AreSoundSymbols (objects_of s)
  pub unique : AreUnique (objects_of s)
  pub lines : (name : List ℕ) → HasLine s.map.symbols (objects_of s) (where_of s) name

-- C14. In version 2 a map has the line of a symbol table exactly where -s doesn't stand among the words. Where the line stands, it
-- says where the table is, and the file header and the bytes behind the last file part are those of the table and its
-- sections; without it the image has no sections.
abbrev pub tabled_of : Subject → List Meaning
tabled_of s = tabled (objects_of s) s.map.symbols

pub record HoldsTables (s : Subject) (line : SymtabLine) : Type 0 where
  pub offset : line.offset ≡ symtab_at (file_end (loads s.image))
  pub count : line.count ≡ entry_count (tabled_of s)
  pub names_fit : length (name_section (tabled_of s)) < 2 ^ 32
  pub bytes : drop (file_end (loads s.image)) s.image ≡ tables (where_of s) (file_end (loads s.image)) (tabled_of s)
  pub headers_offset : (file_header s.image).e_shoff ≡ headers_at (file_end (loads s.image)) (tabled_of s)
  pub headers_count : (file_header s.image).e_shnum ≡ 4
  pub names_section : (file_header s.image).e_shstrndx ≡ 3

pub record AreTablesRight (s : Subject) : Type 0 where
  pub asked : s.map.version ≡ 2 → is_some s.map.symtab ≡ not s.plan.strip
  pub held : IfSome s.map.symtab (HoldsTables s)
  pub none : s.map.symtab ≡ None → HasNoSections (file_header s.image)

-- The clauses by number. The first is what makes a subject of words and text, so it holds of each.
abbrev pub Holds : Clause → Subject → Type 0
Holds C1 s = Unit {0}
Holds C2 s = IsLoaded s
Holds C3 s = AreSectionsListed s
Holds C4 s = IsImage s.image
Holds C5 s = IsPlaced s.plan.base (things_of s) (thread_ranges (placed_of s)) (placed_in_array_order (sections_of s))
Holds C6 s = HasRights s.plan.base (loads s.image) (things_of s) (got_things s.map.got)
Holds C7 s = IsGotRight s
Holds C8 s = IsThreadBlockRight s
Holds C9 s = AreRelocationsRight s
Holds C10 s = All (HoldsPiece (objects_of s) (where_of s) s.image) (placed_of s)
Holds C11 s = HasNothingElse s.image s.map.symtab (things_of s)
Holds C12 s = EntersRight s
Holds C13 s = AreSymbolsListed s
Holds C14 s = AreTablesRight s

-- the place of a clause in their order
abbrev pub clause_number : Clause → ℕ
clause_number C1 = 1
clause_number C2 = 2
clause_number C3 = 3
clause_number C4 = 4
clause_number C5 = 5
clause_number C6 = 6
clause_number C7 = 7
clause_number C8 = 8
clause_number C9 = 9
clause_number C10 = 10
clause_number C11 = 11
clause_number C12 = 12
clause_number C13 = 13
clause_number C14 = 14

-- all clauses with a smaller number hold
abbrev pub HoldsBefore : Clause → Subject → Type 0
HoldsBefore c s = (d : Clause) → clause_number d < clause_number c → Holds d s

-- A right link: the words are a plan and the text a map, and all clauses hold.
pub record IsRightLink (files : List File) (words : List (List ℕ)) (image bytes : List ℕ) : Type 0 where
  pub plan : Plan
  pub map : MapRecord
  pub read : IsRead words bytes (record { plan = plan; files = files; image = image; map = map })
  pub holds : (c : Clause) → Holds c (record { plan = plan; files = files; image = image; map = map })

-- The least clause that fails, from the second on: those before it hold, it does not. The first fails where
-- words and text make no subject (`IsUnread`).
pub record FailsAt (clause : Clause) (files : List File) (words : List (List ℕ)) (image bytes : List ℕ) : Type 0 where
  pub plan : Plan
  pub map : MapRecord
  pub read : IsRead words bytes (record { plan = plan; files = files; image = image; map = map })
  pub before : HoldsBefore clause (record { plan = plan; files = files; image = image; map = map })
  pub fails : ¬ Holds clause (record { plan = plan; files = files; image = image; map = map })

abbrev pub IsUnread : List (List ℕ) → List ℕ → Type 0
IsUnread words bytes = (s : Subject) → IsRead words bytes s → ⊥

abbrev pub Least : Clause → List File → List (List ℕ) → List ℕ → List ℕ → Type 0
Least C1 files words image bytes = IsUnread words bytes
Least clause files words image bytes = FailsAt clause files words image bytes
