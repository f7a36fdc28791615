-- F5 and F7. The fields of relocations, and all other bytes of sections (AMD64 psABI 4.4, "Relocation Types"; ELF Handling
-- For Thread-Local Storage). Slots of the GOT may be anywhere: a field tells where its own is. Code that takes an address from a
-- slot may be rewritten so that it has the address itself: the place of such a relocation is its field with what the instruction
-- has in front of it.
use Rattle.std.specs.Prelude.{◌≡◌, ◌⊎◌, ℕ, ℤ, pos, ◌+ℤ◌, ◌-ℤ◌, ◌+◌, ◌-◌, ◌*◌, ◌%◌, ◌^◌, ◌<◌, ◌≤◌, ◌==◌, Bool, true, false, List, [], ◌∷◌, Option, None, Some, IsSomeAnd, All, Any, Contains, find, is_some, length, option_map, slice_index, unwrap_or}
use Rattle.std.specs.List.{slice_get}
use Rattle.std.specs.Option.{option_and_then, option_map_or}
use Rattle.byteview.specs.Numbers.{le_bytes}
use Rattle.elf_model.specs.Image.MemoryImage.{loads}
use Rattle.elf_model.specs.Image.RightLink.{byte_at}
use Rattle.elf_model.specs.Inputs.ObjectFile.{rela_type, section, section_bytes, sections, symbols}
use Rattle.elf_model.specs.Link.Loading.{LoadedObject}
use Rattle.elf_model.specs.Link.Meaning.{is_in_thread_storage, meaning_size}
use Rattle.elf_model.specs.Link.Pieces.{is_executable, load_size}
use Rattle.elf_model.specs.Link.Placement.{AreApart, Covers, Placed}
use Rattle.elf_model.specs.Link.Relocation.{Always, Formula, G+A, G+GOT+A-P, GOT+A-P, GT+GOT+A-P, IsInRange, IsMismatch, Kind, Relocation, S+A, S+A-GOT, S+A-P, T+A, Z+A, kind, kinds, modulo_64}
use Rattle.elf_model.specs.Link.Slots.{slot_kind_of}
use Rattle.elf_model.specs.declared.link_map.SlotKind.{SlotKind}
use Rattle.elf_model.specs.declared.link_map.SlotKind.TheVariants as slot
use Rattle.elf_model.specs.declared.records.ProgramHeader.{ProgramHeader}
use Rattle.elf_model.specs.declared.records.Rela.{Rela}
use Rattle.elf_model.specs.declared.records.Symbol.{Symbol}
use Rattle.elf_model.specs.declared.thing.Thing.{Thing}
use Rattle.judge_model.specs.Links.{ForeignLink, objects_of, relocations_of, sections_of}
use Rattle.judge_model.specs.Means.{address_of, definition_of, is_in_list, meant}
use Rattle.judge_model.specs.Memory.{Holds}
use Rattle.judge_model.specs.Placed.{things_of}
use Rattle.judge_model.specs.Rewrites.{Instruction, front_bytes, front_of, instruction_in, rewrite_of, rewritings}
use Rattle.judge_model.specs.declared.rewriting.Rewriting.{Rewriting}
use Rattle.judge_model.specs.Runs.{IsBetween}
use Rattle.judge_model.specs.ThreadBlocks.{thread_offset}

-- The kinds: the profile's, and R_X86_64_PLTOFF64, which needs no procedure linkage table here.
abbrev pub r_pltoff64 : ℕ
r_pltoff64 = 31

abbrev pub foreign_kinds : List Kind
foreign_kinds = kind r_pltoff64 8 S+A-GOT Always ∷ kinds

abbrev pub kind_of : Relocation → Option Kind
kind_of r = find (λ k. k.number == rela_type r.entry) foreign_kinds

abbrev pub width_of : Relocation → ℕ
width_of r = unwrap_or (option_map (λ k. k.width) (kind_of r)) 0

-- where the place of a relocation begins in its section, and how many bytes it has
abbrev pub place_start : Relocation → ℕ
place_start r = r.entry.r_offset - front_of r.entry

abbrev pub place_width : Relocation → ℕ
place_width r = front_of r.entry + width_of r

-- byte k of a section of an object lies in the place; a field lies inside its section; no byte lies in two places
abbrev pub IsInPlace : Relocation → ℕ → Type 0
IsInPlace r k = (place_start r ≤ k) × (k < place_start r + place_width r)

abbrev pub IsInside : Relocation → Type 0
IsInside r = r.entry.r_offset + width_of r ≤ r.size

abbrev pub AreFieldsApart : Relocation → Relocation → Type 0
AreFieldsApart r t = r.object ≡ t.object → r.section ≡ t.section → (k : ℕ) → IsInPlace r k → IsInPlace t k → ⊥

-- what the letters of the formulas stand for: S, A, P, the address of the slot, GOT, Z and T
pub record Letters : Type 0 where
  pub s : ℕ
  pub a : ℤ
  pub p : ℕ
  pub slot : ℕ
  pub got : ℕ
  pub z : ℕ
  pub t : ℤ

abbrev pub whole_value : Formula → Letters → ℤ
whole_value S+A x = pos x.s +ℤ x.a
whole_value S+A-P x = (pos x.s +ℤ x.a) -ℤ pos x.p
whole_value S+A-GOT x = (pos x.s +ℤ x.a) -ℤ pos x.got
whole_value G+A x = (pos x.slot +ℤ x.a) -ℤ pos x.got
whole_value G+GOT+A-P x = (pos x.slot +ℤ x.a) -ℤ pos x.p
whole_value GOT+A-P x = (pos x.got +ℤ x.a) -ℤ pos x.p
whole_value Z+A x = pos x.z +ℤ x.a
whole_value T+A x = x.t +ℤ x.a
whole_value GT+GOT+A-P x = (pos x.slot +ℤ x.a) -ℤ pos x.p

-- the GOT's address; 0 where the certificate gives none
abbrev pub got_of : ForeignLink → ℕ
got_of l = unwrap_or l.certificate.got 0

-- the address of a relocation's field; the size of what it names
abbrev pub field_address : ForeignLink → Relocation → ℕ
field_address l r = unwrap_or (address_of l r.object r.section) 0 + r.entry.r_offset

abbrev pub size_of : ForeignLink → Relocation → ℕ
size_of l r = unwrap_or (option_map meaning_size (definition_of l r.symbol)) 0

-- the letters of a relocation whose symbol has a value, with its slot and its field at addresses
abbrev pub letters_at : ForeignLink → Relocation → ℕ → ℕ → ℕ → Letters
letters_at l r v at address = record {
  s = v;
  a = r.entry.r_addend;
  p = address;
  slot = at;
  got = got_of l;
  z = size_of l r;
  t = thread_offset l.image v;
}

abbrev pub value_at : ForeignLink → Relocation → Kind → ℕ → ℕ → ℕ → ℕ
value_at l r k v at address = modulo_64 (whole_value k.formula (letters_at l r v at address))

abbrev pub field_value : ForeignLink → Relocation → Kind → ℕ → ℕ → ℕ
field_value l r k v at = value_at l r k v at (field_address l r)

-- Slots.

-- what a slot holds
abbrev pub slot_value : ForeignLink → SlotKind → ℕ → ℕ
slot_value l slot.Value v = v % 2 ^ 64
slot_value l slot.Thread v = modulo_64 (thread_offset l.image v)

-- the 8 bytes from an address on as a thing
abbrev pub slot_thing : ℕ → Thing
slot_thing at = record { at = at; size = 8; align = 8; rights = 4; in_file = true }

-- a range of addresses lies in the file part of a segment
abbrev pub IsInFile : ProgramHeader → ℕ → ℕ → Type 0
IsInFile h at size = (h.p_vaddr ≤ at) × (at + size ≤ h.p_vaddr + h.p_filesz)

-- a slot: aligned, in the file part of a segment, apart from all else and from the gaps of runs, and with its value
pub record IsSlot (l : ForeignLink) (at value : ℕ) : Type 0 where
  pub aligned : at % 8 ≡ 0
  pub in_file : Any (λ h. IsInFile h at 8) (loads l.image)
  pub apart : All (AreApart (slot_thing at)) (things_of l)
  pub outside : (p q : Placed) (a : ℕ) → IsBetween (sections_of l) p q a → Covers (slot_thing at) a → ⊥
  pub holds : Holds l.image at (le_bytes 8 value)

-- a field at an address holds the value of its formula, in range, with the slot at an address where the formula has one
pub record HoldsValueAt (l : ForeignLink) (r : Relocation) (k : Kind) (v at address : ℕ) : Type 0 where
  pub fits : IsInRange k.range (8 * k.width) (value_at l r k v at address)
  pub holds : Holds l.image address (le_bytes k.width (value_at l r k v at address))

abbrev pub HoldsValue : ForeignLink → Relocation → Kind → ℕ → ℕ → Type 0
HoldsValue l r k v at = HoldsValueAt l r k v at (field_address l r)

-- a relocation has its slot at an address
pub record HasSlotAt (l : ForeignLink) (r : Relocation) (at : ℕ) : Type 0 where
  pub kind : Kind
  pub kind_is : kind_of r ≡ Some kind
  pub asked : SlotKind
  pub asks : slot_kind_of kind.formula ≡ Some asked
  pub value : ℕ
  pub means : meant l r ≡ Some value
  pub held : HoldsValue l r kind value at
  pub slot : IsSlot l at (slot_value l asked value)

-- Thread-local storage: a thread offset is asked of what is in it alone, and any other value but a size of what is outside.
abbrev pub is_thread_use : ForeignLink → Relocation → Bool
is_thread_use l r = option_map_or (is_in_thread_storage (objects_of l)) (definition_of l r.symbol) false

-- a formula needs the GOT's address
abbrev pub needs_got : Formula → Bool
needs_got S+A-GOT = true
needs_got G+A = true
needs_got GOT+A-P = true
needs_got _ = false

-- The field of a relocation holds what its kind asks for.
abbrev pub HoldsPlain : ForeignLink → Relocation → Kind → Option SlotKind → Type 0
HoldsPlain l r k None = IsSomeAnd (meant l r) (λ v. HoldsValue l r k v 0)
HoldsPlain l r k (Some asked) = (at : ℕ) × HasSlotAt l r at

abbrev pub HoldsField : ForeignLink → Relocation → Kind → Type 0
HoldsField l r k =
    (¬ IsMismatch k.formula (is_thread_use l r))
    × (needs_got k.formula ≡ true → is_some l.certificate.got ≡ true)
    × HoldsPlain l r k (slot_kind_of k.formula)

-- Rewritten code.

-- the section that a relocation relocates, as the input has it: its bytes, and whether they are executed; and the instruction
abbrev pub bytes_in : List LoadedObject → Relocation → List ℕ
bytes_in objects r = unwrap_or (option_and_then (λ o. section_bytes o.bytes r.section) (slice_get objects r.object)) []

abbrev pub is_code_in : List LoadedObject → Relocation → Bool
is_code_in objects r = option_map_or (λ o. is_executable (section (sections o.bytes) r.section)) (slice_get objects r.object) false

abbrev pub instruction_of : List LoadedObject → Relocation → Instruction
instruction_of objects r = instruction_in (bytes_in objects r) r.entry

-- the address of a place; and a relocation whose field begins some bytes earlier, with an addend
abbrev pub place_address : ForeignLink → Relocation → ℕ
place_address l r = unwrap_or (address_of l r.object r.section) 0 + place_start r

abbrev pub rewritten_entry : Rela → ℕ → ℤ → Rela
rewritten_entry e earlier addend = record { r_offset = e.r_offset - earlier; r_info = e.r_info; r_addend = addend }

abbrev pub rewritten : Relocation → ℕ → ℤ → Relocation
rewritten r earlier addend = record {
  object = r.object;
  section = r.section;
  name = r.name;
  size = r.size;
  entry = rewritten_entry r.entry earlier addend;
  symbol = r.symbol;
}

-- an instruction is whole: no symbol of its object is defined inside its place, but at the first byte
abbrev pub IsDefinedInside : Relocation → Symbol → Type 0
IsDefinedInside r s = (s.st_shndx ≡ r.section) × (place_start r < s.st_value) × (s.st_value < place_start r + place_width r)

abbrev pub symbols_in : List LoadedObject → ℕ → List Symbol
symbols_in objects n = option_map_or (λ o. symbols o.bytes) (slice_get objects n) []

pub record IsWholeInstruction (objects : List LoadedObject) (r : Relocation) : Type 0 where
  pub none : 0 < front_of r.entry → All (λ s. ¬ IsDefinedInside r s) (symbols_in objects r.object)

-- the bytes of a place are a row's: of a relocation of one of its types, which tells an instruction of code, one of the row's
pub record IsRewritten (l : ForeignLink) (r : Relocation) (w : Rewriting) : Type 0 where
  pub told : 0 < front_of r.entry
  pub type_ : Contains (rewrite_of w).types (rela_type r.entry)
  pub code : is_code_in (objects_of l) r ≡ true
  pub instruction : (rewrite_of w).is_of (instruction_of (objects_of l) r) ≡ true
  pub front : Holds l.image (place_address l r) ((rewrite_of w).front (instruction_of (objects_of l) r))
  pub field :
      let put = (rewrite_of w).put (instruction_of (objects_of l) r) in
      HoldsField l (rewritten r (length (rewrite_of w).behind) put.addend) put.kind
  pub behind :
      Holds l.image (unwrap_or (address_of l r.object r.section) 0 + (r.entry.r_offset - length (rewrite_of w).behind) + 4) (rewrite_of w).behind

-- the bytes of a place are the input's, and its field the one of the kind
pub record IsUnchanged (l : ForeignLink) (r : Relocation) : Type 0 where
  pub front : 0 < front_of r.entry → Holds l.image (place_address l r) (front_bytes (instruction_of (objects_of l) r))
  pub field : IsSomeAnd (kind_of r) (HoldsField l r)

-- F5. The place of a relocation is right, of one that isn't in the list of call frames (F8).
abbrev pub IsPlaceRight : ForeignLink → Relocation → Type 0
IsPlaceRight l r = IsUnchanged l r ⊎ Any (IsRewritten l r) rewritings

pub record IsFieldRight (l : ForeignLink) (r : Relocation) : Type 0 where
  pub right : is_in_list l r ≡ false → IsPlaceRight l r

-- F7. All bytes of a section outside of places are the input's, and 0 where the input has none.
pub record HoldsRest (l : ForeignLink) (q : Placed) : Type 0 where
  pub bytes :
      (k : ℕ) → k < load_size q.piece
      → All (λ r. r.object ≡ q.piece.object → r.section ≡ q.piece.section → ¬ IsInPlace r k) (relocations_of l)
      → byte_at l.image (q.at + k) ≡ Some (slice_index q.piece.bytes k)
