-- F8. Call frames, by which a program that runs finds its callers (LSB Core 10.6, "Exception Frames"; DWARF 4, 6.4.1). Such a section is a
-- list of records: the common parts of several (CIE), and one for each function (FDE) that points to its common part. Linkers make
-- one list of all sections: they leave out what describes functions that the image lacks, have one copy of common parts that are
-- alike, and let a record be longer by zeros, which are instructions that do nothing, or shorter by them.
use Rattle.std.specs.Prelude.{◌≡◌, ◌⊎◌, ℕ, zero, suc, ◌+◌, ◌-◌, ◌^◌, ◌<◌, ◌≤◌, ◌==◌, ◌&&◌, Bool, true, false, not, cond, List, [], ◌∷◌, Option, None, Some, All, Any, Contains, IfSome, IsSomeAnd, drop, find, is_some, length, nat_le, nat_lt, map, option_map, slice_index, unwrap_or}
use Rattle.std.specs.List.{list_any}
use Rattle.byteview.specs.Numbers.{le_at, part}
use Rattle.elf_model.specs.Image.MemoryImage.{loads}
use Rattle.elf_model.specs.Link.Pieces.{Piece}
use Rattle.elf_model.specs.Link.Relocation.{IsMismatch, Kind, Relocation, is_local}
use Rattle.elf_model.specs.Link.Slots.{slot_kind_of}
use Rattle.judge_model.specs.Certificates.{merged_at}
use Rattle.judge_model.specs.Fields.{HoldsValueAt, IsInPlace, is_thread_use, kind_of, needs_got, place_start, place_width}
use Rattle.judge_model.specs.FrameCode.{function_at, is_cut_at}
use Rattle.judge_model.specs.Links.{ForeignLink, framed_of, is_framed, is_frames, is_placed, pieces_of, relocations_of}
use Rattle.judge_model.specs.Means.{is_in_list, meant}
use Rattle.elf_model.specs.declared.records.ProgramHeader.{ProgramHeader}
use Rattle.judge_model.specs.declared.certificate.MergedLine.{MergedLine}
use Rattle.judge_model.specs.declared.certificate.StretchLine.{StretchLine}
use Rattle.judge_model.specs.declared.frame_record.FrameRecord.{FrameRecord}

-- Records.

-- the record that begins at a place: a length, and behind it a number
abbrev pub record_at : List ℕ → ℕ → FrameRecord
record_at bytes at = record { offset = at; size = 4 + le_at 4 bytes at; id = le_at 4 bytes (at + 4) }

-- a record is whole: it has that number, and its length is one of 32 bits
abbrev pub is_whole_record : List ℕ → FrameRecord → Bool
is_whole_record bytes r = nat_le 8 r.size && (nat_lt r.size (2 ^ 32) && nat_le (r.offset + r.size) (length bytes))

-- A list is read record by record. It ends where its bytes do, or with a length of 0, behind which all is 0. None where there is
-- something else; n is more than there can be.
abbrev pub are_zeros : List ℕ → Bool
are_zeros bytes = not (list_any (λ b. not (b == 0)) bytes)

unfoldable pub records_from : ℕ → List ℕ → ℕ → Option (List FrameRecord)
records_from zero bytes at = None
records_from (suc n) bytes at =
    cond (le_at 4 bytes at == 0) (cond (are_zeros (drop at bytes)) (Some []) None)
    (cond (is_whole_record bytes (record_at bytes at))
    (option_map (λ rs. record_at bytes at ∷ rs) (records_from n bytes (at + (record_at bytes at).size))) None)

abbrev pub frame_records : List ℕ → Option (List FrameRecord)
frame_records bytes = records_from (1 + length bytes) bytes 0

abbrev pub records_of : List ℕ → List FrameRecord
records_of bytes = unwrap_or (frame_records bytes) []

-- the record that begins at an offset
abbrev pub record_with : List ℕ → ℕ → Option FrameRecord
record_with bytes offset = find (λ r. r.offset == offset) (records_of bytes)

-- the common part of a record
abbrev pub IsCommonOf : FrameRecord → FrameRecord → Type 0
IsCommonOf r c = (c.id ≡ 0) × (c.offset + r.id ≡ r.offset + 4)

abbrev pub HasCommon : List FrameRecord → FrameRecord → Type 0
HasCommon rs r = (r.id ≡ 0) ⊎ Any (IsCommonOf r) rs

-- a record that is no common part is one of a function; its address can be read
abbrev pub IsFunction : FrameRecord → Type 0
IsFunction f = ¬ (f.id ≡ 0)

abbrev pub HasAddress : List ℕ → FrameRecord → Type 0
HasAddress bytes r = IsFunction r → is_some (function_at bytes 0 r) ≡ true

-- a length of 0 ends a list, behind all of its records
pub record IsEnded (bytes : List ℕ) : Type 0 where
  pub some : 4 ≤ length bytes
  pub behind : All (λ r. r.offset + r.size + 4 ≤ length bytes) (records_of bytes)

-- What isn't judged: sections of call frames that are no such list, or whose records lack their common parts, or have addresses that
-- aren't read; a relocation whose place isn't in one record, behind the length and the number; a line that isn't one of a whole record;
-- a LOCAL symbol of such a section that is asked for; a function that a record finds by a name; and sections of which some are as they
-- came and others in the list.

pub record IsReadable (p : Piece) : Type 0 where
  pub records : is_some (frame_records p.bytes) ≡ true
  pub commons : All (HasCommon (records_of p.bytes)) (records_of p.bytes)
  pub addresses : All (HasAddress p.bytes) (records_of p.bytes)

-- the section of call frames that has two numbers
abbrev pub is_numbered : ℕ → ℕ → Piece → Bool
is_numbered object section p = p.object == object && p.section == section

abbrev pub frames_at : List Piece → ℕ → ℕ → Option Piece
frames_at ps object section = find (is_numbered object section) ps

abbrev pub IsRecordOf : MergedLine → Piece → Type 0
IsRecordOf m p = IsSomeAnd (record_with p.bytes m.offset) (λ r. r.size ≡ m.size)

abbrev pub IsWholeLine : List Piece → MergedLine → Type 0
IsWholeLine ps m = IsSomeAnd (frames_at ps m.object m.section) (IsRecordOf m)

abbrev pub IsAround : Relocation → FrameRecord → Type 0
IsAround r f = (f.offset + 8 ≤ place_start r) × (place_start r + place_width r ≤ f.offset + f.size)

abbrev pub LiesInRecord : Relocation → Piece → Type 0
LiesInRecord r p = Any (IsAround r) (records_of p.bytes)

abbrev pub names_frames : List Piece → Relocation → Bool
names_frames ps r = is_local r.symbol && is_some (frames_at ps r.symbol.object r.symbol.entry.st_shndx)

-- A field is the first one behind the number of a function's record: it has the address of the function. Behind it is the function's
-- size, as wide; a function of no bytes needs no record, and some linkers leave it out.
abbrev pub has_bytes : Relocation → List ℕ → Bool
has_bytes r bytes = not (are_zeros (part bytes (place_start r + place_width r) (place_width r)))

abbrev pub IsFirstField : ℕ → List ℕ → Type 0
IsFirstField offset bytes = (8 ≤ offset) × IsSomeAnd (record_with bytes (offset - 8)) IsFunction

abbrev pub IsBeginOf : Relocation → Piece → Type 0
IsBeginOf r p = IsFirstField r.entry.r_offset p.bytes × (has_bytes r p.bytes ≡ true)

abbrev pub IsBegin : List Piece → Relocation → Type 0
IsBegin ps r = IsSomeAnd (frames_at ps r.object r.section) (IsBeginOf r)

pub record IsPlain (ps : List Piece) (r : Relocation) : Type 0 where
  pub place : IfSome (frames_at ps r.object r.section) (LiesInRecord r)
  pub unnamed : names_frames ps r ≡ false
  pub local : IsBegin ps r → is_local r.symbol ≡ true

-- sections of call frames that are as they came
abbrev pub has_own_place : ForeignLink → Piece → Bool
has_own_place l p = is_frames p && is_placed l p

abbrev pub has_own_frames : ForeignLink → Bool
has_own_frames l = list_any (has_own_place l) (pieces_of l)

abbrev pub is_mixed : ForeignLink → Bool
is_mixed l = has_own_frames l && list_any (is_framed l) (pieces_of l)

pub record AreFramesReadable (l : ForeignLink) : Type 0 where
  pub sections : All IsReadable (framed_of l)
  pub lines : All (IsWholeLine (framed_of l)) l.certificate.frames
  pub relocations : All (IsPlain (framed_of l)) (relocations_of l)
  pub uniform : is_mixed l ≡ false

-- Copies.

-- where the image has the byte at an offset of a section
abbrev pub frame_at : ForeignLink → ℕ → ℕ → ℕ → Option ℕ
frame_at l object section offset = merged_at l.certificate.frames object section offset

-- the common part of a copy is the copy of the common part of its record, by the lines of records
abbrev pub PointsTo : FrameRecord → ℕ → ℕ → Type 0
PointsTo t a c = c + t.id ≡ a + 4

abbrev pub IsNumberRight : List MergedLine → Piece → FrameRecord → FrameRecord → ℕ → Type 0
IsNumberRight lines p r t a =
    ((r.id ≡ 0) × (t.id ≡ 0))
    ⊎ ((¬ (r.id ≡ 0)) × IsSomeAnd (merged_at lines p.object p.section (r.offset + 4 - r.id)) (PointsTo t a))

-- A copy may be shorter than its record, by instructions that do nothing and no part of a place.
abbrev pub IsCut : (ℕ → Type 0) → List ℕ → FrameRecord → ℕ → Type 0
IsCut Beside bytes r size = (is_cut_at bytes r size ≡ true) × ((k : ℕ) → size ≤ k → k < r.size → Beside (r.offset + k))

-- Record t of a list is the copy at address a of record r of a section, given which of the section's bytes are beside places. One of a
-- function has its address as the first field. What is behind the number is the same beside places, and all behind that is 0.
pub record IsCopy (lines : List MergedLine) (Beside : ℕ → Type 0) (list : List ℕ) (p : Piece) (r : FrameRecord) (a : ℕ) (t : FrameRecord) : Type 0 where
  pub number : IsNumberRight lines p r t a
  pub begins : IsFunction r → (8 < r.size) × (¬ Beside (r.offset + 8))
  pub same :
      (k : ℕ) → 8 ≤ k → k < r.size → k < t.size → Beside (r.offset + k)
      → slice_index list (t.offset + k) ≡ slice_index p.bytes (r.offset + k)
  pub zeros : (k : ℕ) → r.size ≤ k → k < t.size → slice_index list (t.offset + k) ≡ 0
  pub cut : t.size < r.size → IsCut Beside p.bytes r t.size

-- the list, which begins at an address, has the copy; and so for each record of a section that has a line
abbrev pub HasCopyAt : List MergedLine → (ℕ → Type 0) → ℕ → List ℕ → Piece → FrameRecord → ℕ → Type 0
HasCopyAt lines Beside address list p r a =
    (address ≤ a) × IsSomeAnd (record_with list (a - address)) (IsCopy lines Beside list p r a)

abbrev pub IsCopied : List MergedLine → (ℕ → Type 0) → ℕ → List ℕ → Piece → Type 0
IsCopied lines Beside address list p =
    All (λ r. IfSome (merged_at lines p.object p.section r.offset) (HasCopyAt lines Beside address list p r)) (records_of p.bytes)

-- byte k of a section of an object lies in no place of a relocation
abbrev pub IsOutside : ℕ → ℕ → ℕ → Relocation → Type 0
IsOutside object section k r = r.object ≡ object → r.section ≡ section → ¬ IsInPlace r k

abbrev pub IsBesidePlaces : List Relocation → Piece → ℕ → Type 0
IsBesidePlaces rs p k = All (IsOutside p.object p.section k) rs

abbrev pub IsCopiedBeside : List MergedLine → List Relocation → ℕ → List ℕ → Piece → Type 0
IsCopiedBeside lines rs address list p = IsCopied lines (IsBesidePlaces rs p) address list p

-- what the file part of a segment has where the list is
abbrev pub has_stretch : StretchLine → ProgramHeader → Bool
has_stretch s h = nat_le h.p_vaddr s.address && nat_le (s.address + s.size) (h.p_vaddr + h.p_filesz)

abbrev pub stretch_in : List ℕ → StretchLine → ProgramHeader → List ℕ
stretch_in image s h = part image (h.p_offset + (s.address - h.p_vaddr)) s.size

abbrev pub stretch_bytes : List ℕ → StretchLine → Option (List ℕ)
stretch_bytes image s = option_map (stretch_in image s) (find (has_stretch s) (loads image))

-- the list is in an area, each of its records is a copy of one of a section, and a length of 0 ends it if one ends a section's
abbrev pub IsListIn : StretchLine → StretchLine → Type 0
IsListIn s a = (a.address ≤ s.address) × (s.address + s.size ≤ a.address + a.size)

abbrev pub line_addresses : List MergedLine → List ℕ
line_addresses lines = map (λ m. m.address) lines

pub record IsListRight (ps : List Piece) (rs : List Relocation) (lines : List MergedLine) (areas : List StretchLine) (s : StretchLine) (list : List ℕ) : Type 0 where
  pub area : Any (IsListIn s) areas
  pub records : is_some (frame_records list) ≡ true
  pub each : All (λ t. Contains (line_addresses lines) (s.address + t.offset)) (records_of list)
  pub copies : All (IsCopiedBeside lines rs s.address list) ps
  pub ended : Any (λ p. IsEnded p.bytes) ps → IsEnded list

-- of sections, with the relocations of an image's sections and the lines of records; or there are no lines
abbrev pub HasRightList : List ℕ → List Piece → List Relocation → List MergedLine → List StretchLine → Option StretchLine → Type 0
HasRightList image ps rs lines areas None = lines ≡ []
HasRightList image ps rs lines areas (Some s) = IsSomeAnd (stretch_bytes image s) (IsListRight ps rs lines areas s)

-- Fields.

-- The field of a relocation at an address holds what its kind asks for, one that asks for no slot.
pub record IsHeldAt (l : ForeignLink) (r : Relocation) (a : ℕ) (k : Kind) : Type 0 where
  pub free : slot_kind_of k.formula ≡ None
  pub thread : ¬ IsMismatch k.formula (is_thread_use l r)
  pub got : needs_got k.formula ≡ true → is_some l.certificate.got ≡ true
  pub value : IsSomeAnd (meant l r) (λ v. HoldsValueAt l r k v 0 a)

-- That of a record with a copy is right there; and a record without one is none of a function that the image has.
abbrev pub IsFrameFieldRight : ForeignLink → Relocation → Option ℕ → Type 0
IsFrameFieldRight l r None = IsBegin (framed_of l) r → meant l r ≡ None
IsFrameFieldRight l r (Some a) = IsSomeAnd (kind_of r) (IsHeldAt l r a)

abbrev pub IsRightInList : ForeignLink → Relocation → Type 0
IsRightInList l r = is_in_list l r ≡ true → IsFrameFieldRight l r (frame_at l r.object r.section r.entry.r_offset)

-- F8, but for the table of a list.
pub record AreFramesRight (l : ForeignLink) : Type 0 where
  pub list : HasRightList l.image (framed_of l) (relocations_of l) l.certificate.frames l.certificate.areas l.certificate.list
  pub fields : All (IsRightInList l) (relocations_of l)
