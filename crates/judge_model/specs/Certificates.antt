-- A certificate as a record of lists: what other linkers' maps, symbol tables and images tell, and what a judge takes on
-- no trust.
use Rattle.std.specs.Prelude.{◌≡◌, ◌⊎◌, ℕ, ◌<◌, ◌≤◌, ◌+◌, ◌-◌, ◌==◌, ◌&&◌, Bool, List, Option, find, map, nat_le, nat_lt, option_map}
use Rattle.std.specs.List.{list_any}
use Rattle.std.specs.Str.{bytes_eq}
use Rattle.elf_model.specs.Image.MapRecord.{CommonRow, ObjectRow, PlaceRow, common_row, object_row, place_row}
use Rattle.elf_model.specs.Image.MapText.{Ascends, CommonBefore, DropBefore, NameBefore, PlaceBefore}
use Rattle.elf_model.specs.declared.link_map.DropLine.{DropLine}
use Rattle.judge_model.specs.declared.certificate.Certificate.{Certificate}
use Rattle.judge_model.specs.declared.certificate.MergedLine.{MergedLine}
use Rattle.judge_model.specs.declared.certificate.NameLine.{NameLine}
use Rattle.judge_model.specs.declared.certificate.StretchLine.{StretchLine}

-- the value of a name that the linker or its script defines
pub record NameRow : Type 0 where
  pub value : ℕ
  pub name : List ℕ

-- the objects in loading order; the sections with SHF_ALLOC that are left out; the addresses of sections and of common
-- blocks; the notes that the linker made; the areas of memory in which it put merged strings and constants and call frames; where
-- each string and constant is; the list of call frames, and where each record of these is; the names that it or its script defines;
-- the address of the GOT, where code asks for it
pub record CertificateRecord : Type 0 where
  pub objects : List ObjectRow
  pub drops : List DropLine
  pub places : List PlaceRow
  pub commons : List CommonRow
  pub notes : List StretchLine
  pub areas : List StretchLine
  pub merged : List MergedLine
  pub list : Option StretchLine
  pub frames : List MergedLine
  pub names : List NameRow
  pub got : Option ℕ

abbrev pub name_row : NameLine → NameRow
name_row l = record { value = l.value; name = l.name.items }

-- a certificate as clauses see it
abbrev pub certificate_of : Certificate → CertificateRecord
certificate_of c = record {
  objects = map object_row c.objects.items;
  drops = c.drops.items;
  places = map place_row c.places.items;
  commons = map common_row c.commons.items;
  notes = c.notes.items;
  areas = c.areas.items;
  merged = c.merged.items;
  list = c.list;
  frames = c.frames.items;
  names = map name_row c.names.items;
  got = c.got;
}

abbrev pub NameRowBefore : NameRow → NameRow → Type 0
NameRowBefore p q = NameBefore p.name q.name

abbrev pub StretchBefore : StretchLine → StretchLine → Type 0
StretchBefore p q = p.address + p.size ≤ q.address

abbrev pub MergedBefore : MergedLine → MergedLine → Type 0
MergedBefore p q =
    (p.object < q.object)
    ⊎ ((p.object ≡ q.object) × ((p.section < q.section) ⊎ ((p.section ≡ q.section) × (p.offset + p.size ≤ q.offset))))

-- no two lines speak of one thing, and those of a kind come by rising keys
pub record IsInOrder (c : CertificateRecord) : Type 0 where
  pub drops : Ascends DropBefore c.drops
  pub places : Ascends PlaceBefore c.places
  pub commons : Ascends CommonBefore c.commons
  pub notes : Ascends StretchBefore c.notes
  pub areas : Ascends StretchBefore c.areas
  pub merged : Ascends MergedBefore c.merged
  pub frames : Ascends MergedBefore c.frames
  pub names : Ascends NameRowBefore c.names

-- a section has a drop line; it has a place line
abbrev pub is_left_out : List DropLine → ℕ → ℕ → Bool
is_left_out drops object section = list_any (λ d. d.object == object && d.section == section) drops

abbrev pub has_place : List PlaceRow → ℕ → ℕ → Bool
has_place rows object section = list_any (λ row. row.object == object && row.section == section) rows

-- the value that the line of a name gives; None without one
abbrev pub is_row_of : List ℕ → NameRow → Bool
is_row_of name row = bytes_eq row.name name

abbrev pub value_of_name : List NameRow → List ℕ → Option ℕ
value_of_name rows name = option_map (λ row. row.value) (find (is_row_of name) rows)

-- the address of what a section has at an offset, by the line of the string, constant or record that it is in; None without one
abbrev pub is_line_with : ℕ → ℕ → ℕ → MergedLine → Bool
is_line_with object section offset m =
    (m.object == object && m.section == section) && (nat_le m.offset offset && nat_lt offset (m.offset + m.size))

abbrev pub merged_at : List MergedLine → ℕ → ℕ → ℕ → Option ℕ
merged_at lines object section offset =
    option_map (λ m. m.address + (offset - m.offset)) (find (is_line_with object section offset) lines)
