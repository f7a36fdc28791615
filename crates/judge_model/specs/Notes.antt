-- Notes that a linker makes itself: a build id, and the property note of the whole (gABI 5, "Note Section"; the Linux gABI
-- extensions for .note.gnu.property; AMD64 psABI, "Program Property").
use Rattle.std.specs.Prelude.{◌≡◌, ◌⊎◌, ℕ, zero, suc, ◌+◌, ◌%◌, ◌≤◌, ◌==◌, ◌&&◌, ◌||◌, Bool, List, [], ◌∷◌, ◌++◌, All, Any, bit_and, bit_or, codes, cond, drop, find, fold, length, nat_le, option_map, true, unwrap_or}
use Rattle.std.specs.Str.{bytes_eq}
use Rattle.byteview.specs.Numbers.{le_at, le_bytes, part}
use Rattle.elf_model.specs.Image.MemoryImage.{program_headers}
use Rattle.elf_model.specs.Inputs.ObjectFile.{contents, name_of_section, sections}
use Rattle.elf_model.specs.Link.Loading.{LoadedObject}
use Rattle.elf_model.specs.Link.Placement.{round_up}
use Rattle.elf_model.specs.declared.constants.TheConstants.{SHT_NOTE}
use Rattle.elf_model.specs.declared.records.ProgramHeader.{ProgramHeader}
use Rattle.elf_model.specs.declared.records.SectionHeader.{SectionHeader}
use Rattle.judge_model.specs.Links.{ForeignLink, objects_of}
use Rattle.judge_model.specs.Memory.{Holds}
use Rattle.judge_model.specs.declared.certificate.StretchLine.{StretchLine}

-- a note of GNU of a type: the sizes of its name and its description, the type, the name, the description
abbrev pub note_bytes : ℕ → List ℕ → List ℕ
note_bytes type description = le_bytes 4 4 ++ (le_bytes 4 (length description) ++ (le_bytes 4 type ++ (codes "GNU" ++ (0 ∷ description))))

-- a build id: a description of any bytes, at most 64 of them
abbrev pub nt_gnu_build_id : ℕ
nt_gnu_build_id = 3

pub record IsBuildId (image : List ℕ) (n : StretchLine) : Type 0 where
  pub description : List ℕ
  pub short : length description ≤ 64
  pub size : n.size ≡ 16 + length description
  pub holds : Holds image n.address (note_bytes nt_gnu_build_id description)

-- The property note has one property: which of the features of a processor the whole program bears, a bit each. It may have
-- the bits that all objects have, and those for which the words ask.
abbrev pub nt_gnu_property : ℕ
nt_gnu_property = 5

abbrev pub feature_1_and : ℕ
feature_1_and = 0xc0000002

-- the bits in the properties of a description; 0 where it has no such property. Each has a type, a size and its data, up to
-- a multiple of 8; n is more than there can be.
abbrev pub bits_behind : ℕ → List ℕ → ℕ
bits_behind zero properties = 0
bits_behind (suc n) properties =
    cond (nat_le 8 (length properties))
    (cond (le_at 4 properties 0 == feature_1_and) (le_at 4 properties 8) (bits_behind n (drop (round_up 8 (8 + le_at 4 properties 4)) properties)))
    0

-- those of the first note of a section, where this is a property note
abbrev pub is_property_note : List ℕ → Bool
is_property_note bytes = bytes_eq (part bytes 0 4) (le_bytes 4 4) && (le_at 4 bytes 8 == nt_gnu_property && bytes_eq (part bytes 12 4) (codes "GNU" ++ 0 ∷ []))

abbrev pub bits_of_note : List ℕ → ℕ
bits_of_note bytes = cond (is_property_note bytes) (bits_behind (length bytes) (part bytes 16 (le_at 4 bytes 4))) 0

-- those of an object: of its first property section; and those that all objects have
abbrev pub is_property_section : List ℕ → SectionHeader → Bool
is_property_section bytes h = h.sh_type == SHT_NOTE && bytes_eq (name_of_section bytes h) (codes ".note.gnu.property")

abbrev pub bits_of_object : LoadedObject → ℕ
bits_of_object o = unwrap_or (option_map (λ h. bits_of_note (contents o.bytes h)) (find (is_property_section o.bytes) (sections o.bytes))) 0

abbrev pub common_bits : List LoadedObject → ℕ
common_bits objects = fold (λ bits o. bit_and bits (bits_of_object o)) 0xffffffff objects

abbrev pub allowed_bits : ForeignLink → ℕ
allowed_bits l = bit_or (common_bits (objects_of l)) l.plan.features

pub record IsPropertyNote (l : ForeignLink) (n : StretchLine) : Type 0 where
  pub bits : ℕ
  pub allowed : bit_and bits (allowed_bits l) ≡ bits
  pub size : n.size ≡ 32
  pub holds : Holds l.image n.address (note_bytes nt_gnu_property (le_bytes 4 feature_1_and ++ (le_bytes 4 4 ++ (le_bytes 4 bits ++ le_bytes 4 0))))

-- a note of the linker's, which stands where a header of notes says so
abbrev pub is_note_header : ProgramHeader → Bool
is_note_header h = h.p_type == 4 || h.p_type == 0x6474e553

abbrev pub LiesInNotes : List ℕ → StretchLine → Type 0
LiesInNotes image n =
    Any (λ h. (is_note_header h ≡ true) × ((h.p_vaddr ≤ n.address) × (n.address + n.size ≤ h.p_vaddr + h.p_memsz))) (program_headers image)

pub record IsNoteRight (l : ForeignLink) (n : StretchLine) : Type 0 where
  pub aligned : n.address % 4 ≡ 0
  pub inside : LiesInNotes l.image n
  pub kind : IsBuildId l.image n ⊎ IsPropertyNote l n

-- each is right, and there are at most two
pub record AreNotesRight (l : ForeignLink) : Type 0 where
  pub each : All (IsNoteRight l) l.certificate.notes
  pub two : length l.certificate.notes ≤ 2
