-- The requirements on the notes that a linker made, by what decides them: the image, and the bits that a property note may have.
use Rattle.std.specs.Prelude.{◌≡◌, ◌⊎◌, ◌++◌, ◌+◌, ◌<◌, ◌≤◌, ◌%◌, ℕ, List, All, IsSome, bit_and, find, length, option_map, true, unwrap_or}
use Rattle.elf_model.specs.Image.RightLink.{byte_at}
use Rattle.elf_model.specs.Inputs.ObjectFile.{contents, sections}
use Rattle.elf_model.specs.Link.Loading.{LoadedObject}
use Rattle.judge_model.specs.Links.{ForeignLink, objects_of}
use Rattle.judge_model.specs.Memory.{Holds}
use Rattle.judge_model.specs.Notes.{IsBuildId, LiesInNotes, bits_of_note, feature_1_and, is_note_header, is_property_section, note_bytes, nt_gnu_property}
use Rattle.elf_model.specs.declared.records.ProgramHeader.{ProgramHeader}
use Rattle.judge_model.specs.declared.certificate.StretchLine.{StretchLine}
use Rattle.byteview.specs.Numbers.{le_bytes}

-- a header is one of notes, and a note lies where it says
abbrev pub LiesIn : StretchLine → ProgramHeader → Type 0
LiesIn n h = (is_note_header h ≡ true) × ((h.p_vaddr ≤ n.address) × (n.address + n.size ≤ h.p_vaddr + h.p_memsz))

-- memory holds what a note of GNU begins with, in front of its description: the sizes of its name and of the description, its
-- type, its name
pub record HoldsFront (image : List ℕ) (at size kind : ℕ) : Type 0 where
  pub name_size : Holds image (at + 0) (le_bytes 4 4)
  pub size_is : Holds image (at + 4) (le_bytes 4 size)
  pub kind_is : Holds image (at + 8) (le_bytes 4 kind)
  pub name : Holds image (at + 12) (le_bytes 4 0x554e47)

-- memory has a byte at each of so many addresses
abbrev pub IsMapped : List ℕ → ℕ → ℕ → Type 0
IsMapped image at size = (k : ℕ) → k < size → IsSome (byte_at image (at + k))

-- what stands behind the name in a property note with these bits
abbrev pub property : ℕ → List ℕ
property bits = le_bytes 4 feature_1_and ++ (le_bytes 4 4 ++ (le_bytes 4 bits ++ le_bytes 4 0))

-- its type, its size, and the zeros behind its bits; and the bits, with none but those allowed
pub record HoldsProperty (image : List ℕ) (at : ℕ) : Type 0 where
  pub type_is : Holds image (at + 16) (le_bytes 4 feature_1_and)
  pub size_is : Holds image (at + 20) (le_bytes 4 4)
  pub zeros : Holds image (at + 28) (le_bytes 4 0)

pub record HoldsFew (image : List ℕ) (at allowed : ℕ) : Type 0 where
  pub bits : ℕ
  pub few : bit_and bits allowed ≡ bits
  pub holds : Holds image (at + 24) (le_bytes 4 bits)

-- a property note with no bits but those allowed
pub record IsPropertyBy (image : List ℕ) (allowed : ℕ) (n : StretchLine) : Type 0 where
  pub bits : ℕ
  pub few : bit_and bits allowed ≡ bits
  pub size : n.size ≡ 32
  pub holds : Holds image n.address (note_bytes nt_gnu_property (property bits))

pub record IsNoteBy (image : List ℕ) (allowed : ℕ) (n : StretchLine) : Type 0 where
  pub aligned : n.address % 4 ≡ 0
  pub inside : LiesInNotes image n
  pub kind : IsBuildId image n ⊎ IsPropertyBy image allowed n

pub record AreNotesBy (image : List ℕ) (allowed : ℕ) (notes : List StretchLine) : Type 0 where
  pub each : All (IsNoteBy image allowed) notes
  pub two : length notes ≤ 2

-- these are a link's image, objects, notes and the features for which its words ask
pub record IsOfLink (l : ForeignLink) (image : List ℕ) (os : List LoadedObject) (notes : List StretchLine) (features : ℕ) : Type 0 where
  pub image_is : l.image ≡ image
  pub objects_are : objects_of l ≡ os
  pub notes_are : l.certificate.notes ≡ notes
  pub features_are : l.plan.features ≡ features

-- the bits of an object, by its bytes
abbrev pub bits_of_bytes : List ℕ → ℕ
bits_of_bytes bytes = unwrap_or (option_map (λ h. bits_of_note (contents bytes h)) (find (is_property_section bytes) (sections bytes))) 0
