-- The fields of relocations with the values that they want, and what is asked of relocations.
use Rattle.std.specs.Prelude.{◌≡◌, ℕ, ◌+◌, ◌<◌, ◌≤◌, ◌⊎◌, List, All, AllPairs, IsPermutation, length, map, slice_index_or}
use Rattle.std.specs.Global.{Vec}
use Rattle.elf_model.specs.Link.Loading.{LoadedObject}
use Rattle.elf_model.specs.Inputs.ObjectFile.{section, sections}
use Rattle.elf_model.specs.Link.Placement.{Where}
use Rattle.elf_model.specs.Link.Relocation.{AreFieldsApart, IsLawfulRelocation, Relocation, relocations_from, width_of}
use Rattle.elf_model.specs.Link.RelocationValues.{Fits, value_of}
use Rattle.check_relocs.specs.declared.fields.Field.{Field}

-- the field of a relocation, within its object
abbrev pub field_of : List LoadedObject → Where → Relocation → Field
field_of objects w r = record { section = r.section; at = r.entry.r_offset; width = width_of r; value = value_of objects w r }

-- a relocation is lawful, and its value fits its field
pub record IsRight (objects : List LoadedObject) (w : Where) (r : Relocation) : Type 0 where
  pub lawful : IsLawfulRelocation objects r
  pub fits : Fits objects w r

-- relocations are right, and no byte lies in the fields of two
pub record AreRight (objects : List LoadedObject) (w : Where) (rs : List Relocation) : Type 0 where
  pub each : All (IsRight objects w) rs
  pub apart : AllPairs AreFieldsApart rs

-- a field has a byte, and at most eight
pub record IsNarrow (f : Field) : Type 0 where
  pub some : 0 < f.width
  pub narrow : f.width ≤ 8

-- no byte of a section lies in both fields
abbrev pub AreApart : Field → Field → Type 0
AreApart f g = f.section ≡ g.section → (k : ℕ) → f.at ≤ k → k < f.at + f.width → g.at ≤ k → k < g.at + g.width → ⊥

-- a field ends before the other begins, or lies in an earlier section
abbrev pub IsBefore : Field → Field → Type 0
IsBefore f g = (f.section < g.section) ⊎ ((f.section ≡ g.section) × (f.at + f.width ≤ g.at))

-- each field ends before the next one begins
abbrev pub Rise : List Field → Type 0
Rise xs = (k : ℕ) (d : Field) → k + 1 < length xs → IsBefore (slice_index_or xs k d) (slice_index_or xs (k + 1) d)

-- each field begins where the one in front of it begins, or behind
abbrev pub IsBehind : Field → Field → Type 0
IsBehind f g = (f.section ≤ g.section) × (f.section ≡ g.section → f.at ≤ g.at)

abbrev pub IsOrdered : List Field → Type 0
IsOrdered xs = (k : ℕ) (d : Field) → k + 1 < length xs → IsBehind (slice_index_or xs k d) (slice_index_or xs (k + 1) d)

-- a row has the fields in order, each of which ends before all later ones begin
pub record IsRow (fs row : List Field) : Type 0 where
  pub same : IsPermutation fs row
  pub rising : AllPairs IsBefore row

-- a field lies inside its section, and is no wider than a value
pub record LiesIn (bytes : List ℕ) (f : Field) : Type 0 where
  pub inside : f.at + f.width ≤ (section (sections bytes) f.section).sh_size
  pub narrow : f.width ≤ 8

-- a row is that of the kept relocations of the object that has a number
pub record IsRowOf (objects : List LoadedObject) (w : Where) (k : ℕ) (o : LoadedObject) (row : List Field) : Type 0 where
  pub sorted : IsRow (map (field_of objects w) (relocations_from k o)) row
  pub inside : All (LiesIn o.bytes) row

-- rows of fields, object by object
pub record AreRows (objects : List LoadedObject) (w : Where) (rows : List (Vec Field)) : Type 0 where
  pub count : length rows ≡ length objects
  pub each :
      (k : ℕ) (d : Vec Field) (o : LoadedObject) → k < length rows
      → IsRowOf objects w k (slice_index_or objects k o) (slice_index_or rows k d).items
