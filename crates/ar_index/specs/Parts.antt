-- An archive's file of which the data of some members weren't read (ar(5)).
use Rattle.std.specs.Prelude.{◌≡◌, ◌≤◌, ◌<◌, ◌^◌, ℕ, ◌+◌, Bool, false, true, not, List, [], ◌∷◌, ◌++◌, Option, Some, None, IsTrue, All, codes, length, map, replicate, slice_index_or, slice_set, take, unwrap_or, is_some}
use Rattle.std.specs.List.{AllZip}
use Rattle.byteview.specs.Numbers.{part}
use Rattle.elf_model.specs.Inputs.ArchiveFile.{StoredMember, is_number, is_ordinary, number}
use Rattle.elf_model.specs.Inputs.Files.{File}
use Rattle.archive_law.specs.ArchiveText.{archive_of, pad}

-- a member: the bytes of its header, and its data where they were read
pub record Part : Type 0 where
  pub header : List ℕ
  pub content : Option (List ℕ)

-- how many its data are, by its header
abbrev pub part_size : Part → ℕ
part_size p = number (part p.header 48 10)

-- its data, with zeros for those that weren't read
abbrev pub part_data : Part → List ℕ
part_data p = unwrap_or p.content (replicate (part_size p) 0)

-- its text in the file
abbrev pub part_text : Part → List ℕ
part_text p = p.header ++ (part_data p ++ pad (part_data p))

-- the file of such members
unfoldable pub part_bytes : List Part → List ℕ
part_bytes ps = archive_of (map part_text ps)

-- a header that can be read, and as many data as it tells
pub record IsPart (p : Part) : Type 0 where
  pub long : length p.header ≡ 60
  pub fmag : part p.header 58 2 ≡ codes "`\n"
  pub decimal : IsTrue (is_number (part p.header 48 10))
  pub count : length (part_data p) ≡ part_size p

-- a member whose data weren't read
abbrev pub unread_part : List ℕ → Part
unread_part header = record { header = header; content = None }

-- a header that can be read
pub record IsHeader (header : List ℕ) : Type 0 where
  pub long : length header ≡ 60
  pub fmag : part header 58 2 ≡ codes "`\n"
  pub decimal : IsTrue (is_number (part header 48 10))

-- the member as it is stored at an offset
abbrev pub stored_part : ℕ → Part → StoredMember
stored_part at p = record { offset = at; name = take 16 p.header; bytes = part_data p }

-- members as they are stored one behind the other from an offset on
abbrev pub stored_parts : ℕ → List Part → List StoredMember
stored_parts at [] = []
stored_parts at (p ∷ ps) = stored_part at p ∷ stored_parts (at + length (part_text p)) ps

-- a member is the index or the long names, whose data a link always looks at
abbrev pub is_table : Part → Bool
is_table p = not (is_ordinary (stored_part 0 p))

-- a member with all its data is another one of which these may not have been read: its header is the same, and so are data that
-- were read, and those of the index and of the long names
pub record Completes (p q : Part) : Type 0 where
  pub is_part : IsPart q
  pub header : p.header ≡ q.header
  pub content : is_some p.content ≡ true → part_data p ≡ part_data q
  pub table : is_table p ≡ true → part_data p ≡ part_data q

-- these members were read of a file: with some data for those that weren't, they are the file
pub record AreReadOf (ps : List Part) (bytes : List ℕ) : Type 0 where
  pub members : List Part
  pub each : AllZip Completes ps members
  pub spelled : bytes ≡ part_bytes members

-- a file that was read so: its name, and the members
pub record PartialFile : Type 0 where
  pub name : List ℕ
  pub members : List Part

abbrev pub file_of_parts : PartialFile → File
file_of_parts f = record { name = f.name; bytes = part_bytes f.members }

-- what is kept of a member: how many its data are
pub record IsKeptPart (p : Part) (size : ℕ) : Type 0 where
  pub is_part : IsPart p
  pub size_is : size ≡ part_size p
  pub small : size < 10 ^ 16

-- the zeros that stand for data which weren't read are enough for each of some members
abbrev pub HasZerosFor : ℕ → Part → Type 0
HasZerosFor count p = is_some p.content ≡ false → part_size p ≤ count

pub record AreKeptParts (ps : List Part) (zeros : List ℕ) : Type 0 where
  pub parts : All IsPart ps
  pub zeros_are : zeros ≡ replicate (length zeros) 0
  pub enough : All (HasZerosFor (length zeros)) ps

-- a member that isn't there counts as one without a header
abbrev pub no_part : Part
no_part = record { header = []; content = None }

-- member i gets data
abbrev pub with_content : List Part → ℕ → List ℕ → List Part
with_content ps i content = slice_set ps i (record { header = (slice_index_or ps i no_part).header; content = Some content })
