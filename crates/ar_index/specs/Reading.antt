-- What is judged of an archive step by step, and what is kept of it.
use Rattle.std.specs.Prelude.{ℕ, ◌≡◌, ◌≢◌, ◌↔◌, ◌<◌, ◌≤◌, ◌+◌, ◌*◌, ◌%◌, List, All, AllPairs, IsTrue, true, Option, codes, drop, length, slice_index, take}
use Rattle.elf_model.specs.Inputs.ArchiveFile.{HasLongText, IndexEntry, IsArchive, IsGoodHeader, IsWhole, Member, StoredMember, entry_count, header_offsets, index, is_number, is_readable, members, stored_members}
use Rattle.elf_model.specs.declared.faults.ArFault.{ArFault}
use Rattle.elf_model.specs.declared.faults.ArFault.TheVariants as fault

-- a member's fault: it is truncated, or its header or the byte behind its bytes is bad
abbrev pub IsMemberFault : Type 0 → Type 0 → ArFault → Type 0
IsMemberFault Cut Bad fault.Truncated = Cut
IsMemberFault Cut Bad fault.BadHeader = Bad
IsMemberFault Cut Bad other = ⊥

-- a fault of the member whose header is at an offset
abbrev pub IsFaultAt : List ℕ → ℕ → ArFault → Type 0
IsFaultAt bytes at f = IsMemberFault (¬ IsWhole bytes at) (¬ IsGoodHeader bytes at) f

-- the byte behind an odd number of bytes: it is there, and a line feed
pub record IsPadded (bytes : List ℕ) (end size : ℕ) : Type 0 where
  pub inside : end + size % 2 ≤ length bytes
  pub line_feed : size % 2 ≡ 1 → end < length bytes → slice_index bytes end ≡ 10

abbrev pub IsPadFault : List ℕ → ℕ → ℕ → ArFault → Type 0
IsPadFault bytes end size f =
    IsMemberFault (length bytes < end + size % 2) ((size % 2 ≡ 1) × (end < length bytes) × (slice_index bytes end ≢ 10)) f

-- a header can be read
abbrev pub IsReadable : List ℕ → ℕ → Type 0
IsReadable bytes at = is_readable bytes at ≡ true

-- all headers of a file were passed without a fault, and its members are these
pub record IsPassed (bytes : List ℕ) (kept : List StoredMember) : Type 0 where
  pub members : kept ≡ stored_members bytes
  pub whole : All (IsWhole bytes) (header_offsets bytes)
  pub headers : All (IsGoodHeader bytes) (header_offsets bytes)
  pub readable : All (IsReadable bytes) (header_offsets bytes)

-- a name field begins with a slash, and a decimal number follows
abbrev pub IsLongNameField : List ℕ → Type 0
IsLongNameField name = (take 1 name ≡ codes "/") × IsTrue (is_number (drop 1 name))

-- the offsets of the long names at which a text begins are those below a limit
abbrev pub IsLimit : List ℕ → ℕ → Type 0
IsLimit names limit = (at : ℕ) → HasLongText names at ↔ at < limit

-- the members stand by offset
abbrev pub AreAscending : List Member → Type 0
AreAscending ms = AllPairs (λ p q. p.offset < q.offset) ms

-- an index's data hold the number of entries and a number for each
abbrev pub HasNumbers : ℕ → List ℕ → Type 0
HasNumbers w index_data = (w ≤ length index_data) × (w + w * entry_count w index_data ≤ length index_data)

-- a fault of an index, where a fact does not hold of it
abbrev pub IsIndexFault : Type 0 → ArFault → Type 0
IsIndexFault Good fault.Memory = Unit {0}
IsIndexFault Good fault.BadIndex = ¬ Good
IsIndexFault Good other = ⊥

-- the bytes are an archive, and what was kept beside them is what they hold
pub record IsRead (bytes : List ℕ) (kept_members : List Member) (kept_index : Option (List IndexEntry)) : Type 0 where
  pub archive : IsArchive bytes
  pub members_are : kept_members ≡ members bytes
  pub index_is : kept_index ≡ index bytes
