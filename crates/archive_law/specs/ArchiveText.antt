-- An archive as it is spelled (ar(5)): the magic, and the texts of its members one behind the other. No walk from header to header is in these words.
use Rattle.std.specs.Prelude.{ℕ, ◌≡◌, ◌↔◌, ◌%◌, ◌==◌, List, [], ◌++◌, All, EachIndex, IsTrue, codes, if◌then◌else◌, length, slice_index_or, take}
use Rattle.std.specs.List.{AllZip, concat}
use Rattle.elf_model.specs.Inputs.ArchiveFile.{HasMagic, IsArchive, IsGoodHeader, IsWhole, StoredMember, header_offsets, is_number, null_member, number, stored_members}

-- what stands behind a member's data: a line feed where they are odd in number, else nothing
abbrev pub pad : List ℕ → List ℕ
pad bytes = if length bytes % 2 == 1 then codes "\n" else []

-- the text of a member: its name in 16 bytes; 32 bytes of date, owner, group and mode, which may be any; in 10 bytes how many its data are,
-- in decimal digits with spaces behind them; ARFMAG; its data; and the pad
pub record IsMemberText (m : StoredMember) (member_text : List ℕ) : Type 0 where
  pub unread : List ℕ
  pub size : List ℕ
  pub spelled : member_text ≡ m.name ++ unread ++ size ++ codes "`\n" ++ m.bytes ++ pad m.bytes
  pub name_length : length m.name ≡ 16
  pub unread_length : length unread ≡ 32
  pub size_length : length size ≡ 10
  pub decimal : IsTrue (is_number size)
  pub count : number size ≡ length m.bytes

-- the archive whose members have these texts
abbrev pub archive_of : List (List ℕ) → List ℕ
archive_of texts = codes "!<arch>\n" ++ concat texts

-- the bytes spell these members, in this order, and nothing else: the bytes are the archive of some texts, one a member, and a member's
-- offset is how long the archive of the texts before its own is
pub record SpellsMembers (bytes : List ℕ) (members : List StoredMember) : Type 0 where
  pub texts : List (List ℕ)
  pub spelled : bytes ≡ archive_of texts
  pub each : AllZip IsMemberText members texts
  pub offsets : EachIndex members (λ k. (slice_index_or members k null_member).offset ≡ length (archive_of (take k texts)))

-- the walk from header to header meets no fault: none of NotArchive, Truncated and BadHeader stands
pub record HasGoodMembers (bytes : List ℕ) : Type 0 where
  pub magic : HasMagic bytes
  pub whole : All (IsWhole bytes) (header_offsets bytes)
  pub headers : All (IsGoodHeader bytes) (header_offsets bytes)

-- the walk meets no fault and finds these members exactly where the bytes spell them
abbrev pub WalkFindsTheSpelled : Type 0
WalkFindsTheSpelled =
    (bytes : List ℕ) (members : List StoredMember)
    → (HasGoodMembers bytes × (stored_members bytes ≡ members)) ↔ SpellsMembers bytes members

-- so every archive spells its members
abbrev pub ArchivesSpellMembers : Type 0
ArchivesSpellMembers = (bytes : List ℕ) → IsArchive bytes → SpellsMembers bytes (stored_members bytes)
