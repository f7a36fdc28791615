-- Files that agree where loading looks. Of an archive that is searched, it looks at the headers, at the index and the long names,
-- and at the data of the members that it takes; at the data of no other.
use Rattle.std.specs.Prelude.{ℕ, ◌≡◌, ◌⊎◌, ◌+◌, ◌%◌, true, false, List, All, Ok, length, map, slice_index, take}
use Rattle.std.specs.List.{AllZip}
use Rattle.byteview.specs.Numbers.{part}
use Rattle.elf_model.specs.Inputs.ArchiveFile.{end_at, header_offsets, is_ordinary, size_at, stored_member}
use Rattle.elf_model.specs.Inputs.Command.{Plan, command_of}
use Rattle.elf_model.specs.Inputs.Files.{File}
use Rattle.elf_model.specs.Image.RightLink.{IsRightLink}
use Rattle.elf_model.specs.Inputs.Opening.{AreArchives, AreFilesThere, HaveIndexes, Opened, archive_data, opened}
use Rattle.elf_model.specs.Link.Loading.{LoadedObject, loaded_objects}

-- two archives agree at a header of the first: in its 60 bytes, in the byte behind an odd number of data, and in the data of
-- the index and of the long names
pub record AgreeAt (a b : List ℕ) (at : ℕ) : Type 0 where
  pub header : part a at 60 ≡ part b at 60
  pub pad : size_at a at % 2 ≡ 1 → slice_index a (end_at a at) ≡ slice_index b (end_at a at)
  pub tables : is_ordinary (stored_member a at) ≡ false → part a (at + 60) (size_at a at) ≡ part b (at + 60) (size_at a at)

-- they agree but for the data of their ordinary members
pub record AgreeOutside (a b : List ℕ) : Type 0 where
  pub size : length a ≡ length b
  pub magic : take 8 a ≡ take 8 b
  pub each : All (AgreeAt a b) (header_offsets a)

-- an item is the same in two sets of files, but for data of members where it is an archive that is searched
pub record IsSameBut (o q : Opened) : Type 0 where
  pub searched : o.archive ≡ true
  pub not_whole : o.whole ≡ false
  pub agree : AgreeOutside o.bytes q.bytes

pub record AreAlike (o q : Opened) : Type 0 where
  pub number : o.number ≡ q.number
  pub path : o.path ≡ q.path
  pub archive : o.archive ≡ q.archive
  pub whole : o.whole ≡ q.whole
  pub group : o.group ≡ q.group
  pub bytes : (o.bytes ≡ q.bytes) ⊎ IsSameBut o q

-- the data of the member from which an object is, where it is one of the item's, are the same in both
abbrev pub HasSameData : Opened → Opened → LoadedObject → Type 0
HasSameData o q x =
    x.item ≡ o.number → x.bytes ≡ archive_data o.bytes x.offset → archive_data o.bytes x.offset ≡ archive_data q.bytes x.offset

-- two sets of files agree where a plan's loading from the first looks
abbrev pub AgreesOn : List LoadedObject → Opened → Opened → Type 0
AgreesOn objects o q = AreAlike o q × All (HasSameData o q) objects

pub record Agree (files others : List File) (plan : Plan) : Type 0 where
  pub names : map (λ f. f.name) files ≡ map (λ f. f.name) others
  pub items : AllZip (AgreesOn (loaded_objects files plan)) (opened files plan) (opened others plan)

-- what is loaded from the others, then, and whether that can be
pub record LoadsTheSame (files others : List File) (plan : Plan) : Type 0 where
  pub objects : loaded_objects others plan ≡ loaded_objects files plan
  pub there : AreFilesThere files plan → AreFilesThere others plan
  pub archives : AreArchives (opened files plan) → AreArchives (opened others plan)
  pub indexes : HaveIndexes (opened files plan) → HaveIndexes (opened others plan)

abbrev pub LoadingLooksOnlyWhereItMust : Type 0
LoadingLooksOnlyWhereItMust =
    (files others : List File) (plan : Plan) → Agree files others plan → LoadsTheSame files others plan

-- and a right link of the first is one of the others
abbrev pub RightLinksLookOnlyThere : Type 0
RightLinksLookOnlyThere =
    (files others : List File) (words : List (List ℕ)) (image map_text : List ℕ) (plan : Plan)
    → command_of words ≡ Ok plan → Agree files others plan
    → IsRightLink files words image map_text → IsRightLink others words image map_text
