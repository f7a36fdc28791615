-- Which file each item of a plan has, and when an archive can be searched (ld(1), -l, -L and --whole-archive;
-- that there are no other directories, that of files of one name the first counts, and that an archive without
-- an index is refused, is the profile's).
use Rattle.std.specs.Prelude.{◌≡◌, ℕ, ◌+◌, ◌==◌, ◌&&◌, Bool, true, false, not, List, [], ◌∷◌, Option, IsSome, All, is_some, length, option_map, unwrap_or}
use Rattle.std.specs.Option.{option_and_then}
use Rattle.std.specs.List.{find}
use Rattle.std.specs.Str.{bytes_eq}
use Rattle.elf_model.specs.Inputs.ArchiveFile.{IndexEntry, IsArchive, Member, entries_of, index, member_at, members}
use Rattle.elf_model.specs.Inputs.Command.{Item, Plan, paths_of}
use Rattle.elf_model.specs.Inputs.Files.{File}

-- the bytes of the first file that has the name
abbrev pub file_named : List File → List ℕ → Option (List ℕ)
file_named files path = option_map (λ f. f.bytes) (find (λ f. bytes_eq f.name path) files)

-- a path is a file's name
abbrev pub is_file : List File → List ℕ → Bool
is_file files path = is_some (file_named files path)

-- the path of an item's file: the item's path, or for -lNAME the DIR/libNAME.a of the first directory, in command
-- order, for which that is a file's name; None where there is no such file
abbrev pub path_of : List File → List (List ℕ) → Item → Option (List ℕ)
path_of files directories item = find (is_file files) (paths_of directories item.source)

-- each item has a file
abbrev pub HasFile : List File → List (List ℕ) → Item → Type 0
HasFile files directories item = IsSome (path_of files directories item)

abbrev pub AreFilesThere : List File → Plan → Type 0
AreFilesThere files plan = All (HasFile files plan.directories) plan.items

-- an item that was opened: its number in the command, the path and the bytes of its file, and how it is loaded
pub record Opened : Type 0 where
  pub number : ℕ
  pub path : List ℕ
  pub bytes : List ℕ
  pub archive : Bool
  pub whole : Bool
  pub group : Option ℕ

-- the bytes of a file that may be missing; none where it is
abbrev pub bytes_of : List File → Option (List ℕ) → List ℕ
bytes_of files path = unwrap_or (option_and_then (file_named files) path) []

abbrev pub opened_item : List File → List (List ℕ) → ℕ → Item → Opened
opened_item files directories i item = record {
  number = i;
  path = unwrap_or (path_of files directories item) [];
  bytes = bytes_of files (path_of files directories item);
  archive = item.archive;
  whole = item.whole;
  group = item.group;
}

abbrev pub opened_from : List File → List (List ℕ) → ℕ → List Item → List Opened
opened_from files directories i [] = []
opened_from files directories i (item ∷ items) =
    opened_item files directories i item ∷ opened_from files directories (i + 1) items

-- the items of a plan, opened, in command order and numbered from 0
abbrev pub opened : List File → Plan → List Opened
opened files plan = opened_from files plan.directories 0 plan.items

-- the ordinary members of an archive, in the file's order; the entries of its index, none without one; and the data
-- of the ordinary member whose header is at an offset, none where there is no such header
unfoldable pub archive_members : List ℕ → List Member
archive_members bytes = members bytes

unfoldable pub archive_entries : List ℕ → List IndexEntry
archive_entries bytes = entries_of bytes

unfoldable pub archive_data : List ℕ → ℕ → List ℕ
archive_data bytes offset = unwrap_or (member_at bytes offset) []

-- an archive that would be searched has members and no index of their names
unfoldable pub is_unindexed : List ℕ → Bool
is_unindexed bytes = not (length (members bytes) == 0) && not (is_some (index bytes))

abbrev pub lacks_index : Opened → Bool
lacks_index o = not o.whole && is_unindexed o.bytes

-- each archive item is an archive, and one that can be searched
abbrev pub AreArchives : List Opened → Type 0
AreArchives os = All (λ o. o.archive ≡ true → IsArchive o.bytes) os

abbrev pub HaveIndexes : List Opened → Type 0
HaveIndexes os = All (λ o. o.archive ≡ true → lacks_index o ≡ false) os
