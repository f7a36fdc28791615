-- Opened items as the definitions see them.
use Rattle.std.specs.Prelude.{◌≡◌, ℕ, List, [], Option, IfSome, IsTrue, false, is_some, option_map, unwrap_or}
use Rattle.std.specs.Borrow.{Bor}
use Rattle.std.specs.List.{find}
use Rattle.ar_index.specs.FileBytes.{held_bytes, is_whole}
use Rattle.ar_index.specs.declared.file_bytes.FileBytes.{FileBytes}
use Rattle.elf_model.specs.Inputs.Files.{File}
use Rattle.elf_model.specs.Inputs.Opening.{Opened, file_named, is_file}
use Rattle.opening.specs.declared.opened_items.OpenedItem.{OpenedItem}

abbrev pub found_view : Bor (List ℕ) × FileBytes → File
found_view f = record { name = f.0.now; bytes = held_bytes f.1 }

-- the file of a path that is one's name
abbrev pub file_at : List File → List ℕ → File
file_at files path = record { name = path; bytes = unwrap_or (file_named files path) [] }

-- the file of the first path that is one's name
abbrev pub first_found : List File → List (List ℕ) → Option File
first_found files paths = option_map (file_at files) (find (is_file files) paths)

abbrev pub item_view : OpenedItem → Opened
item_view i = record {
  number = i.number;
  path = i.path.now;
  bytes = held_bytes i.bytes;
  archive = i.archive;
  whole = i.whole;
  group = i.group;
}

-- an item that is no archive has a file that was read whole
abbrev pub HasWholeObject : OpenedItem → Type 0
HasWholeObject i = i.archive ≡ false → IsTrue (is_whole i.bytes)

-- an item's archive is there where it is one, and is that of its bytes
pub record IsInput (item : Opened) (archive : Option (List ℕ)) : Type 0 where
  pub some : is_some archive ≡ item.archive
  pub same : IfSome archive (λ bytes. bytes ≡ item.bytes)
