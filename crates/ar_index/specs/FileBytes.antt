-- The bytes of a file, of which not all may have been read.
use Rattle.std.specs.Prelude.{ℕ, Bool, true, false, List}
use Rattle.ar_index.specs.Parts.{part_bytes}
use Rattle.ar_index.specs.declared.file_bytes.FileBytes.{FileBytes}
use Rattle.ar_index.specs.declared.file_bytes.FileBytes.TheVariants as file_bytes

abbrev pub held_bytes : FileBytes → List ℕ
held_bytes (file_bytes.Whole bytes) = bytes.now
held_bytes (file_bytes.Parts file) = part_bytes file.now.members

-- all of them were read
abbrev pub is_whole : FileBytes → Bool
is_whole (file_bytes.Whole bytes) = true
is_whole (file_bytes.Parts file) = false
