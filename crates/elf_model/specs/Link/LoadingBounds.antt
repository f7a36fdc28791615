-- How much an archive may still give, which bounds turns and rounds.
use Rattle.std.specs.Prelude.{ℕ, ◌+◌, cond, List, [], ◌∷◌, length}
use Rattle.elf_model.specs.Inputs.ArchiveFile.{IndexEntry}
use Rattle.elf_model.specs.Link.Loading.{LoadedObject, is_begun, is_taken}
use Rattle.elf_model.specs.Inputs.Opening.{Opened, archive_entries, archive_members}

-- the entries whose members aren't loaded
abbrev pub untaken : List LoadedObject → ℕ → List IndexEntry → ℕ
untaken objects item [] = 0
untaken objects item (e ∷ es) = cond (is_taken objects item e.offset) 0 1 + untaken objects item es

-- the entries that an archive may give, or the members of a whole one that isn't loaded
abbrev pub left : Opened → List LoadedObject → ℕ
left o objects =
    cond o.whole
    (cond (is_begun objects o.number) 0 (length (archive_members o.bytes)))
    (untaken objects o.number (archive_entries o.bytes))

abbrev pub left_of_all : List Opened → List LoadedObject → ℕ
left_of_all [] objects = 0
left_of_all (o ∷ os) objects = left o objects + left_of_all os objects
