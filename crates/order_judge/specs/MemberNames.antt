-- The names of archives' indexes by members, and which of them are needed.
use Rattle.std.specs.Prelude.{◌≡◌, ◌==◌, ℕ, Bool, true, false, Any, IsPermutation, List, map}
use Rattle.std.specs.List.Sorted.{IsNonDecreasingBy}
use Rattle.elf_model.specs.Inputs.ArchiveFile.{IndexEntry}
use Rattle.elf_model.specs.Inputs.Command.{Plan}
use Rattle.elf_model.specs.Inputs.Opening.{Opened, archive_entries}
use Rattle.elf_model.specs.Link.Loading.{LoadedObject, needed}
use Rattle.judge_model.specs.Loaded.{is_named_by}
use Rattle.order_judge.specs.declared.member_names.MemberName.{MemberName}

abbrev pub entry_of : MemberName → IndexEntry
entry_of n = record { name = n.name.now; offset = n.offset }

abbrev pub is_at : ℕ → MemberName → Bool
is_at offset n = n.offset == offset

abbrev pub is_name_needed : Plan → List LoadedObject → MemberName → Bool
is_name_needed plan before n = needed plan before n.name.now

-- names are those of an item's index where the command doesn't name its objects, by rising offsets
pub record HasNames (o : Opened) (names : List MemberName) : Type 0 where
  pub entries : is_named_by o ≡ false → IsPermutation (archive_entries o.bytes) (map entry_of names)
  pub rising : IsNonDecreasingBy (λ n. n.offset) names

-- an entry stands for the member whose header is at an offset, and its name is needed
abbrev pub IsNeededAt : Plan → List LoadedObject → ℕ → IndexEntry → Type 0
IsNeededAt plan before offset e = (e.offset ≡ offset) × (needed plan before e.name ≡ true)

-- the command names an item's objects, or one of its entries is such a one
abbrev pub IsAskedFor : Plan → List LoadedObject → ℕ → Opened → Type 0
IsAskedFor plan before offset o = is_named_by o ≡ false → Any (IsNeededAt plan before offset) (archive_entries o.bytes)
