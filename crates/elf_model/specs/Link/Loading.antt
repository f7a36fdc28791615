-- Which objects a command loads from the files that were read, in load order (ld(1), "-l namespec", --start-group,
-- --whole-archive and -u; System V gABI 4, "Symbol Table" and "Section Groups"). That an archive is searched in
-- the order of its index is the profile's.
use Rattle.std.specs.Prelude.{ℕ, zero, suc, ◌+◌, ◌/◌, ◌==◌, ◌&&◌, ◌||◌, Bool, not, cond, List, [], ◌∷◌, ◌++◌, Option, Some, None, All, length}
use Rattle.std.specs.List.{find, list_any}
use Rattle.std.specs.Str.{bytes_eq}
use Rattle.elf_model.specs.Inputs.ArchiveFile.{IndexEntry, Member}
use Rattle.elf_model.specs.Inputs.Command.{Plan}
use Rattle.elf_model.specs.Inputs.Files.{File}
use Rattle.elf_model.specs.Link.Groups.{AreLawfulGroups, dropped, seen_after}
use Rattle.elf_model.specs.Inputs.ObjectFile.{IsObject, groups, name_of_symbol, symbols}
use Rattle.elf_model.specs.Inputs.Opening.{Opened, archive_data, archive_entries, archive_members, opened}
use Rattle.elf_model.specs.declared.constants.TheConstants.{SHN_UNDEF, STB_GLOBAL, STB_WEAK}
use Rattle.elf_model.specs.declared.records.Symbol.{Symbol}

-- a loaded object: its bytes, the number of its item in the command, the offset of its member's header in the
-- archive (0 for an object item), the path of its file, and the numbers of its dropped sections, ascending
pub record LoadedObject : Type 0 where
  pub bytes : List ℕ
  pub item : ℕ
  pub offset : ℕ
  pub path : List ℕ
  pub dropped : List ℕ

-- section i of an object is dropped
abbrev pub is_dropped : LoadedObject → ℕ → Bool
is_dropped o i = list_any (λ k. k == i) o.dropped

-- Needed names.

-- the binding of a symbol is GLOBAL; it is GLOBAL or WEAK
abbrev pub is_global_symbol : Symbol → Bool
is_global_symbol s = s.st_info / 16 == STB_GLOBAL

abbrev pub is_global_or_weak : Symbol → Bool
is_global_or_weak s = is_global_symbol s || s.st_info / 16 == STB_WEAK

-- a symbol is undefined, or stands in one of the dropped sections, which counts as the same
abbrev pub is_left_undefined : List ℕ → Symbol → Bool
is_left_undefined sections s = s.st_shndx == SHN_UNDEF || list_any (λ k. k == s.st_shndx) sections

-- a symbol defines its name: a GLOBAL or WEAK one, also a common or absolute one
abbrev pub is_definition : List ℕ → Symbol → Bool
is_definition sections s = is_global_or_weak s && not (is_left_undefined sections s)

-- a symbol asks for a definition of its name: an undefined GLOBAL one, never a WEAK one
abbrev pub is_request : List ℕ → Symbol → Bool
is_request sections s = is_global_symbol s && is_left_undefined sections s

abbrev pub has_name : List ℕ → List ℕ → Symbol → Bool
has_name bytes name s = bytes_eq (name_of_symbol bytes s) name

-- an object defines a name, or asks for its definition
unfoldable pub defines : List ℕ → LoadedObject → Bool
defines name o = list_any (λ s. has_name o.bytes name s && is_definition o.dropped s) (symbols o.bytes)

unfoldable pub requests : List ℕ → LoadedObject → Bool
requests name o = list_any (λ s. has_name o.bytes name s && is_request o.dropped s) (symbols o.bytes)

unfoldable pub is_defined : List LoadedObject → List ℕ → Bool
is_defined objects name = list_any (defines name) objects

-- the entry and the names of -u are asked for by the command
unfoldable pub is_requested : Plan → List LoadedObject → List ℕ → Bool
is_requested plan objects name =
    list_any (λ root. bytes_eq root name) (plan.entry ∷ plan.undefined) || list_any (requests name) objects

-- a name is needed: the command or an object asks for it, and no object defines it
abbrev pub needed : Plan → List LoadedObject → List ℕ → Bool
needed plan objects name = is_requested plan objects name && not (is_defined objects name)

-- One object more.

-- the signatures of the COMDAT groups of objects, after some that were seen before
abbrev pub seen_behind : List (List ℕ) → List LoadedObject → List (List ℕ)
seen_behind seen [] = seen
seen_behind seen (o ∷ os) = seen_behind (seen_after seen (groups o.bytes)) os

-- the sections that an object loses behind objects whose COMDAT groups it repeats
unfoldable pub lost_sections : List LoadedObject → List ℕ → List ℕ
lost_sections objects bytes = dropped (seen_behind [] objects) (groups bytes)

-- an object of an item, behind those that are loaded
abbrev pub object_behind : List LoadedObject → Opened → ℕ → List ℕ → LoadedObject
object_behind objects o offset bytes = record {
  bytes = bytes;
  item = o.number;
  offset = offset;
  path = o.path;
  dropped = lost_sections objects bytes;
}

abbrev pub with_object : List LoadedObject → Opened → ℕ → List ℕ → List LoadedObject
with_object objects o offset bytes = objects ++ object_behind objects o offset bytes ∷ []

-- Archives.

-- the member of an item at an offset is loaded; an object of the item is loaded
unfoldable pub is_taken : List LoadedObject → ℕ → ℕ → Bool
is_taken objects item offset = list_any (λ x. x.item == item && x.offset == offset) objects

unfoldable pub is_begun : List LoadedObject → ℕ → Bool
is_begun objects item = list_any (λ x. x.item == item) objects

-- what an archive's turn takes next: the member of the first entry, in index order, whose name is needed and whose
-- member isn't loaded
abbrev pub is_next : Plan → List LoadedObject → Opened → IndexEntry → Bool
is_next plan objects o e = needed plan objects e.name && not (is_taken objects o.number e.offset)

abbrev pub next : Plan → List LoadedObject → Opened → Option IndexEntry
next plan objects o = find (is_next plan objects o) (archive_entries o.bytes)

abbrev pub with_member : List LoadedObject → Opened → IndexEntry → List LoadedObject
with_member objects o e = with_object objects o e.offset (archive_data o.bytes e.offset)

-- members are taken until none is next. Each entry's member is taken at most once, so that their number is no limit.
abbrev pub searched : ℕ → Plan → Opened → List LoadedObject → List LoadedObject
searched zero plan o objects = objects
searched (suc n) plan o objects =
    elim (next plan objects o) as (λ _. List LoadedObject) [ None ↦ objects | Some e ↦ searched n plan o (with_member objects o e) ]

-- all members of an archive, in file order
abbrev pub with_members : List LoadedObject → Opened → List Member → List LoadedObject
with_members objects o [] = objects
with_members objects o (m ∷ ms) = with_members (with_object objects o m.offset m.bytes) o ms

-- a turn of an archive. A whole one is loaded at its first turn, and later turns add nothing.
abbrev pub turn_of_whole : Opened → List LoadedObject → List LoadedObject
turn_of_whole o objects = cond (is_begun objects o.number) objects (with_members objects o (archive_members o.bytes))

abbrev pub turn : Plan → Opened → List LoadedObject → List LoadedObject
turn plan o objects = cond o.whole (turn_of_whole o objects) (searched (length (archive_entries o.bytes)) plan o objects)

-- Groups of archives.

-- a round: a turn of each archive, in order
abbrev pub round : Plan → List Opened → List LoadedObject → List LoadedObject
round plan [] objects = objects
round plan (o ∷ os) objects = round plan os (turn plan o objects)

-- rounds, until a whole round takes nothing
abbrev pub rounds_within : ℕ → Plan → List Opened → List LoadedObject → List LoadedObject
rounds_within zero plan os objects = objects
rounds_within (suc n) plan os objects =
    let more = round plan os objects in cond (length more == length objects) objects (rounds_within n plan os more)

-- as many objects as archives may give, and one round more
abbrev pub most_rounds : List Opened → ℕ
most_rounds [] = 1
most_rounds (o ∷ os) = length (archive_entries o.bytes) + (length (archive_members o.bytes) + most_rounds os)

abbrev pub rounds : Plan → List Opened → List LoadedObject → List LoadedObject
rounds plan os objects = rounds_within (most_rounds os) plan os objects

-- The whole command.

-- what is loaded in one step: an item that is in no group, or the archives of a group, which has a number
pub data Step : Type 0 where
  Single : Opened → Step
  Group : ℕ → List Opened → Step

-- an item stands before steps: it joins the first one where both are of one group
abbrev pub joined : Opened → ℕ → List Step → List Step
joined o g (Group h os ∷ steps) = cond (g == h) (Group g (o ∷ os) ∷ steps) (Group g (o ∷ []) ∷ Group h os ∷ steps)
joined o g steps = Group g (o ∷ []) ∷ steps

-- the number of an archive's group; an object is in none
abbrev pub group_of : Opened → Option ℕ
group_of o = cond o.archive o.group None

abbrev pub before_steps : Opened → Option ℕ → List Step → List Step
before_steps o None steps = Single o ∷ steps
before_steps o (Some g) steps = joined o g steps

-- the steps of opened items: those of one group that stand side by side are one step
abbrev pub steps : List Opened → List Step
steps [] = []
steps (o ∷ os) = before_steps o (group_of o) (steps os)

-- an object is loaded where it stands, an archive has one turn, and a group its rounds
abbrev pub loaded_step : Plan → Step → List LoadedObject → List LoadedObject
loaded_step plan (Single o) objects = cond o.archive (turn plan o objects) (with_object objects o 0 o.bytes)
loaded_step plan (Group g os) objects = rounds plan os objects

abbrev pub loaded_steps : Plan → List Step → List LoadedObject → List LoadedObject
loaded_steps plan [] objects = objects
loaded_steps plan (s ∷ ss) objects = loaded_steps plan ss (loaded_step plan s objects)

-- the loaded objects, in load order
unfoldable pub loaded_objects : List File → Plan → List LoadedObject
loaded_objects files plan = loaded_steps plan (steps (opened files plan)) []

-- each loaded object is an object
abbrev pub AreObjects : List LoadedObject → Type 0
AreObjects objects = All (λ o. IsObject o.bytes) objects

-- the groups of each loaded object are lawful
abbrev pub HaveLawfulGroups : List LoadedObject → Type 0
HaveLawfulGroups objects = All (λ o. AreLawfulGroups (groups o.bytes)) objects
