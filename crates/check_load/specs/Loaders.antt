-- What a loader knows of the objects that are loaded.
use Rattle.std.specs.Prelude.{◌≡◌, ℕ, ◌&&◌, Bool, true, false, not, List, [], Some, slice_get}
use Rattle.elf_model.specs.Inputs.ArchiveFile.{IndexEntry}
use Rattle.elf_model.specs.Link.Groups.{AreLawfulGroups, is_seen}
use Rattle.elf_model.specs.Link.Loading.{AreObjects, HaveLawfulGroups, LoadedObject, is_begun, is_defined, is_requested, is_taken, seen_behind}
use Rattle.elf_model.specs.Inputs.ObjectFile.{IsObject, groups}
use Rattle.elf_model.specs.Inputs.Opening.{Opened, archive_entries}
use Rattle.check_load.specs.Awake.{is_awake}
use Rattle.check_load.specs.NameNumbers.{is_among}
use Rattle.check_load.specs.Names.{Names, defines_name, requests_name}
use Rattle.check_load.specs.Numbered.{AreNumbered}
use Rattle.check_load.specs.Places.{IsAt}
use Rattle.check_load.specs.Taken.{has_item, has_member}
use Rattle.check_load.specs.Views.{loaded_views}
use Rattle.check_load.specs.declared.awake_entries.Awake.{Awake}
use Rattle.check_load.specs.declared.loader.Loader.{Loader}
use Rattle.check_load.specs.declared.taken_members.Taken.{Taken}

abbrev pub loaded : Loader → List LoadedObject
loaded l = loaded_views l.objects.items

-- the bytes are an object with lawful groups; so are those of all loaded objects
pub record IsLoadable (bytes : List ℕ) : Type 0 where
  pub object : IsObject bytes
  pub lawful : AreLawfulGroups (groups bytes)

pub record AreLoadable (objects : List LoadedObject) : Type 0 where
  pub objects_are : AreObjects objects
  pub lawful : HaveLawfulGroups objects

-- an entry gives a member, by a loader's tables: its name is asked for and not defined, and its member isn't taken
abbrev pub is_free : Names → Taken → ℕ → IndexEntry → Bool
is_free names taken item e = (requests_name names e.name && not (defines_name names e.name)) && not (has_member taken item e.offset)

-- each entry of an item that gives a member is awake
abbrev pub AreFreeAwake : Names → Taken → ℕ → List IndexEntry → Awake → Type 0
AreFreeAwake names taken item es awake = (q : ℕ) (e : IndexEntry) → slice_get es q ≡ Some e → is_free names taken item e ≡ true → is_awake awake item q ≡ true

-- its tables are those of the objects, which are objects with lawful groups, and what archives among the inputs may
-- take is awake
pub record Knows (os : List Opened) (l : Loader) : Type 0 where
  pub seen : is_among l.seen ≡ is_seen (seen_behind [] (loaded l))
  pub requested : (n : List ℕ) → requests_name l.names n ≡ is_requested l.plan.now (loaded l) n
  pub defined : (n : List ℕ) → defines_name l.names n ≡ is_defined (loaded l) n
  pub taken : (item offset : ℕ) → has_member l.taken item offset ≡ is_taken (loaded l) item offset
  pub begun : (item : ℕ) → has_item l.taken item ≡ is_begun (loaded l) item
  pub loadable : AreLoadable (loaded l)
  pub numbered : AreNumbered l.names.names l.objects.items
  pub awake : (o : Opened) → IsAt os o → o.archive ≡ true → o.whole ≡ false → AreFreeAwake l.names l.taken o.number (archive_entries o.bytes) l.awake
