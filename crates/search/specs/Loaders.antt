-- What a loader knows of the objects that are loaded.
use Rattle.std.specs.Prelude.{◌≡◌, ℕ, ◌&&◌, Bool, not, List, [], ◌++◌}
use Rattle.std.specs.List.{list_any}
use Rattle.elf_model.specs.Inputs.ArchiveFile.{IndexEntry}
use Rattle.elf_model.specs.Inputs.Command.{Plan}
use Rattle.elf_model.specs.Link.Loading.{AreObjects, HaveLawfulGroups, LoadedObject, has_name, is_begun, is_defined, is_definition, is_request, is_requested, is_taken, needed, seen_behind}
use Rattle.elf_model.specs.Inputs.ObjectFile.{symbols}
use Rattle.elf_model.specs.declared.records.Symbol.{Symbol}
use Rattle.search.specs.Mentions.{AreNoted, has_definition}
use Rattle.search.specs.Names.{Begins, is_among}
use Rattle.search.specs.Numbers.{AreNumbered}
use Rattle.search.specs.Taken.{has_item, has_member}
use Rattle.search.specs.Views.{loaded_views}
use Rattle.search.specs.declared.loader.Loader.{Loader}

-- of these symbols of an object's bytes, one asks for a name, or defines it, where these sections are dropped
unfoldable pub asked_from : List ℕ → List ℕ → List Symbol → List ℕ → Bool
asked_from bytes dropped ss name = list_any (λ s. has_name bytes name s && is_request dropped s) ss

unfoldable pub defined_from : List ℕ → List ℕ → List Symbol → List ℕ → Bool
defined_from bytes dropped ss name = list_any (λ s. has_name bytes name s && is_definition dropped s) ss

abbrev pub asked_in : List ℕ → List ℕ → List ℕ → Bool
asked_in bytes dropped name = asked_from bytes dropped (symbols bytes) name

abbrev pub defined_in : List ℕ → List ℕ → List ℕ → Bool
defined_in bytes dropped name = defined_from bytes dropped (symbols bytes) name

abbrev pub loaded : {N : Type 0} → Loader N → List LoadedObject
loaded l = loaded_views l.objects.items

-- its tables are those of the objects, which are objects with lawful groups; the names that have numbers are given
pub record Knows {N : Type 0} (names : N → List (List ℕ)) (l : Loader N) : Type 0 where
  pub seen : l.groups ≡ seen_behind [] (loaded l)
  pub requested : (n : List ℕ) → is_among l.names.requested n ≡ is_requested l.plan.now (loaded l) n
  pub noted : AreNoted names l.names
  pub defined : (n : List ℕ) → has_definition names l.names n ≡ is_defined (loaded l) n
  pub numbered : AreNumbered (names l.names.numbers) l.objects.items
  pub taken : (item offset : ℕ) → has_member l.taken item offset ≡ is_taken (loaded l) item offset
  pub begun : (item : ℕ) → has_item l.taken item ≡ is_begun (loaded l) item
  pub objects : AreObjects (loaded l)
  pub lawful : HaveLawfulGroups (loaded l)

-- an entry's member is what an archive of this item takes next
abbrev pub is_next_of : Plan → List LoadedObject → ℕ → IndexEntry → Bool
is_next_of plan objects item e = needed plan objects e.name && not (is_taken objects item e.offset)

-- what is loaded and asked for later stands behind what is loaded and asked for now
pub record IsLater {N : Type 0} (now later : Loader N) : Type 0 where
  pub plan : later.plan.now ≡ now.plan.now
  pub objects : (more : List LoadedObject) × (loaded later ≡ loaded now ++ more)
  pub requested : Begins now.names.requested later.names.requested
