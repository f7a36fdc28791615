-- Which places in the indexes of a group's archives may give a member, as a loader keeps them.
use Rattle.std.specs.Prelude.{◌≡◌, ◌⊎◌, ℕ, ◌≤◌, ◌<◌, true, false, List, [], Some, drop, length, slice_get}
use Rattle.elf_model.specs.Inputs.ArchiveFile.{IndexEntry}
use Rattle.elf_model.specs.Link.Loading.{LoadedObject, is_begun, turn}
use Rattle.elf_model.specs.Inputs.Opening.{Opened, archive_entries, archive_members}
use Rattle.search.specs.Loaders.{is_next_of, loaded}
use Rattle.search.specs.Names.{is_among}
use Rattle.search.specs.Places.{ArePlaced, is_waiting}
use Rattle.search.specs.declared.loader.Loader.{Loader}
use Rattle.search.specs.declared.waiting_places.WaitingPlaces.{WaitingPlaces}
use Rattle.search.specs.declared.waits.Waits.{Waits}

-- a whole archive gives no more: it is loaded, or has no members
abbrev pub IsSpent : List LoadedObject → Opened → Type 0
IsSpent objects o = (is_begun objects o.number ≡ true) ⊎ (archive_members o.bytes ≡ [])

-- each entry of archive number k that gives a next member waits
abbrev pub NextWait : {T : Type 0} → Loader T → ℕ → List IndexEntry → ℕ → WaitingPlaces → Type 0
NextWait l item es k w =
    (q : ℕ) (e : IndexEntry) → slice_get es q ≡ Some e → is_next_of l.plan.now (loaded l) item e ≡ true → is_waiting w k q ≡ true

-- what archive number k may give waits: the entries of a searched one, but for those of names that are still to be
-- looked at, and place 0 of a whole one
pub record Awaits {T : Type 0} (l : Loader T) (names : List (List ℕ)) (k : ℕ) (o : Opened) (w : WaitingPlaces) : Type 0 where
  pub searched : o.whole ≡ false → (q : ℕ) (e : IndexEntry) → slice_get (archive_entries o.bytes) q ≡ Some e →
      is_next_of l.plan.now (loaded l) o.number e ≡ true → (is_waiting w k q ≡ true) ⊎ (is_among names e.name ≡ true)
  pub taken_whole : o.whole ≡ true → (is_waiting w k 0 ≡ true) ⊎ IsSpent (loaded l) o

-- so it is of each archive of a group
abbrev pub AllAwait : {T : Type 0} → Loader T → List (List ℕ) → List Opened → WaitingPlaces → Type 0
AllAwait l names os w = (k : ℕ) (o : Opened) → slice_get os k ≡ Some o → Awaits l names k o w

-- the names that are asked for, but for the first ones, are still to be looked at
pub record Covers {T : Type 0} (l : Loader T) (os : List Opened) (w : Waits) : Type 0 where
  pub placed : ArePlaced w.places.entries os
  pub seen_names : w.seen ≤ length l.names.requested
  pub awaited : AllAwait l (drop w.seen l.names.requested) os w.waiting

-- the archives of a group from one on, up to another, would take nothing
abbrev pub AreIdle : {T : Type 0} → Loader T → List Opened → ℕ → ℕ → Type 0
AreIdle l os from to = (k : ℕ) (o : Opened) → from ≤ k → k < to → slice_get os k ≡ Some o → turn l.plan.now o (loaded l) ≡ loaded l
