-- The places of names in the indexes of archives, and which of them are woken.
use Rattle.std.specs.Prelude.{◌≡◌, ℕ, Bool, true, false, List, [], ◌≤◌, All, Some, length, map, slice_get, slice_index_or}
use Rattle.std.specs.Global.{Vec}
use Rattle.std.specs.List.{list_any}
use Rattle.elf_model.specs.Inputs.ArchiveFile.{IndexEntry}
use Rattle.elf_model.specs.Inputs.Opening.{Opened, archive_entries}
use Rattle.check_load.specs.Awake.{is_awake, is_place}
use Rattle.check_load.specs.Names.{Names, requests_name}
use Rattle.check_load.specs.NameNumbers.{number_of}
use Rattle.check_load.specs.declared.awake_entries.Awake.{Awake}
use Rattle.check_load.specs.declared.places.NamePlaces.{NamePlaces}

-- lists of places are of names
abbrev pub IsSized : NamePlaces → Type 0
IsSized p = length p.lists.items ≤ length p.names

-- the places at a number
abbrev pub list_at : List (Vec (ℕ × ℕ)) → ℕ → List (ℕ × ℕ)
list_at lists i = slice_index_or (map (λ v. v.items) lists) i []

-- the places of a name
abbrev pub places_in : NamePlaces → List ℕ → List (ℕ × ℕ)
places_in p name = list_at p.lists.items (number_of p.names name)

-- an entry of an item is a place of a name
abbrev pub has_place : NamePlaces → List ℕ → ℕ → ℕ → Bool
has_place names name item entry = list_any (is_place item entry) (places_in names name)

-- entry number q of an archive that is searched
pub record IsEntry (o : Opened) (q : ℕ) (e : IndexEntry) : Type 0 where
  pub archive : o.archive ≡ true
  pub searched : o.whole ≡ false
  pub there : slice_get (archive_entries o.bytes) q ≡ Some e

-- the entries of an archive stand at the places of their names; so do those of all inputs
abbrev pub IsPlaced : NamePlaces → Opened → Type 0
IsPlaced names o = (q : ℕ) (e : IndexEntry) → IsEntry o q e → has_place names e.name o.number q ≡ true

abbrev pub ArePlaced : NamePlaces → List Opened → Type 0
ArePlaced names os = All (IsPlaced names) os

-- an input stands at its number
abbrev pub IsAt : List Opened → Opened → Type 0
IsAt os o = slice_get os o.number ≡ Some o

-- the entries of a name are awake
abbrev pub IsWoken : List Opened → List ℕ → Awake → Type 0
IsWoken os name awake = (o : Opened) (q : ℕ) (e : IndexEntry) → IsAt os o → IsEntry o q e → e.name ≡ name → is_awake awake o.number q ≡ true

-- the entries are awake of which the names are asked for, but weren't before by a test
abbrev pub AreWokenSince : List Opened → (List ℕ → Bool) → Names → Awake → Type 0
AreWokenSince os before names awake =
    (o : Opened) (q : ℕ) (e : IndexEntry) → IsAt os o → IsEntry o q e → before e.name ≡ false → requests_name names e.name ≡ true → is_awake awake o.number q ≡ true

abbrev pub none_asked : List ℕ → Bool
none_asked name = false
