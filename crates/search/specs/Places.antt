-- Places in the indexes of the archives of a group: which of them wait, and which are those of a name.
use Rattle.std.specs.Prelude.{◌≡◌, ℕ, ◌==◌, ◌&&◌, Bool, true, false, List, [], Some, option_map, slice_get, unwrap_or}
use Rattle.std.specs.BTreeSet.{btree_set_len, contains}
use Rattle.std.specs.Global.{Vec}
use Rattle.std.specs.List.{list_any}
use Rattle.std.specs.Map.{lookup}
use Rattle.std.specs.Ordering.{nat_cmp, ordering_then}
use Rattle.std.specs.Str.{bytes_eq}
use Rattle.std.specs.declared.cmp.Ordering.{Ordering}
use Rattle.elf_model.specs.Inputs.ArchiveFile.{IndexEntry}
use Rattle.elf_model.specs.Inputs.Opening.{Opened, archive_entries}
use Rattle.elf_model.specs.declared.name.Name.{Name}
use Rattle.search.specs.declared.waiting_places.WaitingPlaces.{WaitingPlaces}

-- a place is entry number q of the index of archive number k
abbrev pub is_place : ℕ → ℕ → ℕ × ℕ → Bool
is_place k q place = place.0 == k && place.1 == q

-- how two places compare, as a round comes to them
abbrev pub place_order : ℕ × ℕ → ℕ × ℕ → Ordering
place_order a b = ordering_then (nat_cmp a.0 b.0) (nat_cmp a.1 b.1)

unfoldable pub is_waiting : WaitingPlaces → ℕ → ℕ → Bool
is_waiting w k q = contains place_order w.places (k, q)

abbrev pub waiting_count : WaitingPlaces → ℕ
waiting_count w = btree_set_len w.places

-- names with their places
abbrev pub PlaceMap : Type 0
PlaceMap = List (Name × Vec (ℕ × ℕ))

abbrev pub places_in : PlaceMap → List ℕ → List (ℕ × ℕ)
places_in names name = unwrap_or (option_map (λ v. v.items) (lookup (λ n. bytes_eq name n.0.now) names)) []

-- one of a name's places is entry number q of archive number k
abbrev pub has_place : PlaceMap → List ℕ → ℕ → ℕ → Bool
has_place names name k q = list_any (is_place k q) (places_in names name)

-- the entries of an archive that is searched have their places among those of their names; so have those of a group
abbrev pub IsPlaced : PlaceMap → ℕ → Opened → Type 0
IsPlaced names k o =
    o.whole ≡ false → (q : ℕ) (e : IndexEntry) → slice_get (archive_entries o.bytes) q ≡ Some e → has_place names e.name k q ≡ true

abbrev pub ArePlaced : PlaceMap → List Opened → Type 0
ArePlaced names os = (k : ℕ) (o : Opened) → slice_get os k ≡ Some o → IsPlaced names k o
