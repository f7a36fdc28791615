-- Which entries of archives' indexes are awake.
use Rattle.std.specs.Prelude.{ℕ, ◌==◌, ◌&&◌, Bool}
use Rattle.std.specs.BTreeSet.{btree_set_len, contains}
use Rattle.std.specs.Ordering.{nat_cmp, ordering_then}
use Rattle.std.specs.declared.cmp.Ordering.{Ordering}
use Rattle.check_load.specs.declared.awake_entries.Awake.{Awake}

-- an item's number and an entry's are these
abbrev pub is_place : ℕ → ℕ → ℕ × ℕ → Bool
is_place item entry place = place.0 == item && place.1 == entry

-- how an item's number and an entry's compare with others
abbrev pub place_key : ℕ × ℕ → ℕ × ℕ → Ordering
place_key a b = ordering_then (nat_cmp a.0 b.0) (nat_cmp a.1 b.1)

-- an entry of an item is awake
unfoldable pub is_awake : Awake → ℕ → ℕ → Bool
is_awake a item entry = contains place_key a.places (item, entry)

abbrev pub awake_count : Awake → ℕ
awake_count a = btree_set_len a.places
