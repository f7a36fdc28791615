-- The order of names, by numbers that are made of their first bytes.
use Rattle.std.specs.Prelude.{◌≡◌, ℕ, zero, suc, ◌+◌, ◌*◌, ◌^◌, ◌-◌, ◌<◌, List, [], ◌∷◌, ◌++◌, Option, None, Some, All, AllPairs, IsPermutation, false, drop, length, map, slice_index_or, take}
use Rattle.std.specs.Cmp.Lexicographic.{slice_cmp}
use Rattle.std.specs.List.{range_with_len}
use Rattle.std.specs.List.Sorted.{IsSortedByKey}
use Rattle.std.specs.Ordering.{is_lt, nat_cmp}
use Rattle.resolve.specs.Chosen.{defined_in}
use Rattle.linker.specs.declared.name_order.Keyed.{Keyed}
use Rattle.linker.specs.declared.name_order.Names.{Names}

-- the names, each at its position
abbrev pub held_names : Names → List (List ℕ)
held_names n = map (λ s. s.name) (defined_in n.symbols) ++ map (λ l. l.0.now) n.linkers.now

abbrev pub name_of : Names → ℕ → List ℕ
name_of n position = slice_index_or (held_names n) position []

-- a byte as a digit of a number to the base of 257, so that no byte at all is less than each byte
abbrev pub digit : Option ℕ → ℕ
digit None = 0
digit (Some byte) = byte + 1

-- the first n bytes as a number
unfoldable pub key_with : ℕ → List ℕ → ℕ
key_with zero bytes = 0
key_with (suc n) [] = 0
key_with (suc n) (byte ∷ bytes) = (byte + 1) * 257 ^ n + key_with n bytes

abbrev pub name_key : List ℕ → ℕ
name_key bytes = key_with 7 bytes

-- the bytes of a name from an offset on
abbrev pub behind_of : Names → ℕ → Keyed → List ℕ
behind_of n offset k = drop offset (name_of n k.position)

abbrev pub positions : List Keyed → List ℕ
positions ks = map (λ k. k.position) ks

-- the bytes of a name from an offset on begin with a text
abbrev pub IsBegun : Names → ℕ → List ℕ → Keyed → Type 0
IsBegun n offset front k = take (length front) (behind_of n offset k) ≡ front

-- the number of a name is made of its bytes from an offset on
pub record IsKeyed (n : Names) (offset : ℕ) (k : Keyed) : Type 0 where
  pub key : k.key ≡ name_key (behind_of n offset k)
  pub bytes : All (λ b. b < 256) (behind_of n offset k)

abbrev pub run_in : ℕ → ℕ → List Keyed → List Keyed
run_in from to ks = take (to - from) (drop from ks)

abbrev pub key_at : List Keyed → ℕ → ℕ
key_at ks i = (slice_index_or ks i (record { key = 0; position = 0 })).key

-- two names are in the order of what is behind an offset; so are all of some
abbrev pub IsOrderBehind : Names → ℕ → ℕ → ℕ → Type 0
IsOrderBehind n offset i j = slice_cmp nat_cmp (drop offset (name_of n i)) (drop offset (name_of n j)) ≡ slice_cmp nat_cmp (name_of n i) (name_of n j)

abbrev pub AreAlike : Names → ℕ → List ℕ → Type 0
AreAlike n offset ps = All (λ i. All (IsOrderBehind n offset i) ps) ps

-- a name isn't after another one; so it is of each and all later ones
abbrev pub IsNotAfter : Names → ℕ → ℕ → Type 0
IsNotAfter n i j = is_lt (slice_cmp nat_cmp (name_of n j) (name_of n i)) ≡ false

abbrev pub IsInOrder : Names → List Keyed → Type 0
IsInOrder n ks = AllPairs (λ j k. IsNotAfter n j.position k.position) ks

pub record IsSortedRun (n : Names) (old new : List Keyed) : Type 0 where
  pub moved : IsPermutation (positions old) (positions new)
  pub rising : IsInOrder n new

-- all positions of names in the order of the names
pub record IsOrderOf (names : List (List ℕ)) (ks : List Keyed) : Type 0 where
  pub positions : IsPermutation (range_with_len 0 (length names)) (map (λ k. k.position) ks)
  pub rising : IsSortedByKey (λ k. slice_index_or names k.position []) (slice_cmp nat_cmp) ks
