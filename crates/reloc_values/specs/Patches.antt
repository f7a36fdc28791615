-- Values written over fields: rows of them in the order of their places, and the bytes that they give.
use Rattle.std.specs.Prelude.{ℕ, ◌+◌, ◌-◌, ◌<◌, ◌≤◌, ◌≡◌, ◌&&◌, All, AllPairs, Bool, true, IsPermutation, List, Option, Some, None, find, length, nat_le, nat_lt, slice_index, slice_index_or}
use Rattle.std.specs.List.Sorted.{IsNonDecreasingBy}
use Rattle.byteview.specs.Numbers.{le_bytes}
use Rattle.reloc_values.specs.declared.patch.Patch.{Patch}

-- where a field begins, and where it ends
abbrev pub begin_of : Patch → ℕ
begin_of p = p.at

abbrev pub end_of : Patch → ℕ
end_of p = p.at + p.width

-- a field has a byte, and is no wider than a value
pub record IsNarrow (p : Patch) : Type 0 where
  pub some : 0 < p.width
  pub narrow : p.width ≤ 8

-- byte k of a section lies in the field
abbrev pub covers : ℕ → Patch → Bool
covers k p = nat_le p.at k && nat_lt k (p.at + p.width)

-- no byte lies in both fields
abbrev pub AreDisjoint : Patch → Patch → Type 0
AreDisjoint p q = (k : ℕ) → covers k p ≡ true → covers k q ≡ true → ⊥

-- byte k of a part that begins at byte number from of a section: that of the value whose field has it, or of the part's
-- bytes where none has it
abbrev pub byte_in : ℕ → List ℕ → ℕ → Option Patch → ℕ
byte_in from base k None = slice_index base k
byte_in from base k (Some p) = slice_index (le_bytes p.width p.value) (from + k - p.at)

abbrev pub patched_byte : ℕ → List ℕ → List Patch → ℕ → ℕ
patched_byte from base ps k = byte_in from base k (find (covers (from + k)) ps)

-- each field begins where the one before begins, or after
abbrev pub IsOrdered : List Patch → Type 0
IsOrdered ps = (k : ℕ) (d : Patch) → k + 1 < length ps → begin_of (slice_index_or ps k d) ≤ begin_of (slice_index_or ps (k + 1) d)

-- a row of patches: these, in the order of their places
pub record IsPatchRow (patches row : List Patch) : Type 0 where
  pub same : IsPermutation patches row
  pub ordered : IsNonDecreasingBy begin_of row

-- fields with bytes that are apart, in their order
pub record IsRising (row : List Patch) : Type 0 where
  pub narrow : All IsNarrow row
  pub apart : AllPairs AreDisjoint row
  pub begins : IsNonDecreasingBy begin_of row
  pub ends : IsNonDecreasingBy end_of row
