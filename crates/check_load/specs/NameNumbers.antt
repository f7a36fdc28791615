-- Names with numbers, from 0 on in the order in which they came, and what stands at these numbers.
use Rattle.std.specs.Prelude.{◌≡◌, ℕ, Bool, cond, List, [], ◌∷◌, ◌++◌, Some, slice_index_or}
use Rattle.std.specs.Borrow.{Bor}
use Rattle.std.specs.BTreeMap.{BTreeMap, get_by}
use Rattle.std.specs.Cmp.Lexicographic.{slice_cmp}
use Rattle.std.specs.List.{list_any, position, position_or_len}
use Rattle.std.specs.Ordering.{nat_cmp}
use Rattle.std.specs.Str.{bytes_eq}

-- a name is among names
abbrev pub is_among : List (List ℕ) → List ℕ → Bool
is_among names name = list_any (bytes_eq name) names

-- names with one more, unless it is there
abbrev pub with_name : List (List ℕ) → List ℕ → List (List ℕ)
with_name names name = cond (is_among names name) names (names ++ name ∷ [])

-- the number of a name: where it is among the names; their count where it isn't
abbrev pub number_of : List (List ℕ) → List ℕ → ℕ
number_of names name = position_or_len (bytes_eq name) names

-- what stands at the number of a name among values, or a value that stands for none
abbrev pub value_of : {X : Type 0} → X → List (List ℕ) → List X → List ℕ → X
value_of none names values name = slice_index_or values (number_of names name) none

-- a number is that of a name that is among names
pub record IsNumberOf (names : List (List ℕ)) (name : List ℕ) (k : ℕ) : Type 0 where
  pub found : position (bytes_eq name) names ≡ Some k

-- the names that are there keep their numbers
pub record KeepNumbers (old new : List (List ℕ)) : Type 0 where
  pub keep : (name : List ℕ) (k : ℕ) → IsNumberOf old name k → IsNumberOf new name k

-- an ordered table has the numbers of names
abbrev pub AreNumbers : List (List ℕ) → BTreeMap (Bor (List ℕ)) ℕ → Type 0
AreNumbers names numbers = (name : List ℕ) → get_by (λ k. slice_cmp nat_cmp name k.now) numbers ≡ position (bytes_eq name) names
