-- Marks at numbers: a truth value for each number below the table's length.
use Rattle.std.specs.Prelude.{ℕ, ◌≡◌, Bool, true, false, List, All, filter, fold, length, slice_index_or, slice_set}
use Rattle.std.specs.List.{range_with_len}

abbrev pub is_marked : List Bool → ℕ → Bool
is_marked marks k = slice_index_or marks k false

-- no number of a list is marked
abbrev pub AreUnmarked : List Bool → List ℕ → Type 0
AreUnmarked marks ks = All (λ k. is_marked marks k ≡ false) ks

-- the marks after those at the numbers of a list are set; numbers past the table have none
abbrev pub marked : List Bool → List ℕ → List Bool
marked marks ks = fold (λ bs k. slice_set bs k true) marks ks

-- the numbers that are marked, ascending
abbrev pub marked_numbers : List Bool → List ℕ
marked_numbers marks = filter (is_marked marks) (range_with_len 0 (length marks))
