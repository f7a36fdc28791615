-- The order of kept RELA sections: by the sections that they relocate.
use Rattle.std.specs.Prelude.{ℕ, ◌+◌, ◌<◌, ◌≤◌, List, length, slice_index_or}
use Rattle.search.specs.declared.kept_lists.KeptRela.{KeptRela}

abbrev pub target_of : KeptRela → ℕ
target_of k = k.target

-- each relocates the section that the one before relocates, or a later one
abbrev pub IsByNeighbours : List KeptRela → Type 0
IsByNeighbours ks = (k : ℕ) (d : KeptRela) → k + 1 < length ks → target_of (slice_index_or ks k d) ≤ target_of (slice_index_or ks (k + 1) d)
