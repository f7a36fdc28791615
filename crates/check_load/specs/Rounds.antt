-- The archives of a group between two turns: which of them would take nothing.
use Rattle.std.specs.Prelude.{◌≡◌, ◌⊎◌, ℕ, ◌+◌, ◌≤◌, ◌<◌, true, false, List, [], Some, slice_get}
use Rattle.elf_model.specs.Link.Loading.{LoadedObject, is_begun}
use Rattle.elf_model.specs.Inputs.Opening.{Opened, archive_members}
use Rattle.check_load.specs.Awake.{is_awake}
use Rattle.check_load.specs.declared.loader.Loader.{Loader}

-- the numbers of inputs follow each other
abbrev pub AreSideBySide : List Opened → Type 0
AreSideBySide inputs = (i j : ℕ) (o p : Opened) → slice_get inputs i ≡ Some o → slice_get inputs j ≡ Some p → o.number + j ≡ p.number + i

-- no entry is awake of inputs from one on, up to another
abbrev pub AreAsleep : Loader → List Opened → ℕ → ℕ → Type 0
AreAsleep l inputs from to = (k q : ℕ) (o : Opened) → from ≤ k → k < to → slice_get inputs k ≡ Some o → is_awake l.awake o.number q ≡ false

-- a whole archive gives no more: it is loaded, or has no members; so it is of those among inputs that are whole
abbrev pub IsSpent : List LoadedObject → Opened → Type 0
IsSpent objects o = (is_begun objects o.number ≡ true) ⊎ (archive_members o.bytes ≡ [])

abbrev pub AreSpent : List LoadedObject → List Opened → Type 0
AreSpent objects inputs = (k : ℕ) (o : Opened) → slice_get inputs k ≡ Some o → o.whole ≡ true → IsSpent objects o
