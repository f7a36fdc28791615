-- Files by their names.
use Rattle.std.specs.Prelude.{◌≡◌, ℕ, List, Option, option_copied}
use Rattle.std.specs.Borrow.{Bor}
use Rattle.std.specs.BTreeMap.{BTreeMap, get_by}
use Rattle.std.specs.Cmp.Lexicographic.{slice_cmp}
use Rattle.std.specs.Ordering.{nat_cmp}
use Rattle.elf_model.specs.Inputs.Files.{File}
use Rattle.elf_model.specs.Inputs.Opening.{file_named}

-- the bytes that an index has for a name
abbrev pub found : BTreeMap (Bor (List ℕ)) (Bor (List ℕ)) → List ℕ → Option (List ℕ)
found index name = option_copied (get_by (λ k. slice_cmp nat_cmp name k.now) index)

-- an index has for each name the bytes of the first file of that name
abbrev pub IsIndex : List File → BTreeMap (Bor (List ℕ)) (Bor (List ℕ)) → Type 0
IsIndex files index = (name : List ℕ) → found index name ≡ file_named files name
