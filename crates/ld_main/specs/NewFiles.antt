-- The names of new files.
use Rattle.std.specs.Prelude.{◌≡◌, ◌≤◌, ℕ, List, [], ◌++◌, codes, take}
use Rattle.std.specs.Fmt.{decimal}
use Rattle.std.specs.Option.{unwrap_or}
use Rattle.std.specs.Path.{path_file_name, path_with_file_name}

-- the name of a new file for a file of a name, of which it has the first bytes, by a number
abbrev pub new_name : List ℕ → ℕ → List ℕ
new_name front n = codes "." ++ (front ++ (codes ".ld-" ++ decimal n))

-- a path is that of such a file in the folder of a path; it has at most 200 bytes of the name there
pub record IsBeside (path new : List ℕ) : Type 0 where
  pub number : ℕ
  pub kept : ℕ
  pub short : kept ≤ 200
  pub is : new ≡ path_with_file_name path (new_name (take kept (unwrap_or (path_file_name path) [])) number)
