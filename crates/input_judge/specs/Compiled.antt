-- Names of sections for link-time optimization.
use Rattle.std.specs.Prelude.{Bool, List, codes, nat_eq, ℕ}
use Rattle.std.specs.List.{starts_with}

abbrev pub is_lto_name : List ℕ → Bool
is_lto_name name = starts_with nat_eq name (codes ".gnu.lto_")
