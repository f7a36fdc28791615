-- Which members of which items are noted.
use Rattle.std.specs.Prelude.{ℕ, ◌==◌, ◌&&◌, Bool}
use Rattle.std.specs.List.{list_any}
use Rattle.check_load.specs.declared.taken_members.Taken.{Taken}

unfoldable pub has_member : Taken → ℕ → ℕ → Bool
has_member t item offset = list_any (λ m. item == m.0 && offset == m.1) t.members.keys

unfoldable pub has_item : Taken → ℕ → Bool
has_item t item = list_any (λ i. item == i) t.items.keys
