-- The items of a group, where they stand side by side.
use Rattle.std.specs.Prelude.{ℕ, ◌==◌, Bool, false}
use Rattle.std.specs.Option.{option_map_or}
use Rattle.elf_model.specs.Link.Loading.{group_of}
use Rattle.elf_model.specs.Inputs.Opening.{Opened}

-- an item is an archive of the group
abbrev pub in_group : ℕ → Opened → Bool
in_group g o = option_map_or (λ h. h == g) (group_of o) false
