-- Lines of sections that are left out, by object and section.
use Rattle.std.specs.Prelude.{◌==◌, ◌&&◌, ◌||◌, ℕ, Bool, nat_lt}
use Rattle.elf_model.specs.declared.link_map.DropLine.{DropLine}

-- a line is of a section before one; it is this one's
abbrev pub is_before : ℕ → ℕ → DropLine → Bool
is_before object section d = nat_lt d.object object || (d.object == object && nat_lt d.section section)

abbrev pub is_of : ℕ → ℕ → DropLine → Bool
is_of object section d = d.object == object && d.section == section
