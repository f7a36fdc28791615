-- Lines of merged strings and constants, by object, section and offset.
use Rattle.std.specs.Prelude.{◌+◌, ◌==◌, ◌&&◌, ◌||◌, ℕ, Bool, nat_le, nat_lt}
use Rattle.judge_model.specs.declared.certificate.MergedLine.{MergedLine}

-- a line ends at or before an offset of a section
abbrev pub ends_before : ℕ → ℕ → ℕ → MergedLine → Bool
ends_before object section offset m =
    nat_lt m.object object
    || (m.object == object && (nat_lt m.section section || (m.section == section && nat_le (m.offset + m.size) offset)))
