-- Areas of merged strings and constants.
use Rattle.std.specs.Prelude.{◌+◌, ℕ, Bool, List, Any, nat_le}
use Rattle.elf_model.specs.declared.records.ProgramHeader.{ProgramHeader}
use Rattle.judge_model.specs.Merged.{HoldsArea}
use Rattle.judge_model.specs.declared.certificate.StretchLine.{StretchLine}

-- some segment has an area as it must
pub record IsHeld (anyway : Bool) (hs : List ProgramHeader) (a : StretchLine) : Type 0 where
  pub held : Any (HoldsArea anyway a) hs

-- an area ends at or below an address
abbrev pub ends_by : ℕ → StretchLine → Bool
ends_by at a = nat_le (a.address + a.size) at
