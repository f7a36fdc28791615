-- The records of the linker's list of call frames.
use Rattle.std.specs.Prelude.{◌+◌, ℕ, List, All, Any, Contains}
use Rattle.elf_model.specs.Link.Pieces.{Piece}
use Rattle.elf_model.specs.Link.Relocation.{Relocation}
use Rattle.judge_model.specs.Frames.{IsCopiedBeside, IsEnded, line_addresses, records_of}
use Rattle.judge_model.specs.declared.certificate.MergedLine.{MergedLine}

-- each has a line, those of sections have their copies where lines say so, and a length of 0 ends the list if one ends a section's
pub record AreRecordsRight (ps : List Piece) (rs : List Relocation) (lines : List MergedLine) (address : ℕ) (list : List ℕ) : Type 0 where
  pub each : All (λ t. Contains (line_addresses lines) (address + t.offset)) (records_of list)
  pub copies : All (IsCopiedBeside lines rs address list) ps
  pub ended : Any (λ p. IsEnded p.bytes) ps → IsEnded list
