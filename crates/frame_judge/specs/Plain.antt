-- Relocations of call frames that can be judged.
use Rattle.std.specs.Prelude.{◌≡◌, true, not, List}
use Rattle.elf_model.specs.Link.Pieces.{Piece}
use Rattle.elf_model.specs.Link.Relocation.{Relocation}
use Rattle.elf_model.specs.declared.link_map.DropLine.{DropLine}
use Rattle.judge_model.specs.Certificates.{is_left_out}
use Rattle.judge_model.specs.Frames.{IsPlain}

-- a relocation can be judged, or its section is left out
pub record IsPlainUnlessOut (ps : List Piece) (drops : List DropLine) (r : Relocation) : Type 0 where
  pub plain : not (is_left_out drops r.object r.section) ≡ true → IsPlain ps r
