-- Fields inside their sections, unless these are left out.
use Rattle.std.specs.Prelude.{◌≡◌, List, not, true}
use Rattle.elf_model.specs.Link.Relocation.{Relocation}
use Rattle.elf_model.specs.declared.link_map.DropLine.{DropLine}
use Rattle.judge_model.specs.Certificates.{is_left_out}
use Rattle.judge_model.specs.Fields.{IsInside}

pub record IsInsideUnlessOut (drops : List DropLine) (r : Relocation) : Type 0 where
  pub inside : not (is_left_out drops r.object r.section) ≡ true → IsInside r
