-- Sections of a link without a script and without --gc-sections: each is left out exactly where no image has it.
use Rattle.std.specs.Prelude.{◌≡◌, Bool, List}
use Rattle.elf_model.specs.Link.Pieces.{Piece, has_flag}
use Rattle.elf_model.specs.declared.link_map.DropLine.{DropLine}
use Rattle.judge_model.specs.Certificates.{is_left_out}
use Rattle.judge_model.specs.Kept.{shf_exclude}

abbrev pub is_excluded : Piece → Bool
is_excluded p = has_flag shf_exclude p.header

pub record IsKeptIn (drops : List DropLine) (p : Piece) : Type 0 where
  pub kept : is_left_out drops p.object p.section ≡ is_excluded p
