-- What a name means can be spelled in the own map: the line of its definition, and of a common block its own.
use Rattle.std.specs.Prelude.{All}
use Rattle.elf_model.specs.Image.MapText.{FitsCommon, FitsSymbol}
use Rattle.elf_model.specs.Link.Meaning.{Meaning}
use Rattle.elf_model.specs.Own.OwnLayout.{own_where}
use Rattle.elf_model.specs.Image.RightLink.{symbol_row_of}
use Rattle.layout.specs.Placements.{Basis}
use Rattle.image_write.specs.CommonRows.{common_rows_of}

pub record FitsLines (b : Basis) (m : Meaning) : Type 0 where
  pub symbol : FitsSymbol (symbol_row_of (own_where b.base b.objects) m)
  pub commons : All FitsCommon (common_rows_of b.base b.objects m)
