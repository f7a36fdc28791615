-- Numbered sections of arrays of functions among pieces.
use Rattle.std.specs.Prelude.{Bool}
use Rattle.elf_model.specs.Link.ArrayOrder.{is_numbered}
use Rattle.elf_model.specs.Link.Pieces.{Piece}

-- a piece has a number by its name
abbrev pub has_number : Piece → Bool
has_number p = is_numbered p.name
