-- What is known where lines of merged strings and constants are judged.
use Rattle.std.specs.Prelude.{◌<◌, ℕ, List, All, Any}
use Rattle.elf_model.specs.Image.MemoryImage.{Encloses, loads}
use Rattle.elf_model.specs.Link.Pieces.{Piece}
use Rattle.judge_model.specs.declared.certificate.StretchLine.{StretchLine}

-- the entries of a section have a size
abbrev pub IsSized : Piece → Type 0
IsSized p = 0 < p.header.sh_entsize

abbrev pub AreSized : List Piece → Type 0
AreSized ps = All IsSized ps

-- each area lies in a segment
abbrev pub AreEnclosed : List ℕ → List StretchLine → Type 0
AreEnclosed image areas = All (λ a. Any (λ h. Encloses h a.address a.size) (loads image)) areas
