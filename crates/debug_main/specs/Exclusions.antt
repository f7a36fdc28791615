-- What a check says of an image for tools excludes what it doesn't say.
use Rattle.std.specs.Prelude.{ℕ, List, Option}
use Rattle.elf_model.specs.Inputs.Files.{File}
use Rattle.debug_image.specs.declared.debug_file.Wanted.{Wanted}
use Rattle.debug_main.specs.Verdicts.{IsNone, IsRefused, IsToolImage}
use Rattle.debug_main.specs.declared.verdict.Difference.{Difference}

-- a link that is refused, for another reason than memory, has no image for tools
abbrev pub RefusedExcludesOne : Type 0
RefusedExcludesOne =
    (files : List File) (words : List (List ℕ)) (w : Wanted) (image : List ℕ) → IsRefused files words → IsToolImage files words w image → ⊥

-- an image that is told not to be the one for tools isn't it
abbrev pub NoneExcludesOne : Type 0
NoneExcludesOne =
    (files : List File) (words : List (List ℕ)) (w : Wanted) (image : List ℕ) (d : Option Difference) → IsNone files words w image d →
    IsToolImage files words w image → ⊥
