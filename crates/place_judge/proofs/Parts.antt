-- The file parts of a program's segments end where addresses can.
use Rattle.std.proofs.Common.{ℕ, List, arith}
use Rattle.std.specs.Prelude.{All, length}
use Rattle.std.proofs.lemmas.List.Elements.{All-weaker}
use Rattle.elf_model.specs.Image.MemoryImage.{loads}
use Rattle.elf_model.specs.declared.records.ProgramHeader.{ProgramHeader}
use Rattle.judge_model.specs.Headers.{IsLoad, IsProgram}
use Rattle.place_judge.specs.Places.{Fits}

pub parts_fit : (image : List ℕ) → IsProgram image → All Fits (loads image)
parts_fit image program =
    All-weaker (IsLoad (length image)) Fits (λ h good. let low = good.low in let part = good.file_in_memory in omega (arith, low, part)) (loads image)
    program.loads_are.each
