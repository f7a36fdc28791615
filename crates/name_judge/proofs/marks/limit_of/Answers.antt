use Rattle.std.proofs.Common.{arith, subst, sym}
use Rattle.std.specs.Prelude.{All, length}
use Rattle.std.proofs.lemmas.List.Elements.{All-weaker}
use Rattle.elf_model.specs.Image.MemoryImage.{loads}
use Rattle.judge_model.specs.Headers.{IsLoad}
use Rattle.name_judge.specs.Clear.{IsLowEnd}
use Rattle.name_judge.proofs.marks.limit_of.Goals as goal

pub end_of_memory-requires : goal.end_of_memory-requires
end_of_memory-requires c =
    subst (All IsLowEnd) (sym c.segments.ensures)
    (All-weaker (IsLoad (length c.args.image.now)) IsLowEnd (λ h good. let low = good.low in record { low = omega (arith, low) })
    (loads c.args.image.now) c.image-program.ensures.program.loads_are.each)
