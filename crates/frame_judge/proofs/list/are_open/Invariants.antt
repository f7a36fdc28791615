use Rattle.std.proofs.Common.{List, ℕ, drop}
use Rattle.std.specs.Prelude.{All}
use Rattle.elf_model.proofs.Rests.{Left}
use Rattle.judge_model.specs.Frames.{IsEnded}
use Rattle.frame_judge.proofs.list.are_open.Given as goal

abbrev pub invariant-loop-frames : goal.invariant-loop-frames
invariant-loop-frames l =
    Left (All (λ (b : List ℕ). ¬ IsEnded b) l.all) (All (λ (b : List ℕ). ¬ IsEnded b) (drop l.frames-index l.all))
