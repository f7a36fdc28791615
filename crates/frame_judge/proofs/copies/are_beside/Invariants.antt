use Rattle.std.proofs.Common.{ℕ, drop}
use Rattle.std.specs.Prelude.{◌<◌, ◌≤◌, All}
use Rattle.elf_model.proofs.Rests.{Left}
use Rattle.memory_judge.specs.Rests.{IsBeside}
use Rattle.frame_judge.specs.Copies.{IsApart}
use Rattle.frame_judge.proofs.copies.are_beside.Given as goal

abbrev pub invariant-loop-span : goal.invariant-loop-span
invariant-loop-span l =
    Left ((k : ℕ) → l.from ≤ k → k < l.to → IsBeside l.fields k) (All (IsApart l.from l.to) (drop l.span-index l.span-items))
