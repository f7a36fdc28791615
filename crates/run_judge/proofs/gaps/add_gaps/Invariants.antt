use Rattle.std.proofs.Common.{ℕ, ◌⊎◌, drop}
use Rattle.std.specs.Prelude.{◌↔◌, Any}
use Rattle.elf_model.specs.Link.Placement.{Covers}
use Rattle.run_judge.specs.Clear.{IsInGap}
use Rattle.run_judge.proofs.gaps.add_gaps.Given as goal

abbrev pub invariant-loop-pair : goal.invariant-loop-pair
invariant-loop-pair l =
    (a : ℕ) → (Any (λ t. Covers t a) l.things.items ⊎ Any (IsInGap a) (drop l.pair-index l.pairs))
    ↔ (Any (λ t. Covers t a) l.fn.things.items ⊎ Any (IsInGap a) l.pairs)
