use Rattle.std.proofs.Common.{◌≤◌, arith}
use Rattle.std.specs.Prelude.{All}
use Rattle.elf_model.proofs.Rests.{all_end, all_more}
use Rattle.memory_judge.specs.Spans.{far}
use Rattle.run_judge.specs.Clear.{gap_to}
use Rattle.run_judge.specs.declared.pairs.RunPair.{RunPair}
use Rattle.run_judge.proofs.gaps.are_low.Goals as goal

pub loop-pair-preserved : goal.loop-pair-preserved
loop-pair-preserved c =
    all_more (All (λ (n : RunPair). gap_to n ≤ far) c.args.pairs.now) (λ (n : RunPair). gap_to n ≤ far) c.args.pairs.now c.loop-pair.pair-index _
    c.loop-pair-test.true c.is_low.ensures c.loop-pair.invariant

pub returns : goal.returns
returns c =
    all_end (All (λ (n : RunPair). gap_to n ≤ far) c.args.pairs.now) (λ (n : RunPair). gap_to n ≤ far) c.args.pairs.now c.loop-pair.pair-index
    (omega (arith, c.loop-pair-test.false)) c.loop-pair.invariant
