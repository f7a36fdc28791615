use Rattle.std.specs.Prelude.{All}
use Rattle.elf_model.proofs.Rests.{all_more}
use Rattle.run_judge.specs.Clear.{IsGapClear}
use Rattle.run_judge.proofs.clear.are_gaps_clear.Goals as goal

pub loop-pair-preserved : goal.loop-pair-preserved
loop-pair-preserved c =
    all_more (All (IsGapClear c.args.stretches.now) c.args.pairs.now) (IsGapClear c.args.stretches.now) c.args.pairs.now c.loop-pair.pair-index _
    c.loop-pair-test.true (c.is_gap_clear.ensures.0 c.if-not-is_gap_clear.false) c.loop-pair.invariant
