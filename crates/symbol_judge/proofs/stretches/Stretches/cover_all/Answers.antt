use Rattle.std.specs.Prelude.{All}
use Rattle.elf_model.proofs.Rests.{all_more}
use Rattle.check_link.specs.Views.{placed_view}
use Rattle.check_link.specs.declared.things.Placed.{Placed}
use Rattle.symbol_judge.specs.Stretches.{IsCovered}
use Rattle.symbol_judge.proofs.stretches.Stretches.cover_all.Goals as goal

pub loop-q-preserved : goal.loop-q-preserved
loop-q-preserved c =
    all_more (All (λ (q : Placed). IsCovered c.args.self.now (placed_view q)) c.args.placed.now)
    (λ (q : Placed). IsCovered c.args.self.now (placed_view q)) c.args.placed.now c.loop-q.q-index _ c.loop-q-test.true
    (c.covers.ensures.0 c.if-not-covers.false) c.loop-q.invariant
