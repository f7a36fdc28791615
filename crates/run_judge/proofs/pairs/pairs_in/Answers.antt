use Rattle.check_link.specs.Views.{placed_views}
use Rattle.run_judge.proofs.PairSteps.{pairs_more}
use Rattle.run_judge.proofs.pairs.pairs_in.Goals as goal

pub loop-at-preserved : goal.loop-at-preserved
loop-at-preserved c = record {
  lasts_are = c.in_ok-first.ensures.lasts;
  pairs_are =
      pairs_more (placed_views c.args.ordered.now) c.loop-at.at c.in_ok-first.first c.in_ok-first.ensures.before c.loop-at.pairs.items
      c.add_pair.new.pairs.items c.pair_of.result c.loop-at.invariant.pairs_are c.pair_of.ensures c.in_ok-add_pair.ensures;
}
