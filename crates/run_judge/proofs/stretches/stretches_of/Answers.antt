use Rattle.std.proofs.Common.{rules}
use Rattle.std.proofs.lemmas.List.Sorted.{IsNonDecreasingBy-from_sort_by_key}
use Rattle.check_link.specs.Views.{placed_views}
use Rattle.run_judge.specs.Clear.{IsBesideGap, IsBesideIfStrange, Misses}
use Rattle.run_judge.specs.declared.stretches.Stretch.{Stretch}
use Rattle.run_judge.proofs.Stretching.{stretched}
use Rattle.run_judge.proofs.stretches.stretches_of.Goals as goal

pub returns-clause-told : goal.returns-clause-told
returns-clause-told c = record {
  told = λ name from to some low.
      stretched (Misses name from to) (IsBesideGap from to) (IsBesideIfStrange name from to) c.new-stretches.result.items
      c.add_made.new.stretches.items c.add_placed.new.stretches.items c.sort_by_key.new.self.items c.args.made.now (placed_views c.args.placed.now)
      c.new-stretches.ensures.items c.in_ok-sort_by_key.ensures.permutation (c.in_ok-add_made.ensures name from to some low)
      (c.in_ok-add_placed.ensures name from to some low);
}

pub returns-clause-rising : goal.returns-clause-rising
returns-clause-rising c =
    IsNonDecreasingBy-from_sort_by_key (λ (s : Stretch). s.from) c.sort_by_key.new.self.items c.in_ok-sort_by_key.ensures.sorted
    (λ a r q k. search rules)
