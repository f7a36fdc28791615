use Rattle.std.proofs.Common.{◌≤◌, ◌<◌, ◌∙◌, ap, arith, drop, subst, sym}
use Rattle.std.specs.Prelude.{All, Contains}
use Rattle.elf_model.specs.declared.thing.Thing.{Thing}
use Rattle.checker.proofs.PartsOfLists.{stretch_keeps, stretch_there}
use Rattle.checker.proofs.c11_fill.stretches.begun_between.Goals as goal

pub returns-clause-there : goal.returns-clause-there
returns-clause-there c =
    subst (All (Contains c.args.sorted.now)) (sym (c.split_at-2.ensures.back ∙ ap (drop c.count_below-2.result) c.split_at.ensures.front))
    (stretch_there c.args.sorted.now c.count_below-2.result c.count_below.result)

pub returns-clause-all : goal.returns-clause-all
returns-clause-all c = λ k d within from to.
    stretch_keeps (λ (t : Thing). t.at < c.args.from) (λ (t : Thing). c.args.to ≤ t.at) c.args.sorted.now c.split_at.result.0.now
    c.split_at-2.result.1.now c.count_below-2.result c.count_below.result c.split_at.ensures.front c.split_at-2.ensures.back
    c.count_below-2.ensures.below c.count_below.ensures.above k d within (λ early. omega (arith, early, from)) (λ late. omega (arith, late, to))
