use Rattle.std.proofs.Common.{◌∙◌, ap, arith, drop, length, refl, subst, sym, take, take_all}
use Rattle.std.specs.Prelude.{All}
use Rattle.std.proofs.lemmas.List.Elements.{All-more}
use Rattle.linker.specs.NameKeys.{IsBegun}
use Rattle.linker.proofs.Beginnings.{all_cut}
use Rattle.linker.proofs.name_order.common.Goals as goal

pub loop-keyed-preserved : goal.loop-keyed-preserved
loop-keyed-preserved c =
    let n = c.args.names in
    let short = c.shared-front.result.now in
    let before = all_cut n c.args.offset c.loop-keyed.front.now short (take c.loop-keyed.keyed-index c.args.run.now) c.shared-front.ensures.front c.loop-keyed.invariant in
    All-more (IsBegun n c.args.offset short) c.args.run.now c.loop-keyed.keyed-index _ c.loop-keyed-test.true before
    (ap (take (length short)) (sym (c.behind.ensures ∙ ap (drop c.args.offset) c.name_at-in-loop-keyed.ensures)) ∙ c.shared-front.ensures.name)

pub returns-clause-begin : goal.returns-clause-begin
returns-clause-begin c = (
  c.loop-keyed.front.now,
  refl,
  subst (All (IsBegun c.args.names c.args.offset c.loop-keyed.front.now)) (take_all c.loop-keyed.keyed-index c.args.run.now (omega (arith, c.loop-keyed-test.false))) c.loop-keyed.invariant,
)
