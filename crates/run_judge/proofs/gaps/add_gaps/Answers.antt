use Rattle.std.proofs.Common.{◌+◌, ◌⊎◌, drop, arith}
use Rattle.std.specs.Prelude.{Any}
use Rattle.std.proofs.lemmas.List.{drop_all}
use Rattle.elf_model.specs.Link.Placement.{Covers}
use Rattle.link_fields.proofs.SlotSteps.{seen_all, seen_more}
use Rattle.run_judge.specs.Clear.{IsInGap}
use Rattle.elf_model.proofs.Rests.{rest_at}
use Rattle.run_judge.proofs.gaps.add_gaps.Goals as goal

pub loop-pair-preserved : goal.loop-pair-preserved
loop-pair-preserved c = λ a.
    let pairs = c.args.pairs.now in
    let i = c.loop-pair.pair-index in
    seen_more (IsInGap a) (Any (λ t. Covers t a) c.loop-pair.things.items) (Any (λ t. Covers t a) c.add_gap.new.things.items)
    (Any (λ t. Covers t a) c.args.things.now.items ⊎ Any (IsInGap a) pairs) _ _ (drop i pairs) (drop (i + 1) pairs)
    (rest_at pairs i _ c.loop-pair-test.true) (c.in_ok-add_gap.ensures a) (λ h. h, λ h. h) (c.loop-pair.invariant a)

pub returns : goal.returns
returns c = λ a.
    let pairs = c.args.pairs.now in
    let now = Any (λ t. Covers t a) c.loop-pair.things.items in
    seen_all (IsInGap a) now now (Any (λ t. Covers t a) c.args.things.now.items ⊎ Any (IsInGap a) pairs) (drop c.loop-pair.pair-index pairs)
    (drop_all c.loop-pair.pair-index pairs (omega (arith, c.loop-pair-test.false))) (c.loop-pair.invariant a)
