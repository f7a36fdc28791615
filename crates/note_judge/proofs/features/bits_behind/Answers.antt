use Rattle.std.proofs.Common.{ℕ, ◌+◌, ◌-◌, ◌*◌, ◌/◌, ◌∙◌, ap, arith, drop, sym}
use Rattle.judge_model.specs.Notes as spec
use Rattle.note_judge.proofs.Bits.{bits_found, bits_next}
use Rattle.note_judge.proofs.features.bits_behind.Goals as goal

pub returns-then-four_at-eq-FEATURE_1_AND-clause-exact : goal.returns-then-four_at-eq-FEATURE_1_AND-clause-exact
returns-then-four_at-eq-FEATURE_1_AND-clause-exact c =
    let test = c.loop-test.true in
    let long = c.if-rest-lt8.false in
    c.four_at-then-four_at-eq-FEATURE_1_AND.ensures.exact
    ∙ sym (bits_found (c.args.most - c.loop.counter) c.loop.rest.now (omega (arith, test)) long (sym c.four_at.ensures.exact ∙ c.if-four_at-eq-FEATURE_1_AND.true))
    ∙ sym c.loop.invariant

pub loop-preserved : goal.loop-preserved
loop-preserved c =
    let test = c.loop-test.true in
    let long = c.if-rest-lt8.false in
    c.loop.invariant
    ∙ bits_next (c.args.most - c.loop.counter) (c.args.most - (c.loop.counter + 1)) c.loop.rest.now (omega (arith, test)) long
    (λ is. c.if-four_at-eq-FEATURE_1_AND.false (c.four_at.ensures.exact ∙ is))
    ∙ ap (λ (n : ℕ). spec.bits_behind (c.args.most - (c.loop.counter + 1)) (drop ((8 + n + 7) / 8 * 8) c.loop.rest.now)) (sym c.four_at-in-loop.ensures.exact)
    ∙ ap (spec.bits_behind (c.args.most - (c.loop.counter + 1))) (sym c.behind-rest.ensures)
