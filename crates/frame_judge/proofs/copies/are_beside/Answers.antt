use Rattle.std.proofs.Common.{ℕ, refl, sym, ◌∙◌, arith}
use Rattle.std.specs.Prelude.{◌<◌, ◌≤◌, All}
use Rattle.std.proofs.lemmas.Bool.{false≢true}
use Rattle.elf_model.proofs.Rests.{all_end, all_more, all_stop}
use Rattle.memory_judge.specs.Rests.{IsBeside}
use Rattle.frame_judge.specs.Copies.{IsApart}
use Rattle.frame_judge.proofs.copies.are_beside.Goals as goal

pub loop-span-init : goal.loop-span-init
loop-span-init c =
    let same = c.near-span-items.ensures.same in (
      λ beside i d low k from to. (same k from to).1 (beside k from to) i d low,
      λ apart k from to. (same k from to).0 (λ i d low. apart i d low k from to),
    )

pub loop-span-preserved : goal.loop-span-preserved
loop-span-preserved c =
    let P = IsApart c.args.from c.args.to in
    all_more ((k : ℕ) → c.args.from ≤ k → k < c.args.to → IsBeside c.args.fields.now k) P c.near-span-items.result.now c.loop-span.span-index _ c.loop-span-test.true
    (c.is_apart.ensures.0 c.if-not-is_apart.false) c.loop-span.invariant

pub returns-then-not-is_apart : goal.returns-then-not-is_apart
returns-then-not-is_apart c =
    let P = IsApart c.args.from c.args.to in (
      λ e. absurd (false≢true e),
      λ all. absurd
          (all_stop ((k : ℕ) → c.args.from ≤ k → k < c.args.to → IsBeside c.args.fields.now k) P c.near-span-items.result.now c.loop-span.span-index _ c.loop-span-test.true
          (λ h. false≢true (sym c.if-not-is_apart.true ∙ c.is_apart.ensures.1 h)) c.loop-span.invariant all),
    )

pub returns : goal.returns
returns c =
    let P = IsApart c.args.from c.args.to in
    let past = c.loop-span-test.false in
    (λ e. all_end ((k : ℕ) → c.args.from ≤ k → k < c.args.to → IsBeside c.args.fields.now k) P c.near-span-items.result.now c.loop-span.span-index (omega (arith, past)) c.loop-span.invariant, λ all. refl)
