use Rattle.std.proofs.Common.{ℕ, [], ◌+◌, ◌≤◌, ◌∙◌, drop, subst, sym, arith}
use Rattle.std.specs.Prelude.{All}
use Rattle.std.proofs.lemmas.Bool.{false≢true}
use Rattle.elf_model.proofs.Rests.{Left}
use Rattle.memory_judge.specs.Spans.{with_span}
use Rattle.gap_judge.specs.Fill.{HoldsFillIn}
use Rattle.gap_judge.specs.Gaps.{gaps}
use Rattle.gap_judge.proofs.FillLaws.{gap_end, gap_more, gap_stop}
use Rattle.gap_judge.proofs.gaps.is_segment_filled.Goals as goal

pub loop-span-preserved : goal.loop-span-preserved
loop-span-preserved c =
    let h = c.args.segment.now in
    let top = h.p_vaddr + h.p_memsz in
    let P = HoldsFillIn c.args.image.now c.args.runs.now h in
    let Q = All P (gaps h.p_vaddr top c.args.spans.now) in
    let rest = drop (c.loop-span.span-index + 1) c.args.spans.now in
    let here =
    subst (λ (n : ℕ). All P (with_span c.loop-span.from n [])) c.min.ensures (c.holds_fill_if_any.ensures.0 c.if-not-holds_fill_if_any.false) in
    let low = c.loop-span.invariant.0 in
    subst (λ (n : ℕ). (h.p_vaddr ≤ n) × Left Q (All P (gaps n top rest))) (sym c.max-from.ensures)
    (omega (arith, low), gap_more Q P c.loop-span.from top c.args.spans.now c.loop-span.span-index _ c.loop-span-test.true c.loop-span.invariant.1 here)

pub returns-then-not-holds_fill_if_any : goal.returns-then-not-holds_fill_if_any
returns-then-not-holds_fill_if_any c =
    let h = c.args.segment.now in
    let top = h.p_vaddr + h.p_memsz in
    let P = HoldsFillIn c.args.image.now c.args.runs.now h in
    let Q = All P (gaps h.p_vaddr top c.args.spans.now) in (
      λ e. absurd (false≢true e),
      λ filled.
          absurd
          (gap_stop Q P c.loop-span.from top c.args.spans.now c.loop-span.span-index _ c.loop-span-test.true c.loop-span.invariant.1
          (λ here.
          false≢true
          (sym c.if-not-holds_fill_if_any.true
          ∙ c.holds_fill_if_any.ensures.1 (subst (λ (n : ℕ). All P (with_span c.loop-span.from n [])) (sym c.min.ensures) here)))
          filled.filled),
    )

pub returns : goal.returns
returns c =
    let h = c.args.segment.now in
    let top = h.p_vaddr + h.p_memsz in
    let P = HoldsFillIn c.args.image.now c.args.runs.now h in
    let Q = All P (gaps h.p_vaddr top c.args.spans.now) in
    let told =
    gap_end Q P c.loop-span.from top c.args.spans.now c.loop-span.span-index c.holds_fill_if_any-2.result (omega (arith, c.loop-span-test.false))
    c.loop-span.invariant.1 c.holds_fill_if_any-2.ensures in
    (λ e. record { filled = told.0 e }, λ filled. told.1 filled.filled)
