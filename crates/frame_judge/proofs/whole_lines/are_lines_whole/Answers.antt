use Rattle.std.proofs.Common.{refl, sym, ◌∙◌, arith}
use Rattle.std.specs.Prelude.{All}
use Rattle.std.proofs.lemmas.Bool.{false≢true}
use Rattle.elf_model.proofs.Rests.{all_end, all_more, all_stop}
use Rattle.judge_model.specs.Frames.{IsWholeLine}
use Rattle.frame_judge.proofs.whole_lines.are_lines_whole.Goals as goal

pub loop-line-init : goal.loop-line-init
loop-line-init c = (λ all. all, λ all. all)

pub loop-line-preserved : goal.loop-line-preserved
loop-line-preserved c =
    let P = IsWholeLine c.args.framed.now in
    all_more (All P c.args.lines.now) P c.args.lines.now c.loop-line.line-index _ c.loop-line-test.true
    (c.is_line_whole.ensures.0 c.if-not-is_line_whole.false) c.loop-line.invariant

pub returns-then-not-is_line_whole : goal.returns-then-not-is_line_whole
returns-then-not-is_line_whole c =
    let P = IsWholeLine c.args.framed.now in (
      λ e. absurd (false≢true e),
      λ all. absurd
          (all_stop (All P c.args.lines.now) P c.args.lines.now c.loop-line.line-index _ c.loop-line-test.true
          (λ h. false≢true (sym c.if-not-is_line_whole.true ∙ c.is_line_whole.ensures.1 h)) c.loop-line.invariant all),
    )

pub returns : goal.returns
returns c =
    let P = IsWholeLine c.args.framed.now in
    let past = c.loop-line-test.false in
    (λ e. all_end (All P c.args.lines.now) P c.args.lines.now c.loop-line.line-index (omega (arith, past)) c.loop-line.invariant, λ all. refl)
