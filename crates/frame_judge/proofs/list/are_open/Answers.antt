use Rattle.std.proofs.Common.{List, ℕ, refl, subst, sym, ◌∙◌, arith}
use Rattle.std.specs.Prelude.{All}
use Rattle.std.proofs.lemmas.Bool.{false≢true}
use Rattle.elf_model.proofs.Rests.{all_end, all_more, all_stop}
use Rattle.judge_model.specs.Frames.{IsEnded}
use Rattle.frame_judge.proofs.list.are_open.Goals as goal

pub loop-frames-preserved : goal.loop-frames-preserved
loop-frames-preserved c =
    let P : List ℕ → Type 0 = λ b. ¬ IsEnded b in
    all_more (All P c.args.all.now) P c.args.all.now c.loop-frames.frames-index c.frames-item.result c.loop-frames-test.true
    (subst P c.frames-item.is (λ e. false≢true (sym c.if-is_ended.false ∙ c.is_ended.ensures.1 e))) c.loop-frames.invariant

pub returns-then-is_ended : goal.returns-then-is_ended
returns-then-is_ended c =
    let P : List ℕ → Type 0 = λ b. ¬ IsEnded b in (
      λ e. absurd (false≢true e),
      λ all. absurd
          (all_stop (All P c.args.all.now) P c.args.all.now c.loop-frames.frames-index c.frames-item.result c.loop-frames-test.true
          (λ never. subst P (sym c.frames-item.is) never (c.is_ended.ensures.0 c.if-is_ended.true)) c.loop-frames.invariant all),
    )

pub returns : goal.returns
returns c =
    let P : List ℕ → Type 0 = λ b. ¬ IsEnded b in
    let past = c.loop-frames-test.false in
    (λ e. all_end (All P c.args.all.now) P c.args.all.now c.loop-frames.frames-index (omega (arith, past)) c.loop-frames.invariant, λ all. refl)
