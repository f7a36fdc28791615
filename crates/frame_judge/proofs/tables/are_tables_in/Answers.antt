use Rattle.std.proofs.Common.{◌≡◌, true, refl, sym, ◌∙◌, arith}
use Rattle.std.specs.Prelude.{All}
use Rattle.std.proofs.lemmas.Bool.{false≢true}
use Rattle.elf_model.proofs.Rests.{all_end, all_more, all_stop}
use Rattle.elf_model.specs.declared.records.ProgramHeader.{ProgramHeader}
use Rattle.judge_model.specs.Headers.{is_of_type, pt_gnu_eh_frame}
use Rattle.frame_judge.specs.Tables.{IsTableIn}
use Rattle.frame_judge.proofs.tables.are_tables_in.Goals as goal

pub loop-h-preserved : goal.loop-h-preserved
loop-h-preserved c =
    let a = c.args in
    let P : ProgramHeader → Type 0 = λ h. is_of_type pt_gnu_eh_frame h ≡ true → IsTableIn a.image.now a.areas.now a.list a.frames.now h in
    all_more (All P a.headers.now) P a.headers.now c.loop-h.h-index _ c.loop-h-test.true
    (c.in_ok-is_right_if_table.ensures.0 c.if-not-branch.false) c.loop-h.invariant

pub returns-then-not-branch : goal.returns-then-not-branch
returns-then-not-branch c =
    let a = c.args in
    let P : ProgramHeader → Type 0 = λ h. is_of_type pt_gnu_eh_frame h ≡ true → IsTableIn a.image.now a.areas.now a.list a.frames.now h in (
      λ e. absurd (false≢true e),
      λ all. absurd
          (all_stop (All P a.headers.now) P a.headers.now c.loop-h.h-index _ c.loop-h-test.true
          (λ h. false≢true (sym c.if-not-branch.true ∙ c.in_ok-is_right_if_table.ensures.1 h)) c.loop-h.invariant all),
    )

pub returns : goal.returns
returns c =
    let a = c.args in
    let P : ProgramHeader → Type 0 = λ h. is_of_type pt_gnu_eh_frame h ≡ true → IsTableIn a.image.now a.areas.now a.list a.frames.now h in
    let past = c.loop-h-test.false in
    (λ e. all_end (All P a.headers.now) P a.headers.now c.loop-h.h-index (omega (arith, past)) c.loop-h.invariant, λ all. refl)
