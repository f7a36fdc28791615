use Rattle.std.proofs.Common.{◌≡◌, ◌∙◌, ℕ, List, ap, arith}
use Rattle.elf_model.specs.Inputs.Files.{File}
use Rattle.ld_main.specs.Program.{HasRightLink}
use Rattle.ld_main.specs.Tasks.{is_check}
use Rattle.debug_image.specs.PlainImages.{plain_of}
use Rattle.debug_image.specs.declared.debug_file.Wanted.{Wanted}
use Rattle.debug_main.specs.Verdicts.{Says, verdict_status}
use Rattle.debug_main.specs.declared.verdict.DebugVerdict.{DebugVerdict}
use Rattle.debug_main.specs.declared.verdict.DebugVerdict.TheVariants as verdict
use Rattle.debug_main.proofs.program.run.Goals as goal

-- a check with status 0 is of a right link
right_of :
    (files : List File) (words : List (List ℕ)) (w : Wanted) (image text : List ℕ) (v : DebugVerdict) → Says files words w image text v → verdict_status v ≡ 0 →
    HasRightLink words
right_of files words w image text verdict.Yes says status = (files, (plain_of image, text, says.0))
right_of files words w image text (verdict.No c) says status = absurd (omega (arith, status))
right_of files words w image text (verdict.NoTables d) says status = absurd (omega (arith, status))

pub returns-in_ok-verdict-in-Check-clause-right : goal.returns-in_ok-verdict-in-Check-clause-right
returns-in_ok-verdict-in-Check-clause-right g c = λ status.
    let judged = c.in_ok-verdict-in-Check.ensures.judged in
    right_of judged.0 _ c.args.wanted judged.1.0 judged.1.1 c.in_ok-verdict-in-Check.verdict judged.1.2 status

pub returns-in_ok-verdict-in-Check-clause-mode : goal.returns-in_ok-verdict-in-Check-clause-mode
returns-in_ok-verdict-in-Check-clause-mode g c plan is = c.in_ok-task.ensures.mode plan is ∙ ap is_check c.in-Check.is
