use Rattle.std.proofs.Common.{◌≡◌, ◌∙◌, List, ℕ, subst}
use Rattle.std.proofs.lemmas.Result.{IfOk-weaker}
use Rattle.elf_model.specs.Image.RightLink.{IsRightLink}
use Rattle.elf_model.specs.Inputs.Files.{File, files_of, words_of}
use Rattle.opening.specs.Held.{held_files}
use Rattle.unread_law.proofs.PartLinks.{right_of_all}
use Rattle.unread_law.specs.PartFiles.{AreFilesOf}
use Rattle.debug_image.specs.PlainImages.{plain_of}
use Rattle.debug_main.specs.Verdicts.{TellsTables}
use Rattle.debug_main.specs.declared.verdict.DebugVerdict.TheVariants.{Yes}
use Rattle.debug_main.proofs.checking.judged.Goals as goal

pub returns-clause-all : goal.returns-clause-all
returns-clause-all c =
    let words = words_of c.args.words.now in
    let right = c.in_ok-clause.ensures.yes.0 c.in_default.is in
    IfOk-weaker c.tables_judged.result (TellsTables (held_files c.args.parts.now c.args.files.now) words c.args.wanted c.args.image.now)
    (λ v. v ≡ Yes → (whole : List File) → AreFilesOf (record { parts = c.args.parts.now; wholes = files_of c.args.files.now }) whole →
    IsRightLink whole words (plain_of c.args.image.now) c.args.map.now)
    (λ v told is whole of.
    subst (λ (image : List ℕ). IsRightLink whole words image c.args.map.now) (c.deref.ensures.value ∙ c.in_ok-plain.ensures)
    (right_of_all (record { parts = c.args.parts.now; wholes = files_of c.args.files.now }) whole words c.deref.result.now c.args.map.now right.plan
    right.read.plan (c.requires.searched right.plan right.read.plan) of right))
    c.tables_judged.ensures
