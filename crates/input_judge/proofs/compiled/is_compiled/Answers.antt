use Rattle.std.proofs.Common.{◌<◌, ℕ, ap, length, subst, sym, ◌∙◌}
use Rattle.std.proofs.lemmas.Bool.{false≢true}
use Rattle.check_load.specs.Views.{loaded_view}
use Rattle.elf_model.specs.Inputs.ObjectFile.{null_section, sections}
use Rattle.judge_model.specs.RightForeign.{is_lto}
use Rattle.input_judge.proofs.CompiledLaws.{lto_more, lto_stop}
use Rattle.input_judge.proofs.compiled.is_compiled.Goals as goal

pub returns-then-is_lto_section : goal.returns-then-is_lto_section
returns-then-is_lto_section c =
    let bytes = c.args.loaded.now.object in
    let low : c.loop-section.section < length (sections bytes) =
    subst (λ (n : ℕ). c.loop-section.section < n) (c.len-section-end.ensures ∙ ap length c.sections.ensures) c.loop-section-test.true in
    let there =
    lto_stop bytes c.loop-section.section null_section low (is_lto (loaded_view c.args.loaded.now)) c.loop-section.invariant
    (sym c.is_lto_section.ensures ∙ c.if-is_lto_section.true) in
    (λ t. absurd (false≢true t), λ none. absurd (false≢true (sym none ∙ there)))

pub loop-section-preserved : goal.loop-section-preserved
loop-section-preserved c =
    let bytes = c.args.loaded.now.object in
    let low : c.loop-section.section < length (sections bytes) =
    subst (λ (n : ℕ). c.loop-section.section < n) (c.len-section-end.ensures ∙ ap length c.sections.ensures) c.loop-section-test.true in
    lto_more bytes c.loop-section.section null_section low (is_lto (loaded_view c.args.loaded.now)) c.loop-section.invariant
    (sym c.is_lto_section.ensures ∙ c.if-is_lto_section.false)
