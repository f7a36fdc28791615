use Rattle.std.proofs.Common.{◌≡◌, ◌∙◌, Bool, List, true, false, not, ap, refl, sym}
use Rattle.std.specs.List.{list_any}
use Rattle.std.proofs.lemmas.Bool.{false≢true}
use Rattle.elf_model.specs.Image.MemoryImage.{program_headers}
use Rattle.elf_model.specs.declared.records.ProgramHeader.{ProgramHeader}
use Rattle.judge_model.specs.Headers.{has_frame_table, is_of_type, pt_gnu_eh_frame}
use Rattle.link_judge.proofs.Negations.{not_from, not_to}
use Rattle.link_judge.proofs.verdict.has_no_other_table.Goals as goal

pub returns-then-not-has_frame_table : goal.returns-then-not-has_frame_table
returns-then-not-has_frame_table c =
    let headers = c.headers.ensures ∙ ap program_headers c.requires.image in
    let none : has_frame_table c.args.loaded.now.image ≡ false =
    sym (c.has_frame_table.ensures ∙ ap (λ (hs : List ProgramHeader). list_any (is_of_type pt_gnu_eh_frame) hs) headers)
    ∙ c.if-not-has_frame_table.true in
    (λ t own. none, λ h. refl)

pub returns : goal.returns
returns c =
    let headers = c.headers.ensures ∙ ap program_headers c.requires.image in
    let there : has_frame_table c.args.loaded.now.image ≡ true =
    sym (c.has_frame_table.ensures ∙ ap (λ (hs : List ProgramHeader). list_any (is_of_type pt_gnu_eh_frame) hs) headers)
    ∙ c.if-not-has_frame_table.false in
    let own = c.in_ok-own.ensures in (
      λ t o. absurd (not_to c.in_ok-own.own t (own ∙ o)),
      λ h. not_from c.in_ok-own.own (λ o. false≢true (sym (h (sym own ∙ o)) ∙ there)),
    )
