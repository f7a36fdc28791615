use Rattle.std.proofs.Common.{◌≡◌, ◌∙◌, Bool, List, true, subst, sym}
use Rattle.std.specs.Prelude.{◌↔◌, All, Any, IsTrue}
use Rattle.std.specs.List.{list_any}
use Rattle.std.proofs.lemmas.Bool.{false≢true}
use Rattle.std.proofs.lemmas.Result.{IfOk-weaker}
use Rattle.elf_model.specs.Image.MemoryImage.{program_headers}
use Rattle.elf_model.specs.declared.records.ProgramHeader.{ProgramHeader}
use Rattle.judge_model.specs.Frames.{IsFunction, records_of}
use Rattle.judge_model.specs.Headers.{is_of_type, pt_gnu_eh_frame}
use Rattle.link_fields.proofs.Lists.{passing}
use Rattle.frame_judge.specs.Tables.{IsTableIn}
use Rattle.frame_judge.proofs.tables.are_tables_of.Goals as goal

pub returns-then-not-has_asked : goal.returns-then-not-has_asked
returns-then-not-has_asked c =
    let a = c.args in
    let headers = c.headers-headers.ensures in (
      λ e. absurd (false≢true e),
      λ h. absurd
          (false≢true
          (sym c.if-not-has_asked.true
          ∙ c.has_asked.ensures.1
          (λ asks some. subst (λ (hs : List ProgramHeader). list_any (is_of_type pt_gnu_eh_frame) hs ≡ true) (sym headers) (h.asked asks some)))),
    )

pub returns : goal.returns
returns c =
    let a = c.args in
    let headers = c.headers-headers.ensures in
    let P : ProgramHeader → Type 0 = IsTableIn a.image.now a.areas.now a.list a.frames.now in
    let test = is_of_type pt_gnu_eh_frame in
    let both = passing P test (program_headers a.image.now) in
    IfOk-weaker c.are_tables_in.result _ _
    (λ b h.
    let h = subst (λ (hs : List ProgramHeader). IsTrue b ↔ All (λ x. test x ≡ true → P x) hs) headers h in (
      λ t. record {
        each = both.1 (h.0 t);
        asked = λ asks some.
            subst (λ (hs : List ProgramHeader). list_any test hs ≡ true) headers (c.has_asked.ensures.0 c.if-not-has_asked.false asks some);
      },
      λ right. h.1 (both.0 right.each),
    ))
    c.are_tables_in.ensures
