use Rattle.std.proofs.Common.{◌∙◌, ℕ, List, ap, subst, sym}
use Rattle.std.specs.Prelude.{◌↔◌, IsTrue, is_some}
use Rattle.elf_model.specs.Link.LinkerNames.{named_output}
use Rattle.elf_model.specs.Link.Meaning.{object_meaning}
use Rattle.check_link.specs.ByName.{found_in}
use Rattle.judge_model.specs.Certificates.{name_row}
use Rattle.link_fields.specs.Parts.{Parts, bound_of}
use Rattle.name_judge.proofs.RowLaw.{none_of, row_right}
use Rattle.name_judge.specs.Bounds.{IsRowRight}
use Rattle.name_judge.proofs.rows.is_row_right.Goals as goal

pub returns : goal.returns
returns c =
    let name = c.as_slice-name.ensures.value in
    subst (λ (p : Parts). IsTrue c.is_bound_at.result ↔ IsRowRight p c.args.marks.now c.args.spans.now (name_row c.args.row.now)) c.parts.view_is
    (row_right _ c.args.marks.now c.args.spans.now (name_row c.args.row.now) c.is_bound_at.result c.in-Some.bound c.span_of-span.result
    (none_of _
    (sym c.if-is_meant.false
    ∙ c.is_meant.ensures
    ∙ ap (λ (n : List ℕ). is_some (object_meaning c.parts.inside.names.now n)) name))
    (sym (c.in-Some.ensures ∙ ap (λ (n : List ℕ). bound_of c.parts.inside.outputs.now n) name))
    (c.span_of-span.ensures
    ∙ ap (λ (n : List ℕ). found_in c.args.spans.now n) (c.named_output.ensures ∙ ap (λ (n : List ℕ). named_output n) name))
    c.is_bound_at.ensures)
