use Rattle.std.proofs.Common.{List, subst}
use Rattle.elf_model.specs.Image.MemoryImage.{loads}
use Rattle.elf_model.specs.Link.Placement.{Placed}
use Rattle.check_link.specs.Outputs.{AreSpans}
use Rattle.link_fields.specs.Parts.{Parts}
use Rattle.name_judge.proofs.NameLaw.{names_by}
use Rattle.name_judge.specs.Bounds.{AreMarks}
use Rattle.name_judge.proofs.names.are_names_right.Goals as goal

pub returns : goal.returns
returns c = λ l parts things notes.
    let m = c.marks_of-marks.result in
    let marks =
    subst (λ (p : Parts). AreMarks (loads p.image) p.placed c.args.things.now c.args.filled.now m) c.parts.view_is
    (subst (λ (qs : List Placed). AreMarks (loads c.parts.inside.image.now) qs c.args.things.now c.args.filled.now m) c.placed-placed.ensures
    c.marks_of-marks.ensures) in
    let spans =
    subst (λ (p : Parts). AreSpans p.placed c.in_ok-spans.spans) c.parts.view_is
    (subst (λ (qs : List Placed). AreSpans qs c.in_ok-spans.spans) c.placed-placed.ensures c.in_ok-spans.ensures) in
    let law = names_by l c.args.parts.now c.args.things.now c.args.filled.now m c.in_ok-spans.spans parts things notes marks spans in (
      λ yes. law.0 (c.are_names_by.ensures.0 yes),
      λ right. c.are_names_by.ensures.1 (law.1 right),
    )
