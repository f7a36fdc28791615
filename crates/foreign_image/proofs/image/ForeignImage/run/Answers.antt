use Rattle.std.proofs.Common.{List, ap, refl, subst, sym, ◌∙◌}
use Rattle.std.proofs.lemmas.Bool.{false≢true}
use Rattle.std.specs.Prelude.{Any, Contains}
use Rattle.elf_model.specs.Image.MemoryImage.{Encloses, loads}
use Rattle.elf_model.specs.declared.records.ProgramHeader.{ProgramHeader}
use Rattle.foreign_image.proofs.Images.{run_of}
use Rattle.foreign_image.proofs.image.ForeignImage.run.Goals as goal

pub returns-clause-found : goal.returns-clause-found
returns-clause-found c =
    let kept = c.deref.ensures.value ∙ (c.self.invariant.segments_are ∙ ap loads c.self.view_is) in
    (λ t. subst (Any (λ (h : ProgramHeader). Encloses h c.args.addr c.args.len)) kept (c.in_ok-segment.ensures.found.0 refl), λ a. refl)

pub returns-clause-run : goal.returns-clause-run
returns-clause-run c =
    run_of c.args.self.now c.self.inside.file.now c.self.inside.segments.items c.args.addr c.args.len
    c.in_ok-segment.segment.now c.run_in.result.bytes.now c.run_in.result.zeros c.self.view_is c.self.invariant.segments_are
    c.self.invariant.program
    (subst (λ (hs : List ProgramHeader). Contains hs c.in_ok-segment.segment.now) c.deref.ensures.value c.in_ok-segment.ensures.there)
    c.in_ok-segment.ensures.encloses c.run_in.ensures.whole c.run_in.ensures.same

pub returns-in_err-segment-clause-found : goal.returns-in_err-segment-clause-found
returns-in_err-segment-clause-found c =
    let kept = c.deref.ensures.value ∙ (c.self.invariant.segments_are ∙ ap loads c.self.view_is) in
    rw c.from_residual.ensures (
      λ t. absurd (false≢true t),
      λ a. c.in_err-segment.ensures.found.1 (subst (Any (λ (h : ProgramHeader). Encloses h c.args.addr c.args.len)) (sym kept) a),
    )
