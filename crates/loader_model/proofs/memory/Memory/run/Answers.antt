use Rattle.std.proofs.Common.{List, ap, refl, subst, sym, ◌∙◌}
use Rattle.std.specs.Prelude.{AllPairs, Any, Contains}
use Rattle.elf_model.specs.Image.MemoryImage.{Encloses, loads}
use Rattle.elf_model.specs.declared.records.ProgramHeader.{ProgramHeader}
use Rattle.loader_model.specs.Table.{EndsBefore}
use Rattle.loader_model.proofs.MemoryLemmas.{run_of}
use Rattle.loader_model.proofs.SegmentsApart.{loads_apart}
use Rattle.loader_model.proofs.memory.Memory.run.Goals as goal

pub find_enclosing-requires : goal.find_enclosing-requires
find_enclosing-requires c =
    subst (AllPairs EndsBefore) (sym (c.deref.ensures.value ∙ c.self.invariant.segments_are)) (loads_apart c.self.inside.file.now c.self.invariant.is_image)

pub returns-clause-found : goal.returns-clause-found
returns-clause-found c =
    let kept = c.deref.ensures.value ∙ (c.self.invariant.segments_are ∙ ap loads c.self.view_is) in
    (λ t. subst (Any (λ (h : ProgramHeader). Encloses h c.args.addr c.args.len)) kept (c.in_ok-segment.ensures.found.0 refl), λ a. refl)

pub returns-clause-run : goal.returns-clause-run
returns-clause-run c =
    run_of c.args.self.now c.self.inside.file.now c.self.inside.segments.items c.args.addr c.args.len
    c.in_ok-segment.segment.now c.run_in.result.bytes.now c.run_in.result.zeros c.self.view_is c.self.invariant.segments_are
    c.self.invariant.is_image
    (subst (λ (hs : List ProgramHeader). Contains hs c.in_ok-segment.segment.now) c.deref.ensures.value c.in_ok-segment.ensures.there)
    c.in_ok-segment.ensures.encloses c.run_in.ensures.whole c.run_in.ensures.same
