use Rattle.std.proofs.Common.{◌∙◌, List, ap, subst}
use Rattle.std.specs.Prelude.{◌↔◌, All, IsTrue}
use Rattle.elf_model.specs.Image.MemoryImage.{loads}
use Rattle.elf_model.specs.Link.Placement.{Placed}
use Rattle.elf_model.specs.declared.records.ProgramHeader.{ProgramHeader}
use Rattle.judge_model.specs.Links.{placed_of}
use Rattle.place_judge.specs.Places.{LiesIfThere}
use Rattle.link_judge.proofs.f03_placed.are_all_in_memory.Goals as goal

pub returns : goal.returns
returns c =
    let yes = IsTrue c.are_in_memory.result in
    let told =
    subst (λ (hs : List ProgramHeader). yes ↔ All (LiesIfThere hs) (placed_of c.args.placed.now)) (c.segments.ensures ∙ ap loads c.image.ensures)
    (subst (λ (qs : List Placed). yes ↔ All (LiesIfThere c.segments.result.now) qs) c.placed.ensures c.are_in_memory.ensures) in
    (told.0, told.1)
