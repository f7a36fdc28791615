use Rattle.std.proofs.Common.{List, subst, sym}
use Rattle.std.specs.Prelude.{All}
use Rattle.elf_model.specs.declared.records.ProgramHeader.{ProgramHeader}
use Rattle.place_judge.specs.Places.{Fits}
use Rattle.place_judge.proofs.Parts.{parts_fit}
use Rattle.place_judge.proofs.things.add_headers.Goals as goal

pub add_parts-requires : goal.add_parts-requires
add_parts-requires c = subst (λ (hs : List ProgramHeader). All Fits hs) (sym c.segments.ensures) (parts_fit c.args.image.now c.image-program.ensures.program)

pub add_parts-requires-2 : goal.add_parts-requires-2
add_parts-requires-2 c = subst (λ (hs : List ProgramHeader). All Fits hs) (sym c.segments-2.ensures) (parts_fit c.args.image.now c.image-program.ensures.program)
