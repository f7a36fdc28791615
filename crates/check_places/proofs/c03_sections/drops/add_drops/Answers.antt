use Rattle.std.proofs.Common.{subst, ◌<◌}
use Rattle.elf_model.specs.Inputs.ObjectFile.{null_section}
use Rattle.check_load.specs.Views.{loaded_view}
use Rattle.check_places.proofs.DropSteps.{section_more}
use Rattle.check_places.proofs.c03_sections.drops.add_drops.Goals as goal

pub loop-i-preserved : goal.loop-i-preserved
loop-i-preserved c =
    section_more c.loop-i.out.items c.add_drop.new.out.items c.args.number (loaded_view c.args.loaded.now) c.sections-headers.result.now c.loop-i.i
    null_section _ (subst (λ n. c.loop-i.i < n) c.len-i-end.ensures c.loop-i-test.true) (rw c.at-header.ensures at c.in_ok-add_drop.ensures) c.loop-i.invariant
