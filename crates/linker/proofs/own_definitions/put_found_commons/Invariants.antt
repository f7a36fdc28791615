use Rattle.std.proofs.Common.{length}
use Rattle.std.specs.List.{flat_map}
use Rattle.elf_model.specs.Image.MapText.{common_text}
use Rattle.image_write.specs.CommonRows.{own_commons}
use Rattle.relocate.specs.Uses.{line_views}
use Rattle.resolve.specs.Chosen.{defined_in}
use Rattle.linker.specs.InOrder.{meanings_at, meanings_in}
use Rattle.linker.proofs.Behind.{Leads}
use Rattle.linker.proofs.own_definitions.put_found_commons.Given as goal

abbrev pub invariant-loop-rest : goal.invariant-loop-rest
invariant-loop-rest g l =
    Leads (g.T.LineSink.told l.fn.text) (flat_map common_text (own_commons l.placement.base l.placement.objects (meanings_in l.found)))
    (g.T.LineSink.told l.text) (flat_map common_text (own_commons l.placement.base l.placement.objects (meanings_at l.found.resolved.now (defined_in l.found.names.symbols) (line_views l.found.names.linkers.now) l.rest)))

abbrev pub decreases-loop-rest : goal.decreases-loop-rest
decreases-loop-rest g l = length l.rest
