use Rattle.std.proofs.Common.{length, map}
use Rattle.std.specs.Prelude.{All}
use Rattle.std.specs.List.{flat_map}
use Rattle.elf_model.specs.Image.MapText.{symbol_text}
use Rattle.elf_model.specs.Own.OwnLayout.{own_in_load_order, own_where}
use Rattle.elf_model.specs.Image.RightLink.{symbol_row_of}
use Rattle.image_write.specs.Maps.{LiesWithin}
use Rattle.relocate.specs.Uses.{line_views}
use Rattle.resolve.specs.Chosen.{defined_in}
use Rattle.linker.specs.InOrder.{meaning_at, meanings_at, meanings_in}
use Rattle.linker.proofs.Behind.{Leads}
use Rattle.linker.proofs.own_definitions.put_found_symbols.Given as goal

abbrev pub invariant-loop-rest : goal.invariant-loop-rest
invariant-loop-rest g l = record {
  text : Leads (g.T.LineSink.told l.fn.text) (flat_map symbol_text (map (symbol_row_of (own_where l.placement.base l.placement.objects)) (meanings_in l.found)))
      (g.T.LineSink.told l.text) (flat_map symbol_text (map (symbol_row_of (own_where l.placement.base l.placement.objects)) (meanings_at l.found.resolved.now (defined_in l.found.names.symbols) (line_views l.found.names.linkers.now) l.rest)));
  within : All (λ k. LiesWithin (own_in_load_order l.placement.base l.placement.objects) (meaning_at l.found.resolved.now (defined_in l.found.names.symbols) (line_views l.found.names.linkers.now) k.position)) l.rest;
}

abbrev pub decreases-loop-rest : goal.decreases-loop-rest
decreases-loop-rest g l = length l.rest
