use Rattle.std.proofs.Common.{arith}
use Rattle.elf_model.specs.Own.OwnLayout.{any_placed, placed_has_bytes}
use Rattle.elf_model.proofs.Listed.{All-unmap}
use Rattle.placing.specs.Limits.{IsInLimit}
use Rattle.placing.specs.PlaceViews.{place_view}
use Rattle.layout.proofs.EndSteps.{end_more}
use Rattle.layout.proofs.segments.ends_of.Goals as goal

pub further-memory-requires : goal.further-memory-requires
further-memory-requires c = record {
  limit = All-unmap IsInLimit place_view c.args.places.now c.requires.limit c.loop-place.place-index _ c.loop-place-test.true;
}

pub further_in_file-file-requires : goal.further_in_file-file-requires
further_in_file-file-requires c = record {
  limit = All-unmap IsInLimit place_view c.args.places.now c.requires.limit c.loop-place.place-index _ c.loop-place-test.true;
}

pub loop-place-preserved : goal.loop-place-preserved
loop-place-preserved c = record {
  memory =
      end_more any_placed c.loop-place.memory c.further-memory.result c.args.places.now c.loop-place.place-index _ _ c.loop-place-test.true
      c.further-memory.ensures.end c.loop-place.invariant.memory;
  file =
      end_more placed_has_bytes c.loop-place.file c.further_in_file-file.result c.args.places.now c.loop-place.place-index _ _ c.loop-place-test.true
      c.further_in_file-file.ensures.end c.loop-place.invariant.file;
  memory_above = let a = c.loop-place.invariant.memory_above in let b = c.further-memory.ensures.above in omega (arith, a, b);
  file_above = let a = c.loop-place.invariant.file_above in let b = c.further_in_file-file.ensures.above in omega (arith, a, b);
}
