use Rattle.std.proofs.Common.{◌≡◌, ◌≤◌, drop}
use Rattle.elf_model.specs.Own.OwnLayout.{any_placed, greatest_end, placed_has_bytes}
use Rattle.placing.specs.PlaceViews.{place_views}
use Rattle.layout.proofs.segments.ends_of.Given as goal

abbrev pub invariant-loop-place : goal.invariant-loop-place
invariant-loop-place l = record {
  memory : greatest_end any_placed l.memory (place_views (drop l.place-index l.places)) ≡ greatest_end any_placed l.fn.from (place_views l.places);
  file : greatest_end placed_has_bytes l.file (place_views (drop l.place-index l.places)) ≡ greatest_end placed_has_bytes l.fn.from (place_views l.places);
  memory_above : l.fn.from ≤ l.memory;
  file_above : l.fn.from ≤ l.file;
}
