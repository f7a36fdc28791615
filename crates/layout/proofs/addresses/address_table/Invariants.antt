use Rattle.std.proofs.Common.{◌≡◌, ℕ, ◌≤◌, drop, length}
use Rattle.std.specs.Prelude.{find, option_map}
use Rattle.elf_model.specs.Link.Placement.{is_of_section}
use Rattle.search.specs.Views.{loaded_views}
use Rattle.layout.specs.Addresses.{entry, piece_counts, shape_of}
use Rattle.placing.specs.PlaceViews.{place_views}
use Rattle.layout.proofs.addresses.address_table.Given as goal

abbrev pub decreases-loop-left : goal.decreases-loop-left
decreases-loop-left l = l.left

abbrev pub invariant-loop-left : goal.invariant-loop-left
invariant-loop-left l = record {
  low : l.left ≤ length l.places;
  shape : shape_of l.table.items ≡ piece_counts (loaded_views l.objects) l.blocks;
  entries : (o s : ℕ) → entry l.table.items o s ≡ option_map (λ q. q.at) (find (is_of_section o s) (place_views (drop l.left l.places)));
}
