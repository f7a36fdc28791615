use Rattle.std.proofs.Common.{◌≡◌, ℕ, ◌++◌, drop}
use Rattle.std.specs.Prelude.{None}
use Rattle.search.specs.Views.{loaded_views}
use Rattle.layout.specs.Addresses.{entry, section_counts, shape_of}
use Rattle.layout.proofs.addresses.empty_table.Given as goal

abbrev pub invariant-loop-loaded : goal.invariant-loop-loaded
invariant-loop-loaded l = record {
  shape : shape_of l.table.items ++ section_counts (loaded_views (drop l.loaded-index l.objects)) ≡ section_counts (loaded_views l.objects);
  empty : (o s : ℕ) → entry l.table.items o s ≡ None;
}
