use Rattle.std.proofs.Common.{rules}
use Rattle.std.proofs.lemmas.List.Sorted.{IsNonDecreasingBy-from_all_adjacent, IsNonDecreasingBy-from_sort_by_key, IsPermutation-refl}
use Rattle.reloc_values.specs.Patches.{begin_of}
use Rattle.relocate.proofs.row_order.order_row.Goals as goal

pub returns-then-not-ascends : goal.returns-then-not-ascends
returns-then-not-ascends c = record {
  same = c.sort_unstable_by_key.ensures.permutation;
  ordered = IsNonDecreasingBy-from_sort_by_key begin_of _ c.sort_unstable_by_key.ensures.sorted (λ a r q k. search rules);
}

pub returns-else-not-ascends : goal.returns-else-not-ascends
returns-else-not-ascends c = record {
  same = IsPermutation-refl c.args.row.now;
  ordered = IsNonDecreasingBy-from_all_adjacent begin_of c.args.row.now (c.ascends.ensures.0 c.if-not-ascends.false);
}
