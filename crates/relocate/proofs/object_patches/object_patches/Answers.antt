use Rattle.std.proofs.Common.{List, ap, subst, sym, ◌∙◌}
use Rattle.std.specs.List.Sorted.{IsNonDecreasingBy}
use Rattle.std.proofs.lemmas.List.Sorted.{IsNonDecreasingBy-from_all_adjacent}
use Rattle.elf_model.specs.Link.ArrayOrder.{by_rank}
use Rattle.search.specs.declared.kept_lists.KeptRela.{KeptRela}
use Rattle.relocate.proofs.RelaOrders.{ascending_is}
use Rattle.relocate.specs.RelaOrders.{target_of}
use Rattle.relocate.proofs.object_patches.object_patches.Goals as goal

pub rows_of-requires-clause-rises : goal.rows_of-requires-clause-rises
rows_of-requires-clause-rises c = IsNonDecreasingBy-from_all_adjacent target_of c.kept_relas-relas.result.now (c.ascend.ensures.0 c.if-ascend.true)

pub rows_of-requires-clause-order : goal.rows_of-requires-clause-order
rows_of-requires-clause-order c =
    ascending_is c.kept_relas-relas.result.now (IsNonDecreasingBy-from_all_adjacent target_of c.kept_relas-relas.result.now (c.ascend.ensures.0 c.if-ascend.true))
    ∙ ap (by_rank target_of) c.kept_relas-relas.ensures.exact

pub rows_of-requires-2-clause-rises : goal.rows_of-requires-2-clause-rises
rows_of-requires-2-clause-rises c = subst (λ (ks : List KeptRela). IsNonDecreasingBy target_of ks) (sym c.deref.ensures.value) c.in_ok-relas.ensures.rises

pub rows_of-requires-2-clause-order : goal.rows_of-requires-2-clause-order
rows_of-requires-2-clause-order c = c.deref.ensures.value ∙ (c.in_ok-relas.ensures.order ∙ ap (by_rank target_of) c.kept_relas-relas.ensures.exact)
