use Rattle.std.proofs.Common.{rules, ap, ◌∙◌}
use Rattle.std.proofs.lemmas.List.Sorted.{IsNonDecreasingBy-from_sort_by_key, answers_always}
use Rattle.elf_model.proofs.ArrayOrder.{by_stable_sort}
use Rattle.elf_model.specs.Link.ArrayOrder.{by_rank}
use Rattle.relocate.specs.RelaOrders.{target_of}
use Rattle.relocate.proofs.rela_order.ordered.Goals as goal

pub returns-clause-rises : goal.returns-clause-rises
returns-clause-rises c = IsNonDecreasingBy-from_sort_by_key target_of _ c.in_ok-sort_by_key.ensures.sorted (λ a r q k. search rules)

pub returns-clause-order : goal.returns-clause-order
returns-clause-order c =
    by_stable_sort target_of c.in_ok-relas.relas.items c.sort_by_key.new.self.items
    (IsNonDecreasingBy-from_sort_by_key target_of _ c.in_ok-sort_by_key.ensures.sorted (λ a r q k. search rules))
    (c.sort_by_key.ensures.stable target_of (answers_always _ _ _ (λ f a r q k. search rules)))
    ∙ ap (by_rank target_of) c.in_ok-relas.ensures.items
