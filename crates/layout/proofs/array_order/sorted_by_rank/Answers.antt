use Rattle.std.proofs.Common.{rules, ap, ◌∙◌}
use Rattle.std.proofs.lemmas.List.Sorted.{IsNonDecreasingBy-from_sort_by_key, answers_always}
use Rattle.elf_model.specs.Link.ArrayOrder.{in_array_order}
use Rattle.placing.specs.Views.{borrowed_views}
use Rattle.layout.proofs.ArraySteps.{name_rank, sorted_is}
use Rattle.layout.proofs.array_order.sorted_by_rank.Goals as goal

pub returns : goal.returns
returns c =
    sorted_is _ c.sort_by_key.new.self.items (IsNonDecreasingBy-from_sort_by_key name_rank _ c.in_ok-sort_by_key.ensures.sorted (λ a r q k. search rules))
    (c.sort_by_key.ensures.stable name_rank (answers_always _ _ _ (λ f a r q k. search rules)))
    ∙ ap (λ xs. in_array_order (borrowed_views xs)) c.in_ok-sorted.ensures.items
