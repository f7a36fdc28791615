use Rattle.std.proofs.Common.{rules}
use Rattle.std.proofs.lemmas.List.Sorted.{IsNonDecreasingBy-from_sort_by_key}
use Rattle.elf_model.specs.declared.thing.Thing.{Thing}
use Rattle.loader_model.proofs.sorted_things.by_address.Goals as goal

pub returns-clause-rising : goal.returns-clause-rising
returns-clause-rising c =
    IsNonDecreasingBy-from_sort_by_key (λ (t : Thing). t.at) _ c.sort_unstable_by_key.ensures.sorted (λ a r q k. search rules)
