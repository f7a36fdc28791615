use Rattle.std.proofs.Common.{◌≡◌, ◌∙◌, List, ℕ, ap, rules}
use Rattle.std.proofs.lemmas.List.Sorted.{IsNonDecreasingBy-from_sort_by_key, answers_always}
use Rattle.elf_model.proofs.ArrayOrder.{by_stable_sort, map_by_rank}
use Rattle.elf_model.specs.Link.ArrayOrder.{array_rank, by_rank, placed_rank}
use Rattle.check_link.specs.Views.{placed_view, placed_views}
use Rattle.check_link.specs.declared.things.Placed.{Placed}
use Rattle.check_places.proofs.c05_placed.array_order.in_array_order.Goals as goal

pub returns : goal.returns
returns c =
    let rank : Placed → ℕ = λ q. array_rank q.piece.name.now in
    let sorted = c.sort_by_key.new.self.items in
    let up = IsNonDecreasingBy-from_sort_by_key rank sorted c.in_ok-sort_by_key.ensures.sorted (λ a r q k. search rules) in
    let stable = c.in_ok-sort_by_key.ensures.stable rank (answers_always _ (λ a r. r ≡ rank a.0.now) _ (λ f a r q k. search rules)) in
    ap placed_views (by_stable_sort rank c.in_ok-ordered.ordered.items sorted up stable)
    ∙ (ap (λ (qs : List Placed). placed_views (by_rank rank qs)) c.in_ok-ordered.ensures.items
    ∙ map_by_rank placed_rank placed_view c.args.placed.now)
