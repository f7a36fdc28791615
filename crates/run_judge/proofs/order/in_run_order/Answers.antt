use Rattle.std.proofs.Common.{◌≡◌, ◌∙◌, List, ap, map, rules}
use Rattle.std.specs.Global.{Vec}
use Rattle.std.proofs.lemmas.List.Sorted.{IsNonDecreasingBy-from_sort_by_key, answers_always}
use Rattle.std.proofs.lemmas.Result.{IfOk-weaker}
use Rattle.elf_model.proofs.ArrayOrder.{by_stable_sort}
use Rattle.check_link.specs.Views.{placed_views}
use Rattle.check_link.specs.declared.things.Placed.{Placed}
use Rattle.judge_model.specs.Runs as runs
use Rattle.run_judge.specs.Pairs.{with_rank}
use Rattle.run_judge.proofs.Ordered.{in_order, placed_of, rank_of}
use Rattle.run_judge.proofs.order.in_run_order.Goals as goal

pub returns : goal.returns
returns c =
    let sections = c.args.sections.now in
    let sorted = c.sort_by_key.new.self.items in
    let up = IsNonDecreasingBy-from_sort_by_key rank_of sorted c.in_ok-sort_by_key.ensures.sorted (λ a r q k. search rules) in
    let stable = c.in_ok-sort_by_key.ensures.stable rank_of (answers_always _ (λ a r. r ≡ rank_of a.0.now) _ (λ f a r q k. search rules)) in
    let rs = c.in_ok-all.all.items in
    let rs_is = c.in_ok-all.ensures ∙ ap (λ (qs : List _). map (with_rank qs) sections) c.in_ok-addresses.ensures in
    let law = in_order (placed_views sections) sections rs sorted (λ i. placed_views sections) rs_is (by_stable_sort rank_of rs sorted up stable) in
    IfOk-weaker c.unranked.result (λ (v : Vec Placed). v.items ≡ map placed_of c.deref.result.now)
    (λ v. placed_views v.items ≡ runs.in_run_order (placed_views sections))
    (λ v is. ap placed_views (is ∙ ap (map placed_of) c.deref.ensures.value) ∙ law) c.unranked.ensures
