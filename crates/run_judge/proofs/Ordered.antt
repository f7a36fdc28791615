-- Sections with their ranks, which a stable sort puts in the order of runs.
use Rattle.std.proofs.Common.{◌≡◌, ◌∙◌, ℕ, List, [], ◌∷◌, map, refl, sym, ap}
use Rattle.elf_model.specs.Link.ArrayOrder.{by_rank}
use Rattle.elf_model.specs.Link.Placement as placement
use Rattle.elf_model.proofs.ArrayOrder.{map_by_rank}
use Rattle.check_link.specs.Views.{placed_view, placed_views}
use Rattle.check_link.specs.declared.things.Placed.{Placed}
use Rattle.judge_model.specs.Runs.{in_run_order, run_rank}
use Rattle.run_judge.specs.Pairs.{with_rank}
use Rattle.run_judge.specs.declared.order.Ranked.{Ranked}

abbrev pub rank_of : Ranked → ℕ
rank_of r = r.rank

abbrev pub placed_of : Ranked → Placed
placed_of r = r.placed

module _ (all : List placement.Placed) where
  alone : (qs : List Placed) → map placed_of (map (with_rank all) qs) ≡ qs
  alone [] = refl
  alone (q ∷ qs) = ap (λ (zs : List Placed). q ∷ zs) (alone qs)

  pub in_order :
      (qs : List Placed) (rs sorted : List Ranked) → all ≡ placed_views qs → rs ≡ map (with_rank all) qs → sorted ≡ by_rank rank_of rs →
      placed_views (map placed_of sorted) ≡ in_run_order all
  in_order qs rs sorted all_is rs_is sorted_is =
      let own : by_rank rank_of rs ≡ map (with_rank all) (by_rank (λ q. run_rank all (placed_view q)) qs) =
      ap (by_rank rank_of) rs_is ∙ sym (map_by_rank rank_of (with_rank all) qs) in
      ap (λ (zs : List Ranked). placed_views (map placed_of zs)) (sorted_is ∙ own)
      ∙ (ap placed_views (alone (by_rank (λ q. run_rank all (placed_view q)) qs))
      ∙ (map_by_rank (run_rank all) placed_view qs ∙ sym (ap (by_rank (run_rank all)) all_is)))
