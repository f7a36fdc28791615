use Rattle.std.proofs.Common.{◌≡◌, List, subst, sym}
use Rattle.std.specs.Prelude.{◌↔◌, IsTrue}
use Rattle.std.proofs.lemmas.List.Elements.{All-map}
use Rattle.elf_model.proofs.ArrayOrder.{one_rank}
use Rattle.elf_model.specs.Link.ArrayOrder.{placed_rank}
use Rattle.elf_model.specs.Link.Placement.{Placed}
use Rattle.check_places.specs.Neighbours.{AreNear}
use Rattle.check_link.specs.Views.{placed_view, placed_views}
use Rattle.check_places.proofs.c05_placed.array_order.are_near_in_array_order.Goals as goal

pub returns-then-are_unnumbered : goal.returns-then-are_unnumbered
returns-then-are_unnumbered c =
    let placed = c.args.placed.now in
    let all = c.are_unnumbered.ensures.0 c.if-are_unnumbered.true in
    let same = one_rank placed_rank 100000 (placed_views placed) (All-map (λ (q : Placed). placed_rank q ≡ 100000) placed_view placed all) in
    subst (λ (qs : List Placed). IsTrue c.in_ok-near.near ↔ AreNear qs) (sym same) c.in_ok-near.ensures
