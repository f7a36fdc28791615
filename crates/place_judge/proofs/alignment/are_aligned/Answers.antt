use Rattle.check_link.specs.Views.{placed_view}
use Rattle.place_judge.specs.Places.{IsAligned}
use Rattle.place_judge.proofs.Maps.{all_seen}
use Rattle.place_judge.proofs.alignment.are_aligned.Goals as goal

pub returns : goal.returns
returns c =
    let seen = all_seen IsAligned placed_view c.args.placed.now in
    (λ t. seen.0 (c.are_all_aligned.ensures.0 t), λ all. c.are_all_aligned.ensures.1 (seen.1 all))
