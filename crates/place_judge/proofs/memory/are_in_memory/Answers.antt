use Rattle.check_link.specs.Views.{placed_view}
use Rattle.place_judge.specs.Places.{LiesIfThere}
use Rattle.place_judge.proofs.Maps.{all_seen}
use Rattle.place_judge.proofs.memory.are_in_memory.Goals as goal

pub returns : goal.returns
returns c =
    let seen = all_seen (LiesIfThere c.args.segments.now) placed_view c.args.placed.now in
    (λ t. seen.0 (c.all_lie.ensures.0 t), λ all. c.all_lie.ensures.1 (seen.1 all))
