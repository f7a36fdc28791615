use Rattle.check_places.proofs.c05_placed.is_placed.Goals as goal

pub returns : goal.returns
returns c =
    let things = c.lie_apart.ensures.0 c.if-not-lie_apart.false in
    let threads = c.in_ok-do_threads_lie_apart.ensures.0 c.if-not-branch.false in (
      λ near. record {
        aligned = c.are_aligned.ensures.0 c.if-not-are_aligned.false;
        within = things.0;
        apart = things.1;
        threads_within = threads.0;
        threads_apart = threads.1;
        near = c.in_ok-near.ensures.0 near;
      },
      λ placed. c.in_ok-near.ensures.1 placed.near,
    )
