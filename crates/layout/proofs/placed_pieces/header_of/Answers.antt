use Rattle.std.proofs.Common.{◌≤◌, ◌∙◌, ap, subst, sym}
use Rattle.std.specs.Prelude.{All}
use Rattle.elf_model.specs.Link.Placement.{Placed}
use Rattle.layout.specs.Orders.{objects_of}
use Rattle.placing.specs.PlaceViews.{place_views}
use Rattle.layout.specs.Threads.{placed_alignment}
use Rattle.layout.proofs.OwnThreads.{no_header, own_above, own_alignment}
use Rattle.layout.proofs.placed_pieces.header_of.Goals as goal

pub returns-then-not-order : goal.returns-then-not-order
returns-then-not-order c =
    no_header c.args.base (objects_of c.args.order.now) (place_views c.args.places.now) c.requires.places (sym c.requires.order.threads ∙ c.if-not-order.true)

pub thread_header-requires-clause-above : goal.thread_header-requires-clause-above
thread_header-requires-clause-above c =
    subst (All (λ (q : Placed). c.args.base ≤ q.at)) (sym c.requires.places) (own_above c.args.base (objects_of c.args.order.now))

pub thread_header-requires-clause-align : goal.thread_header-requires-clause-align
thread_header-requires-clause-align c =
    c.requires.order.thread_align
    ∙ (sym (own_alignment c.args.base (objects_of c.args.order.now)) ∙ ap placed_alignment (sym c.requires.places))
