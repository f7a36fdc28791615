use Rattle.std.proofs.Common.{◌≡◌, ◌≤◌, ℕ, subst, sym}
use Rattle.std.specs.Prelude.{Some}
use Rattle.elf_model.specs.Link.LinkerValues.{start_of_pieces}
use Rattle.elf_model.specs.Link.Pieces.{is_thread_piece}
use Rattle.placing.specs.PlaceViews.{place_views}
use Rattle.layout.proofs.ThreadSteps.{start_within}
use Rattle.layout.proofs.threads.thread_header.Goals as goal

pub overflow_sub-result : goal.overflow_sub-result
overflow_sub-result c =
    let is : start_of_pieces is_thread_piece (place_views c.args.places.now) ≡ Some c.in_ok-start.start = sym c.in_ok-start.ensures in
    (start_within is_thread_piece c.args.base c.in_ok-start.start (place_views c.args.places.now) c.requires.above is).0

pub overflow_sub-result-2 : goal.overflow_sub-result-2
overflow_sub-result-2 c =
    let is : start_of_pieces is_thread_piece (place_views c.args.places.now) ≡ Some c.in_ok-start.start = sym c.in_ok-start.ensures in
    subst (λ (n : ℕ). c.in_ok-start.start ≤ n) (sym c.end_of-end.ensures)
    (start_within is_thread_piece c.args.base c.in_ok-start.start (place_views c.args.places.now) c.requires.above is).1
