use Rattle.std.proofs.Common.{rules, ◌≡◌, ◌∙◌, ◌<◌, ◌≤◌, ◌^◌, ◌++◌, ℕ, List, ap, arith, drop, length, subst, sym}
use Rattle.std.proofs.lemmas.Result.{err_from_is_err_and}
use Rattle.elf_model.specs.Own.OwnLayout.{initial_pieces, own_data, segment, thread_start}
use Rattle.elf_model.specs.Link.Placement.{round_up}
use Rattle.placing.specs.Limits.{AreAligned, AreInLimit}
use Rattle.layout.specs.Orders.{objects_of, plain_pieces}
use Rattle.placing.specs.PlaceViews.{place_views}
use Rattle.placing.specs.Views.{borrowed_views}
use Rattle.placing.specs.declared.runs.Place.{Place}
use Rattle.layout.proofs.Alignments.{initial_aligned, plain_aligned, thread_alignment}
use Rattle.layout.proofs.LaidSteps.{data_limit, data_placed, initial_fails, no_fewer, placed_runs, plain_fails, plain_low, run_behind}
use Rattle.layout.proofs.placed_pieces.lay_writable.Goals as goal

pub round_up-thread_start-requires-clause-some : goal.round_up-thread_start-requires-clause-some
round_up-thread_start-requires-clause-some c =
    subst (λ (n : ℕ). 0 < n) (sym c.requires.order.thread_align) (thread_alignment (objects_of c.args.order.now) c.requires.objects c.requires.commons).0

pub round_up-thread_start-requires-clause-fits : goal.round_up-thread_start-requires-clause-fits
round_up-thread_start-requires-clause-fits c =
    let small = (thread_alignment (objects_of c.args.order.now) c.requires.objects c.requires.commons).1 in
    let is = c.requires.order.thread_align in
    let low = c.requires.low in
    omega (arith, small, is, low)

pub place_run-requires-clause-low : goal.place_run-requires-clause-low
place_run-requires-clause-low c =
    let small = (thread_alignment (objects_of c.args.order.now) c.requires.objects c.requires.commons).1 in
    let is = c.requires.order.thread_align in
    let low = c.requires.low in
    let below = c.round_up-thread_start.ensures.below in
    omega (arith, small, is, low, below)

pub place_run-requires-clause-aligned : goal.place_run-requires-clause-aligned
place_run-requires-clause-aligned c =
    let os = objects_of c.args.order.now in
    let i : borrowed_views c.deref.result.now ≡ initial_pieces os = ap borrowed_views c.deref.ensures.value ∙ c.requires.order.initial in
    subst AreAligned (sym i) (initial_aligned os c.requires.objects c.requires.commons)

pub returns-in_err-thread_end-clause-fault : goal.returns-in_err-thread_end-clause-fault
returns-in_err-thread_end-clause-fault c =
    let os = objects_of c.args.order.now in
    let i : borrowed_views c.deref.result.now ≡ initial_pieces os = ap borrowed_views c.deref.ensures.value ∙ c.requires.order.initial in
    let ts : c.round_up-thread_start.result ≡ thread_start c.args.base os =
    c.round_up-thread_start.ensures.multiple
    ∙ (ap (λ (a : ℕ). round_up a c.args.start) c.requires.order.thread_align ∙ ap (round_up _) c.requires.start) in
    let p = err_from_is_err_and c.from_residual.result c.from_residual.ensures.1 in
    rw (p.1, p.2)
    (initial_fails c.args.base os c.round_up-thread_start.result (borrowed_views c.deref.result.now) c.in_err-thread_end.field-0.0 ts i c.in_err-thread_end.ensures.fault)

pub place_run-requires-2-clause-low : goal.place_run-requires-2-clause-low
place_run-requires-2-clause-low c =
    let small = (thread_alignment (objects_of c.args.order.now) c.requires.objects c.requires.commons).1 in
    let is = c.requires.order.thread_align in
    let low = c.requires.low in
    let below = c.round_up-thread_start.ensures.below in
    let end = c.in_ok-thread_end.ensures.low in
    subst (λ (n : ℕ). n ≤ 2 ^ 47) (sym c.plain_start-from.ensures)
    (plain_low (borrowed_views c.deref-2.result.now) c.args.start c.in_ok-thread_end.thread_end (omega (arith, low)) (omega (arith, small, is, low, below, end)))

pub place_run-requires-2-clause-aligned : goal.place_run-requires-2-clause-aligned
place_run-requires-2-clause-aligned c =
    let os = objects_of c.args.order.now in
    let d : borrowed_views c.deref-3.result.now ≡ plain_pieces os = ap borrowed_views c.deref-3.ensures.value ∙ c.requires.order.data_ in
    subst AreAligned (sym d) (plain_aligned os c.requires.objects c.requires.commons)

pub returns-in_err-place_run-clause-fault : goal.returns-in_err-place_run-clause-fault
returns-in_err-place_run-clause-fault c =
    let os = objects_of c.args.order.now in
    let runs = placed_runs c.args.base os _ _ _ _ _ _ _ _ _ _ c.requires.start c.requires.order.thread_align c.round_up-thread_start.ensures.multiple c.deref.ensures.value
    c.deref-2.ensures.value c.deref-3.ensures.value c.requires.order.initial c.requires.order.data_ c.in_ok-thread_end.ensures.end c.plain_start-from.ensures in
    let p = err_from_is_err_and c.from_residual-in_err-place_run.result c.from_residual-in_err-place_run.ensures.1 in
    rw (p.1, p.2) (plain_fails c.args.base os _ _ _ _ _ runs c.in_err-place_run.field-0.0 c.in_err-place_run.ensures.fault)

pub split_at-requires : goal.split_at-requires
split_at-requires c =
    let at : c.len-before.result ≡ length c.args.out.now.items = search rules in
    let first = no_fewer c.args.out.now.items c.place_run.new.out.items _ c.in_ok-thread_end.ensures.placed in
    let second = no_fewer c.place_run.new.out.items c.place_run-2.new.out.items _ c.in_ok-place_run.ensures.placed in
    let same = ap (λ (ps : List Place). length ps) c.deref-4.ensures.value in
    omega (arith, at, first, second, same)

pub segment_of-requires-clause-limit : goal.segment_of-requires-clause-limit
segment_of-requires-clause-limit c =
    let os = objects_of c.args.order.now in
    let runs = placed_runs c.args.base os _ _ _ _ _ _ _ _ _ _ c.requires.start c.requires.order.thread_align c.round_up-thread_start.ensures.multiple c.deref.ensures.value
    c.deref-2.ensures.value c.deref-3.ensures.value c.requires.order.initial c.requires.order.data_ c.in_ok-thread_end.ensures.end c.plain_start-from.ensures in
    let placed : place_views c.place_run-2.new.out.items ≡ place_views c.args.out.now.items ++ own_data c.args.base os =
    data_placed c.args.base os _ _ _ _ _ runs (place_views c.args.out.now.items) (place_views c.place_run.new.out.items) (place_views c.place_run-2.new.out.items)
    c.in_ok-thread_end.ensures.placed c.in_ok-place_run.ensures.placed in
    let same : place_views c.split_at.result.1.now ≡ own_data c.args.base os =
    ap place_views (c.split_at.ensures.back ∙ ap (drop c.len-before.result) c.deref-4.ensures.value)
    ∙ run_behind c.args.out.now.items c.place_run-2.new.out.items c.len-before.result _ (search rules) placed in
    subst AreInLimit (sym same) (data_limit c.args.base os _ _ _ _ _ runs c.in_ok-thread_end.ensures.limit c.in_ok-place_run.ensures.limit)

pub returns-clause-placed : goal.returns-clause-placed
returns-clause-placed c =
    let os = objects_of c.args.order.now in
    let runs = placed_runs c.args.base os _ _ _ _ _ _ _ _ _ _ c.requires.start c.requires.order.thread_align c.round_up-thread_start.ensures.multiple c.deref.ensures.value
    c.deref-2.ensures.value c.deref-3.ensures.value c.requires.order.initial c.requires.order.data_ c.in_ok-thread_end.ensures.end c.plain_start-from.ensures in
    data_placed c.args.base os _ _ _ _ _ runs (place_views c.args.out.now.items) (place_views c.place_run.new.out.items) (place_views c.place_run-2.new.out.items)
    c.in_ok-thread_end.ensures.placed c.in_ok-place_run.ensures.placed

pub returns-clause-low : goal.returns-clause-low
returns-clause-low c =
    let small = (thread_alignment (objects_of c.args.order.now) c.requires.objects c.requires.commons).1 in
    let is = c.requires.order.thread_align in
    let low = c.requires.low in
    let below = c.round_up-thread_start.ensures.below in
    let end = c.in_ok-thread_end.ensures.low in
    omega (arith, small, is, low, below, end)

pub returns-clause-segment : goal.returns-clause-segment
returns-clause-segment c =
    let same : place_views c.split_at.result.1.now ≡ own_data c.args.base (objects_of c.args.order.now) =
    ap place_views (c.split_at.ensures.back ∙ ap (drop c.len-before.result) c.deref-4.ensures.value)
    ∙ run_behind c.args.out.now.items c.place_run-2.new.out.items c.len-before.result _ (search rules) (returns-clause-placed c) in
    c.segment_of.ensures ∙ ap (segment c.args.base 6 c.args.start c.args.start) same

pub returns-clause-limit : goal.returns-clause-limit
returns-clause-limit c =
    let os = objects_of c.args.order.now in
    let runs = placed_runs c.args.base os _ _ _ _ _ _ _ _ _ _ c.requires.start c.requires.order.thread_align c.round_up-thread_start.ensures.multiple c.deref.ensures.value
    c.deref-2.ensures.value c.deref-3.ensures.value c.requires.order.initial c.requires.order.data_ c.in_ok-thread_end.ensures.end c.plain_start-from.ensures in
    data_limit c.args.base os _ _ _ _ _ runs c.in_ok-thread_end.ensures.limit c.in_ok-place_run.ensures.limit
