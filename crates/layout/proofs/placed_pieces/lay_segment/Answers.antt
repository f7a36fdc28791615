use Rattle.std.proofs.Common.{rules, ◌≡◌, ◌∙◌, ap, drop, subst, sym}
use Rattle.elf_model.specs.Own.OwnLayout.{placed_from, segment}
use Rattle.placing.specs.Limits.{AreInLimit}
use Rattle.placing.specs.PlaceViews.{place_views}
use Rattle.placing.specs.Views.{borrowed_views}
use Rattle.layout.proofs.LaidSteps.{run_behind}
use Rattle.layout.proofs.placed_pieces.lay_segment.Goals as goal

pub segment_of-requires-clause-limit : goal.segment_of-requires-clause-limit
segment_of-requires-clause-limit c =
    let same : place_views c.split_at.result.1.now ≡ placed_from c.args.from (borrowed_views c.args.pieces.now) =
    ap place_views (c.split_at.ensures.back ∙ ap (drop c.len-before.result) c.deref.ensures.value)
    ∙ run_behind c.args.out.now.items c.place_run.new.out.items c.len-before.result _ (search rules) c.in_ok-end.ensures.placed in
    subst AreInLimit (sym same) c.in_ok-end.ensures.limit

pub returns-clause-segment : goal.returns-clause-segment
returns-clause-segment c =
    let same : place_views c.split_at.result.1.now ≡ placed_from c.args.from (borrowed_views c.args.pieces.now) =
    ap place_views (c.split_at.ensures.back ∙ ap (drop c.len-before.result) c.deref.ensures.value)
    ∙ run_behind c.args.out.now.items c.place_run.new.out.items c.len-before.result _ (search rules) c.in_ok-end.ensures.placed in
    c.segment_of.ensures ∙ ap (segment c.args.base c.args.rights c.args.start c.args.from) same
