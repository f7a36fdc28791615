use Rattle.std.proofs.Common.{◌≡◌, ◌+◌, true, false, arith}
use Rattle.check_places.specs.Neighbours.{AreNear, last_known}
use Rattle.check_link.specs.Views.{placed_views}
use Rattle.check_places.proofs.NearSteps.{last_within, placed_next, step_more, step_stop}
use Rattle.check_places.proofs.NextPieces.{no_lasts}
use Rattle.check_places.proofs.c05_placed.neighbours.are_near.Goals as goal

pub loop-j-init : goal.loop-j-init
loop-j-init c = record {
  lasts = no_lasts (placed_views c.args.placed.now) (last_known c.new-lasts.result) c.new-lasts.ensures;
  rest = (λ h i k d low next. h i k d next, λ r i k d next. r i k d (omega arith) next);
}

pub is_near_last-requires : goal.is_near_last-requires
is_near_last-requires c =
    last_within c.args.placed.now c.loop-j.j _ c.loop-j-test.true c.output_section-section.result (last_known c.loop-j.lasts) c.in_ok-last.last
    c.output_section-section.ensures c.loop-j.invariant.lasts c.in_ok-last.ensures.before

pub returns-then-not-is_near_last : goal.returns-then-not-is_near_last
returns-then-not-is_near_last c = (
  λ e. absurd (let f : false ≡ true = e in cc),
  λ h. absurd
      (step_stop c.args.placed.now c.loop-j.j _ c.loop-j-test.true c.output_section-section.result (last_known c.loop-j.lasts) c.in_ok-last.last
      c.output_section-section.ensures c.loop-j.invariant.lasts c.in_ok-last.ensures.before c.is_near_last.result c.is_near_last.ensures
      (AreNear (placed_views c.args.placed.now))
      (λ t. let f : false ≡ true = (let r = c.if-not-is_near_last.true in cc) in cc) c.loop-j.invariant.rest h),
)

pub loop-j-preserved : goal.loop-j-preserved
loop-j-preserved c =
    let s = c.output_section-section.result in
    let known = last_known c.loop-j.lasts in
    record {
      lasts =
          placed_next c.args.placed.now c.loop-j.j _ c.loop-j-test.true s known (last_known c.replace.new.self)
          c.output_section-section.ensures c.in_ok-last.ensures.known c.loop-j.invariant.lasts;
      rest =
          step_more c.args.placed.now c.loop-j.j _ c.loop-j-test.true s known c.in_ok-last.last
          c.output_section-section.ensures c.loop-j.invariant.lasts c.in_ok-last.ensures.before c.is_near_last.result c.is_near_last.ensures
          (AreNear (placed_views c.args.placed.now)) c.if-not-is_near_last.false c.loop-j.invariant.rest;
    }
