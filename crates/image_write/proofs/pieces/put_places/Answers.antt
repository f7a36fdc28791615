use Rattle.std.proofs.Common.{◌≡◌, ◌∙◌, List, ap, arith, refl, sym, true}
use Rattle.std.proofs.lemmas.List.{drop_all}
use Rattle.elf_model.specs.Own.OwnLayout.{own_where}
use Rattle.elf_model.proofs.Listed.{All-unmap}
use Rattle.placing.proofs.RunSteps.{no_place}
use Rattle.placing.specs.PlaceViews.{place_view, place_views}
use Rattle.placing.specs.declared.runs.Place.{Place}
use Rattle.image_write.specs.Parts.{HasContents, all_body, is_written}
use Rattle.image_write.proofs.BodySteps.{body_written, place_ends, rise_left}
use Rattle.image_write.proofs.StreamLaws.{puts_are}
use Rattle.image_write.proofs.StreamSteps.{towards_fault, towards_last, towards_more, towards_nothing}
use Rattle.image_write.proofs.pieces.put_places.Goals as goal

pub loop-place-init : goal.loop-place-init
loop-place-init g c = record { towards = towards_nothing _ _; rise = c.requires.rise; failed = c.requires.whole }

pub returns-in_err-fill : goal.returns-in_err-fill
returns-in_err-fill g c =
    let b = c.args.contents.now.placement.now in
    towards_fault _ _ _ _ _ _ _ _ c.loop-place.invariant.towards
    (body_written b.objects (own_where b.base b.objects) c.args.code.now c.args.to c.loop-place.next c.args.places.now c.loop-place.place-index no_place
    c.loop-place-test.true (sym c.if-not-has_bytes.ensures))
    c.from_residual.ensures.0 c.in_err-fill.ensures.breaks

pub put_piece-requires-clause-full : goal.put_piece-requires-clause-full
put_piece-requires-clause-full g c =
    All-unmap (λ q. is_written q ≡ true → HasContents c.args.contents.now q.piece) place_view c.args.places.now c.requires.full
    c.loop-place.place-index no_place c.loop-place-test.true (sym c.if-not-has_bytes.ensures)

pub returns-in_err-put_piece : goal.returns-in_err-put_piece
returns-in_err-put_piece g c =
    let b = c.args.contents.now.placement.now in
    towards_fault _ _ _ _ _ _ _ _
    (towards_more _ _ _ _ _ _ _ c.loop-place.invariant.towards
    (body_written b.objects (own_where b.base b.objects) c.args.code.now c.args.to c.loop-place.next c.args.places.now c.loop-place.place-index no_place
    c.loop-place-test.true (sym c.if-not-has_bytes.ensures)) c.in_ok-fill.ensures.grows)
    refl c.from_residual-in_err-put_piece.ensures.0 c.in_err-put_piece.ensures.breaks

pub overflow_add-next : goal.overflow_add-next
overflow_add-next g c =
    let e = place_ends c.loop-place.next c.args.to c.args.places.now c.loop-place.place-index no_place c.loop-place-test.true
    (sym c.if-not-has_bytes.ensures) c.loop-place.invariant.rise in
    let low = c.requires.low in
    omega (arith, e, low)

pub loop-place-preserved : goal.loop-place-preserved
loop-place-preserved g c =
    let b = c.args.contents.now.placement.now in
    record {
      towards = towards_more _ _ _ _ _ _ _
          (towards_more _ _ _ _ _ _ _ c.loop-place.invariant.towards
          (body_written b.objects (own_where b.base b.objects) c.args.code.now c.args.to c.loop-place.next c.args.places.now c.loop-place.place-index no_place
          c.loop-place-test.true (sym c.if-not-has_bytes.ensures)) c.in_ok-fill.ensures.grows)
          refl c.in_ok-put_piece.ensures.grows;
      rise = ((rise_left c.loop-place.next c.args.to c.args.places.now c.loop-place.place-index no_place c.loop-place-test.true c.loop-place.invariant.rise).0
          (sym c.if-not-has_bytes.ensures)).1;
      failed = c.in_ok-put_piece.ensures.grows.failed ∙ (c.in_ok-fill.ensures.grows.failed ∙ c.loop-place.invariant.failed);
    }

pub returns : goal.returns
returns g c =
    towards_last _ _ _ _ _ _ c.loop-place.invariant.towards
    (puts_are _ _ _ _ _
    (ap (λ (ps : List Place). all_body c.args.contents.now c.args.code.now c.args.to c.loop-place.next (place_views ps))
    (sym (drop_all c.loop-place.place-index c.args.places.now c.loop-place-test.false)))
    c.fill-2.ensures)
