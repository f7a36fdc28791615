use Rattle.std.proofs.Common.{arith, refl, sym}
use Rattle.std.proofs.lemmas.Grind.{common_steps}
use Rattle.placing.specs.PlaceViews.{place_view}
use Rattle.debug_image.proofs.IndexSteps.{known_place, new_place}
use Rattle.debug_image.proofs.data_index.add_place.Goals as goal

pub returns-then-contains_key-clause-offsets : goal.returns-then-contains_key-clause-offsets
returns-then-contains_key-clause-offsets c = λ row are.
    known_place row c.args.index.now (place_view c.args.place.now) are (sym c.if-contains_key.ensures)

pub returns-clause-offsets : goal.returns-clause-offsets
returns-clause-offsets c = λ row are.
    let q = place_view c.args.place.now in
    new_place row c.args.index.now c.insert.new.self q (record { at = q.at; relas = c.new.result }) are refl (sym c.if-contains_key.ensures)
    (λ n. grind (arith, common_steps, c.in_ok-insert.ensures.updates.0 n))
