use Rattle.std.proofs.Common.{rules, ◌≡◌, ◌∙◌, List, [], ap, arith, max, refl, sym}
use Rattle.std.specs.Prelude.{Option, filter, option_map}
use Rattle.std.specs.Option.{option_map_or}
use Rattle.std.proofs.lemmas.List.{drop_all}
use Rattle.elf_model.specs.Link.LinkerValues.{end_of_pieces, is_code_piece, is_file_data, is_loaded_piece, is_zero_data, start_of_pieces}
use Rattle.elf_model.specs.Link.Pieces.{is_of_output}
use Rattle.elf_model.specs.Link.Placement.{Placed}
use Rattle.elf_model.proofs.Listed.{All-unmap}
use Rattle.elf_model.proofs.PieceBounds.{either_least, either_none}
use Rattle.placing.specs.Limits.{IsInLimit}
use Rattle.layout.specs.PieceParts.{end_with, is_other, start_with}
use Rattle.placing.specs.PlaceViews.{place_view, place_views}
use Rattle.layout.specs.declared.bounds.Extent.{Extent}
use Rattle.placing.specs.declared.runs.Place.{Place}
use Rattle.layout.proofs.OtherPlaces.{end_more, none_more, passing, start_more}
use Rattle.layout.proofs.PlaceSteps.{end_reached, end_step, start_reached, start_step}
use Rattle.layout.proofs.bounds.all_bounds.Goals as goal

pub parts_with-parts-requires : goal.parts_with-parts-requires
parts_with-parts-requires c = All-unmap IsInLimit place_view c.args.places.now c.requires c.loop-place.place-index _ c.loop-place-test.true

pub taken-requires : goal.taken-requires
taken-requires c = All-unmap IsInLimit place_view c.args.places.now c.requires c.loop-place.place-index _ c.loop-place-test.true

pub loop-place-init : goal.loop-place-init
loop-place-init c = record { code = omega arith; data_ = omega arith; image = omega arith; zeros = refl; starts = λ n. search rules; ends = λ n. search rules }

pub loop-place-preserved-then-not-is_other : goal.loop-place-preserved-then-not-is_other
loop-place-preserved-then-not-is_other c =
    let xs = c.args.places.now in
    let i = c.loop-place.place-index in
    let inside = c.loop-place-test.true in
    let same = none_more (is_other c.args.got) xs i _ inside (sym c.is_other.ensures ∙ c.if-not-is_other.true) in record {
      code = end_step is_code_piece xs i _ c.loop-place.parts.code_end _ _ inside c.parts_with-parts.ensures.code c.loop-place.invariant.code;
      data_ = end_step is_file_data xs i _ c.loop-place.parts.data_end _ _ inside c.parts_with-parts.ensures.file_data c.loop-place.invariant.data_;
      image = end_step is_loaded_piece xs i _ c.loop-place.parts.image_end _ _ inside c.parts_with-parts.ensures.image c.loop-place.invariant.image;
      zeros = start_step is_zero_data xs i _ c.loop-place.parts.zero_start _ _ inside c.parts_with-parts.ensures.zeros c.loop-place.invariant.zeros;
      starts = λ n.
          ap (λ (qs : List Placed). either_least (start_with c.loop-place.last c.loop-place.outputs n) (start_of_pieces (is_of_output n) qs)) (sym same)
          ∙ c.loop-place.invariant.starts n;
      ends = λ n.
          ap (λ (qs : List Placed). max (end_with c.loop-place.last c.loop-place.outputs n) (end_of_pieces (is_of_output n) qs)) (sym same)
          ∙ c.loop-place.invariant.ends n;
    }

pub loop-place-preserved : goal.loop-place-preserved
loop-place-preserved c =
    let xs = c.args.places.now in
    let i = c.loop-place.place-index in
    let inside = c.loop-place-test.true in
    let passes = sym c.is_other.ensures ∙ c.if-not-is_other.false in record {
      code = end_step is_code_piece xs i _ c.loop-place.parts.code_end _ _ inside c.parts_with-parts.ensures.code c.loop-place.invariant.code;
      data_ = end_step is_file_data xs i _ c.loop-place.parts.data_end _ _ inside c.parts_with-parts.ensures.file_data c.loop-place.invariant.data_;
      image = end_step is_loaded_piece xs i _ c.loop-place.parts.image_end _ _ inside c.parts_with-parts.ensures.image c.loop-place.invariant.image;
      zeros = start_step is_zero_data xs i _ c.loop-place.parts.zero_start _ _ inside c.parts_with-parts.ensures.zeros c.loop-place.invariant.zeros;
      starts = λ n.
          start_more (is_other c.args.got) xs i _ inside (is_of_output n) (start_with c.loop-place.last c.loop-place.outputs n) _ _
          passes (c.in_ok-next.ensures.start n) (c.loop-place.invariant.starts n);
      ends = λ n.
          end_more (is_other c.args.got) xs i _ inside (is_of_output n) (end_with c.loop-place.last c.loop-place.outputs n) _ _
          passes (c.in_ok-next.ensures.end n) (c.loop-place.invariant.ends n);
    }

pub returns-clause-code : goal.returns-clause-code
returns-clause-code c = end_reached is_code_piece _ _ c.args.places.now c.loop-place.place-index (omega (arith, c.loop-place-test.false)) c.loop-place.invariant.code

pub returns-clause-file_data : goal.returns-clause-file_data
returns-clause-file_data c = end_reached is_file_data _ _ c.args.places.now c.loop-place.place-index (omega (arith, c.loop-place-test.false)) c.loop-place.invariant.data_

pub returns-clause-image : goal.returns-clause-image
returns-clause-image c = end_reached is_loaded_piece _ _ c.args.places.now c.loop-place.place-index (omega (arith, c.loop-place-test.false)) c.loop-place.invariant.image

pub returns-clause-zeros : goal.returns-clause-zeros
returns-clause-zeros c = start_reached is_zero_data _ _ c.args.places.now c.loop-place.place-index (omega (arith, c.loop-place-test.false)) c.loop-place.invariant.zeros

pub returns-clause-outputs : goal.returns-clause-outputs
returns-clause-outputs c =
    let none : passing (is_other c.args.got) c.args.places.now c.loop-place.place-index ≡ [] =
    ap (λ (ps : List Place). filter (is_other c.args.got) (place_views ps))
    (drop_all c.loop-place.place-index c.args.places.now (omega (arith, c.loop-place-test.false))) in
    let last = c.loop-place.last in
    let table = c.loop-place.outputs in
    record {
      starts = λ n.
          ap (option_map (λ (e : Extent). e.start)) (c.in_ok-put_last.ensures n)
          ∙ sym (ap (λ (qs : List Placed). either_least (start_with last table n) (start_of_pieces (is_of_output n) qs)) none ∙ either_none (start_with last table n))
          ∙ c.loop-place.invariant.starts n;
      ends = λ n.
          let zero : max (end_with last table n) 0 ≡ end_with last table n = omega arith in
          ap (λ (o : Option Extent). option_map_or (λ (e : Extent). e.end) o 0) (c.in_ok-put_last.ensures n)
          ∙ sym (ap (λ (qs : List Placed). max (end_with last table n) (end_of_pieces (is_of_output n) qs)) none ∙ zero)
          ∙ c.loop-place.invariant.ends n;
    }
