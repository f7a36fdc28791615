use Rattle.std.proofs.Common.{◌∙◌, List, subst, sym}
use Rattle.std.proofs.lemmas.Bool.{false≢true}
use Rattle.elf_model.specs.Image.MapRecord.{place_row}
use Rattle.elf_model.specs.Image.MapText.{Ascends, DropBefore, PlaceBefore}
use Rattle.elf_model.specs.declared.link_map.DropLine.{DropLine}
use Rattle.elf_model.specs.declared.link_map.PlaceLine.{PlaceLine}
use Rattle.place_judge.proofs.Orders.{rows_rise}
use Rattle.place_judge.proofs.order.are_sections_in_order.Goals as goal

pub returns-then-not-are_drops_rising : goal.returns-then-not-are_drops_rising
returns-then-not-are_drops_rising c = (
  λ t. absurd (false≢true t),
  λ r. sym c.if-not-are_drops_rising.true ∙ c.are_drops_rising.ensures.1 (subst (λ (xs : List DropLine). Ascends DropBefore xs) (sym c.deref.ensures.value) r.drops),
)

pub returns : goal.returns
returns c =
    let places = rows_rise PlaceBefore place_row c.args.certificate.now.places.items in (
      λ t. record {
        drops = subst (λ (xs : List DropLine). Ascends DropBefore xs) c.deref.ensures.value (c.are_drops_rising.ensures.0 c.if-not-are_drops_rising.false);
        places = places.0 (subst (λ (xs : List PlaceLine). Ascends (λ p q. PlaceBefore (place_row p) (place_row q)) xs) c.deref-2.ensures.value (c.are_places_rising.ensures.0 t));
      },
      λ r. c.are_places_rising.ensures.1 (subst (λ (xs : List PlaceLine). Ascends (λ p q. PlaceBefore (place_row p) (place_row q)) xs) (sym c.deref-2.ensures.value) (places.1 r.places)),
    )
