use Rattle.elf_model.specs.Image.MapRecord.{map_of, place_row, common_row, slot_row, symbol_row}
use Rattle.elf_model.specs.Image.MapText.{DropBefore, PlaceBefore, CommonBefore, SlotBefore, SymbolBefore, IsOrdered}
use Rattle.linkmap.proofs.OrderLaws.{told, told_seen, told_numbered, iff_no}
use Rattle.linkmap.proofs.keys.ordered.Goals as goal

pub returns-then-not-are_numbered : goal.returns-then-not-are_numbered
returns-then-not-are_numbered c =
    let objects = told_numbered c.are_numbered.result _ c.args.map.now.objects.items c.deref.ensures.value c.are_numbered.ensures in
    iff_no c.are_numbered.result c.if-not-are_numbered.true (λ (o : IsOrdered (map_of c.args.map.now)). objects.1 o.objects)

pub returns-then-not-places_ascend : goal.returns-then-not-places_ascend
returns-then-not-places_ascend c =
    let places = told_seen PlaceBefore place_row c.places_ascend.result _ c.args.map.now.places.items c.deref-3.ensures.value c.places_ascend.ensures in
    iff_no c.places_ascend.result c.if-not-places_ascend.true (λ (o : IsOrdered (map_of c.args.map.now)). places.1 o.places)

pub returns-then-not-commons_ascend : goal.returns-then-not-commons_ascend
returns-then-not-commons_ascend c =
    let commons = told_seen CommonBefore common_row c.commons_ascend.result _ c.args.map.now.commons.items c.deref-4.ensures.value c.commons_ascend.ensures in
    iff_no c.commons_ascend.result c.if-not-commons_ascend.true (λ (o : IsOrdered (map_of c.args.map.now)). commons.1 o.commons)

pub returns-then-not-slots_ascend : goal.returns-then-not-slots_ascend
returns-then-not-slots_ascend c =
    let slots = told_seen SlotBefore slot_row c.slots_ascend.result _ c.args.map.now.slots.items c.deref-5.ensures.value c.slots_ascend.ensures in
    iff_no c.slots_ascend.result c.if-not-slots_ascend.true (λ (o : IsOrdered (map_of c.args.map.now)). slots.1 o.slots)

pub returns : goal.returns
returns c =
    let objects = told_numbered c.are_numbered.result _ c.args.map.now.objects.items c.deref.ensures.value c.are_numbered.ensures in
    let drops = told DropBefore c.drops_ascend.result _ c.args.map.now.drops.items c.deref-2.ensures.value c.drops_ascend.ensures in
    let places = told_seen PlaceBefore place_row c.places_ascend.result _ c.args.map.now.places.items c.deref-3.ensures.value c.places_ascend.ensures in
    let commons = told_seen CommonBefore common_row c.commons_ascend.result _ c.args.map.now.commons.items c.deref-4.ensures.value c.commons_ascend.ensures in
    let slots = told_seen SlotBefore slot_row c.slots_ascend.result _ c.args.map.now.slots.items c.deref-5.ensures.value c.slots_ascend.ensures in
    let symbols = told_seen SymbolBefore symbol_row c.symbols_ascend.result _ c.args.map.now.symbols.items c.deref-6.ensures.value c.symbols_ascend.ensures in (
      λ t. record {
        version = c.is_versioned.ensures.0 c.if-not-is_versioned.false;
        objects = objects.0 c.if-not-are_numbered.false;
        drops = drops.0 c.if-not-drops_ascend.false;
        places = places.0 c.if-not-places_ascend.false;
        commons = commons.0 c.if-not-commons_ascend.false;
        slots = slots.0 c.if-not-slots_ascend.false;
        symbols = symbols.0 t;
      },
      λ o. symbols.1 o.symbols,
    )
