use Rattle.std.proofs.Common.{◌≡◌, ◌∙◌, refl, sym, subst, List}
use Rattle.std.specs.Prelude.{All}
use Rattle.elf_model.specs.declared.link_map.DropLine.{DropLine}
use Rattle.elf_model.specs.Image.MapRecord.{object_row, place_row, common_row, slot_row, symbol_row}
use Rattle.elf_model.specs.Image.MapText.{object_text, drop_text, place_text, common_text, got_text, slot_text, symbol_text, symtab_text, FitsObject, FitsDrop, FitsPlace, FitsCommon, FitsSlot, FitsSymbol}
use Rattle.linkmap.proofs.PrintLaws.{printed, ahead, first, text_is, all_seen}
use Rattle.linkmap.proofs.printer.print.Goals as goal

pub returns-clause-text : goal.returns-clause-text
returns-clause-text c =
    let whole : c.extend_from_slice.new.self.items ≡ printed c.args.map.now =
    c.in_ok-extend_from_slice.ensures.items
    ∙ ahead symtab_text _ _ _ _ _ refl c.in_ok-put_symtabs.ensures.text
    ∙ ahead (λ s. symbol_text (symbol_row s)) _ _ _ _ _ c.deref-6.ensures.value c.in_ok-put_symbols.ensures.text
    ∙ ahead (λ s. slot_text (slot_row s)) _ _ _ _ _ c.deref-5.ensures.value c.in_ok-put_slots.ensures.text
    ∙ ahead got_text _ _ _ _ _ refl c.in_ok-put_gots.ensures.text
    ∙ ahead (λ b. common_text (common_row b)) _ _ _ _ _ c.deref-4.ensures.value c.in_ok-put_commons.ensures.text
    ∙ ahead (λ p. place_text (place_row p)) _ _ _ _ _ c.deref-3.ensures.value c.in_ok-put_places.ensures.text
    ∙ ahead drop_text _ _ _ _ _ c.deref-2.ensures.value c.in_ok-put_drops.ensures.text
    ∙ ahead (λ o. object_text (object_row o)) _ _ _ _ _ c.deref.ensures.value c.in_ok-put_objects.ensures.text
    ∙ first _ _ _ _ c.new-out.ensures.items c.in_ok-put_version.ensures in
    whole ∙ sym (text_is c.args.map.now)

pub returns-clause-is_map : goal.returns-clause-is_map
returns-clause-is_map c =
    let map = c.args.map.now in
    record {
      fits = record {
        objects = all_seen FitsObject object_row _ map.objects.items c.deref.ensures.value c.in_ok-put_objects.ensures.fits;
        drops = subst (λ (w : List DropLine). All FitsDrop w) c.deref-2.ensures.value c.in_ok-put_drops.ensures.fits;
        places = all_seen FitsPlace place_row _ map.places.items c.deref-3.ensures.value c.in_ok-put_places.ensures.fits;
        commons = all_seen FitsCommon common_row _ map.commons.items c.deref-4.ensures.value c.in_ok-put_commons.ensures.fits;
        got = c.in_ok-put_gots.ensures.fits;
        slots = all_seen FitsSlot slot_row _ map.slots.items c.deref-5.ensures.value c.in_ok-put_slots.ensures.fits;
        symbols = all_seen FitsSymbol symbol_row _ map.symbols.items c.deref-6.ensures.value c.in_ok-put_symbols.ensures.fits;
        symtab = c.in_ok-put_symtabs.ensures.fits;
      };
      ordered = c.requires;
    }
