-- The map of objects where they are laid out: in order, and the own map.
use Rattle.std.specs.Prelude.{Bool, None, Some, cond, option_map}
use Rattle.std.proofs.Common.{◌≡◌, inr, ℕ, zero, suc, ◌+◌, ◌<◌, List, [], ◌∷◌, length, get_or, map, refl, sym, ◌∙◌, ap, subst, arith}
use Rattle.std.proofs.lemmas.List.{get_or-map, length-map}
use Rattle.elf_model.proofs.PieceNumbers.{ComesBefore, kept_ascend}
use Rattle.elf_model.proofs.RisingNames.{rises_from_ascends, same_from_look_ups}
use Rattle.elf_model.proofs.SymbolRows.{look_up, rows_ascend}
use Rattle.elf_model.proofs.TableLaws.{tabled_again}
use Rattle.elf_model.specs.Own.ImageFile.{HasOwnCommonLine, IsOwnMap, own_tabled, place_row_of, symtab_line_of}
use Rattle.elf_model.specs.Link.Listing.{AreListed}
use Rattle.elf_model.specs.Link.Loading.{LoadedObject}
use Rattle.elf_model.specs.Link.Meaning.{Meaning}
use Rattle.elf_model.specs.Image.MapRecord.{CommonRow, MapRecord, ObjectRow, PlaceRow, SymbolRow}
use Rattle.elf_model.specs.Image.MapText.{AreNumbered, Ascends, CommonBefore, DropBefore, IsOrdered, PlaceBefore, SlotBefore, SymbolBefore}
use Rattle.elf_model.specs.Own.OwnLayout.{got_piece, own_address, own_places, own_where}
use Rattle.elf_model.specs.Link.Slots.{slots}
use Rattle.elf_model.specs.Image.SymbolTable.{tabled}
use Rattle.elf_model.specs.Link.Pieces.{Piece, kept_sections}
use Rattle.elf_model.specs.Image.RightLink.{HasLine, object_rows, symbol_row_of}
use Rattle.elf_model.specs.declared.records.SectionHeader.{SectionHeader}
use Rattle.layout.specs.Placements.{Basis}
use Rattle.resolve.specs.Views.{meaning_view, meaning_views}
use Rattle.resolve.specs.declared.definition.Definition as code
use Rattle.own_link.proofs.OwnSlots.{slots_ascend}
use Rattle.image_write.specs.Listings.{IsListing}
use Rattle.image_write.specs.Maps.{IsMapOf, own_row}
use Rattle.image_write.specs.Tables.{entered, table_of}
use Rattle.linker.proofs.DropLines.{drop_rows-ascend}
use Rattle.linker.proofs.OwnCommons.{own_commons_ascend, own_commons_found}

numbered : (j : ℕ) (L : List LoadedObject) (k : ℕ) (d : ObjectRow) → k < length (object_rows j L) → (get_or (object_rows j L) k d).object ≡ j + k
numbered j [] k d within = absurd (omega (arith, within))
numbered j (o ∷ os) zero d within = omega arith
numbered j (o ∷ os) (suc k) d within = numbered (j + 1) os k d (omega (arith, within)) ∙ omega arith

rows_ascend_in : (b : Basis) → Ascends PlaceBefore (map (own_row b) (kept_sections b.objects))
rows_ascend_in b k d within =
    let ps = kept_sections b.objects in
    let e : Piece = record { object = 0; section = 0; name = []; header = null; size = 0; align = 0; bytes = [] } in
    let l = length-map ps (own_row b) in
    let here = get_or-map (own_row b) ps k e d (omega (arith, l, within)) in
    let there = get_or-map (own_row b) ps (k + 1) e d (omega (arith, l, within)) in
    let pair : ComesBefore (get_or ps k e) (get_or ps (k + 1) e) = kept_ascend b.objects k (k + 1) e (omega arith) (omega (arith, l, within)) in
    subst (λ (r : PlaceRow). PlaceBefore r (get_or (map (own_row b) ps) (k + 1) d)) (sym here)
    (subst (PlaceBefore (own_row b (get_or ps k e))) (sym there) pair)
  where
    null : SectionHeader
    null = record { sh_name = 0; sh_type = 0; sh_flags = 0; sh_addr = 0; sh_offset = 0; sh_size = 0; sh_link = 0; sh_info = 0; sh_addralign = 0; sh_entsize = 0 }

-- the rows of kept sections are those of their own places
rows_placed : (b : Basis) (ps : List Piece) → map (own_row b) ps ≡ map place_row_of (own_places b.base b.objects ps)
rows_placed b [] = refl
rows_placed b (p ∷ ps) = ap (λ (rows : List PlaceRow). own_row b p ∷ rows) (rows_placed b ps)

-- the lines of what is listed ascend
pub symbols_rise :
    (b : Basis) (listed : List code.Definition) → IsListing b.objects listed →
    Ascends SymbolBefore (map (symbol_row_of (own_where b.base b.objects)) (meaning_views listed))
symbols_rise b listed d = rows_ascend meaning_view (own_where b.base b.objects) listed d.rising d.no_twins

module _ (b : Basis) (strip : Bool) (ms : List Meaning) (m : MapRecord) (is : IsMapOf b strip ms m) (are : AreListed b.objects ms) (up : Ascends SymbolBefore (map (symbol_row_of (own_where b.base b.objects)) ms)) where
  pub ordered : IsOrdered m
  ordered = record {
    version = inr is.version;
    objects = subst AreNumbered (sym is.objects_are) (λ k e within. numbered 0 b.objects k e within ∙ (omega arith));
    drops = subst (Ascends DropBefore) (sym is.drops) (drop_rows-ascend 0 b.objects);
    places = subst (Ascends PlaceBefore) (sym is.places) (rows_ascend_in b);
    commons =
        subst (Ascends CommonBefore) (sym is.commons)
        (own_commons_ascend b.base b.objects (own_where b.base b.objects) ms up);
    slots =
        subst (Ascends SlotBefore) (sym is.slots)
        (slots_ascend (own_address b.base b.objects (got_piece b.objects) + 8) (slots b.objects));
    symbols = subst (Ascends SymbolBefore) (sym is.symbols_are) up;
  }

  -- the table of the map's lines is that of what is listed
  table_again : own_tabled strip b.objects m.symbols ≡ table_of strip b.objects ms
  table_again =
      ap (λ (rows : List SymbolRow). own_tabled strip b.objects rows) is.symbols_are
      ∙ ap (λ (xs : List Meaning). cond strip None (Some xs)) (tabled_again b.objects (own_where b.base b.objects) ms are)

  pub own_map : IsOwnMap b.base b.objects strip m
  own_map = record {
    version = is.version;
    objects_are = is.objects_are;
    drops = is.drops;
    places = is.places ∙ rows_placed b (kept_sections b.objects);
    commons =
        subst (λ (rows : List CommonRow). (name : List ℕ) → HasOwnCommonLine rows b.base b.objects name) (sym is.commons)
        (own_commons_found b.base b.objects ms are);
    got = is.got;
    slots = is.slots;
    symbols =
        subst (λ (rows : List SymbolRow). (name : List ℕ) → HasLine rows b.objects (own_where b.base b.objects) name) (sym is.symbols_are)
        (look_up b.objects (own_where b.base b.objects) ms are);
    symtab = is.symtab ∙ sym (ap (option_map (symtab_line_of b.base b.objects)) table_again);
    ordered = ordered;
  }

-- each own map has the lines of what is listed, and so their table
module _ (base : ℕ) (objects : List LoadedObject) (strip : Bool) (ms : List Meaning) (listed : AreListed objects ms) (up : Ascends SymbolBefore (map (symbol_row_of (own_where base objects)) ms)) (m : MapRecord) (own : IsOwnMap base objects strip m) where
  pub rows_are : m.symbols ≡ map (symbol_row_of (own_where base objects)) ms
  rows_are =
      same_from_look_ups m.symbols (map (symbol_row_of (own_where base objects)) ms) (rises_from_ascends m.symbols own.ordered.symbols)
      (rises_from_ascends (map (symbol_row_of (own_where base objects)) ms) up)
      (λ n. own.symbols n ∙ sym (look_up objects (own_where base objects) ms listed n))

  pub own_table_is : own_tabled strip objects m.symbols ≡ table_of strip objects ms
  own_table_is =
      ap (λ (rows : List SymbolRow). own_tabled strip objects rows) rows_are
      ∙ ap (λ (ns : List Meaning). cond strip None (Some ns)) (tabled_again objects (own_where base objects) ms listed)

  pub own_tabled_is : tabled objects m.symbols ≡ entered objects ms
  own_tabled_is = ap (tabled objects) rows_are ∙ tabled_again objects (own_where base objects) ms listed
