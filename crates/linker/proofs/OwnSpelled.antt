-- The own map of the definitions that have a line, in the order of their names, is a map, whose text is that of a link's own map.
use Rattle.std.proofs.Common.{◌≡◌, ◌∙◌, ℕ, ◌+◌, ◌<◌, Bool, true, List, [], ◌∷◌, Option, Some, ap, arith, get_or, length, map, refl, subst, sym}
use Rattle.std.specs.Prelude.{All, Contains, find, option_map, option_to_list}
use Rattle.std.specs.List.{flat_map}
use Rattle.std.proofs.lemmas.List.{map-id}
use Rattle.std.proofs.lemmas.List.Elements.{All-append, All-cons, All-contains, All-head, All-nil, All-tail}
use Rattle.std.proofs.lemmas.Slice.Eq.{bytes_eq-Decides}
use Rattle.elf_model.specs.Own.ImageFile.{symtab_line_of}
use Rattle.elf_model.specs.Link.Listing.{AreListed, has_meaning, listed}
use Rattle.elf_model.specs.Image.MapRecord.{MapRecord}
use Rattle.elf_model.specs.Image.MapText.{Ascends, Fits, FitsCommon, FitsSymbol, FitsSymtab, SymbolBefore, text}
use Rattle.elf_model.specs.Link.Meaning.{Meaning, meaning_name}
use Rattle.elf_model.specs.Own.OwnLayout.{own_where}
use Rattle.elf_model.specs.Image.RightLink.{symbol_row_of}
use Rattle.elf_model.proofs.Finding.{find-found}
use Rattle.elf_model.proofs.Listed.{All-from_contains, All-parts}
use Rattle.elf_model.proofs.RisingNames.{all_found, neighbours_count}
use Rattle.elf_model.proofs.SymbolRows.{rows_ascend}
use Rattle.search.specs.Loads.{LoadedPlan}
use Rattle.layout.specs.Placements.{Basis}
use Rattle.image_write.specs.CommonRows.{common_rows_of, own_commons}
use Rattle.image_write.specs.Linkages.{HasSpelledMap, Linked, loaded_of}
use Rattle.image_write.specs.Maps.{IsMapOf, own_record}
use Rattle.image_write.specs.Tables.{table_of}
use Rattle.linker.specs.Linkages.{IsOwnText}
use Rattle.linker.specs.InOrder.{AreInOrder}
use Rattle.linker.proofs.OwnMaps.{ordered, own_map, own_table_is, rows_are}

-- the record is a map of what it is made from
record_is : (b : Basis) (strip : Bool) (ms : List Meaning) → IsMapOf b strip ms (own_record b strip ms)
record_is b strip ms = record {
  version = refl;
  objects_are = refl;
  drops = refl;
  places = refl;
  commons = refl;
  got = refl;
  slots = refl;
  symbols_are = refl;
  symtab = refl;
}

module _ (b : Basis) (ms : List Meaning) (is : AreInOrder b.objects ms) where
  no_twins : (k : ℕ) (d : Meaning) → k + 1 < length ms → meaning_name (get_or ms k d) ≡ meaning_name (get_or ms (k + 1) d) → ⊥
  no_twins k d within same =
      let n = meaning_name (get_or ms k d) in
      let two =
      neighbours_count (has_meaning n) ms k d within ((bytes_eq-Decides (meaning_name (get_or ms k d)) n).1 refl)
      ((bytes_eq-Decides (meaning_name (get_or ms (k + 1) d)) n).1 (sym same)) in
      let u = is.listed.once n in
      omega (arith, two, u)

  pub rise : Ascends SymbolBefore (map (symbol_row_of (own_where b.base b.objects)) ms)
  rise =
      subst (λ (xs : List Meaning). Ascends SymbolBefore (map (symbol_row_of (own_where b.base b.objects)) xs)) (map-id ms)
      (rows_ascend (λ (m : Meaning). m) (own_where b.base b.objects) ms is.rising no_twins)

-- what holds of all that lists are joined of
all_joined : {X Y : Type 0} (P : Y → Type 0) (f : X → List Y) (xs : List X) → All P (flat_map f xs) → All (λ x. All P (f x)) xs
all_joined P f [] all = All-nil (λ x. All P (f x))
all_joined P f (x ∷ xs) all =
    let parts = All-parts P (f x) (flat_map f xs) all in
    All-cons (λ x. All P (f x)) x xs parts.0 (all_joined P f xs parts.1)

all_join : {X Y : Type 0} (P : Y → Type 0) (f : X → List Y) (xs : List X) → All (λ x. All P (f x)) xs → All P (flat_map f xs)
all_join P f [] all = All-nil P
all_join P f (x ∷ xs) all =
    All-append P (f x) (flat_map f xs) (All-head (λ x. All P (f x)) x xs all) (all_join P f xs (All-tail (λ x. All P (f x)) x xs all))

-- what is listed in one order is listed in another one
module _ (b : Basis) (strip : Bool) (ms ns : List Meaning) (is : AreInOrder b.objects ms) (of : AreListed b.objects ns) (up : Ascends SymbolBefore (map (symbol_row_of (own_where b.base b.objects)) ns)) where
  abbrev other : MapRecord
  other = own_record b strip ns

  there : (m : Meaning) → Contains ms m → Contains ns m
  there m here =
      let n = meaning_name m in
      let found : listed b.objects n ≡ Some m =
      sym (is.listed.found n)
      ∙ All-contains (λ (y : Meaning). has_meaning n y ≡ true → find (has_meaning n) ms ≡ Some y) ms m
      (all_found (has_meaning n) ms (is.listed.once n)) here ((bytes_eq-Decides n n).1 refl) in
      (find-found (has_meaning n) ns m (of.found n ∙ found)).there

  commons_fit : All FitsCommon (own_commons b.base b.objects ns) → All FitsCommon (own_commons b.base b.objects ms)
  commons_fit fits =
      let each = all_joined FitsCommon (common_rows_of b.base b.objects) ns fits in
      all_join FitsCommon (common_rows_of b.base b.objects) ms
      (All-from_contains (λ (m : Meaning). All FitsCommon (common_rows_of b.base b.objects m)) ms
      (λ m here. All-contains (λ (m : Meaning). All FitsCommon (common_rows_of b.base b.objects m)) ns m each (there m here)))

  symbols_same : map (symbol_row_of (own_where b.base b.objects)) ns ≡ map (symbol_row_of (own_where b.base b.objects)) ms
  symbols_same =
      rows_are b.base b.objects strip ms is.listed (rise b ms is) other (own_map b strip ns other (record_is b strip ns) of up)

  tables_same : table_of strip b.objects ns ≡ table_of strip b.objects ms
  tables_same =
      let own = own_map b strip ns other (record_is b strip ns) of up in
      sym (own_table_is b.base b.objects strip ns of up other own) ∙ own_table_is b.base b.objects strip ms is.listed (rise b ms is) other own

  pub fits_again : Fits other → Fits (own_record b strip ms)
  fits_again fits = record {
    objects = fits.objects;
    drops = fits.drops;
    places = fits.places;
    commons = commons_fit fits.commons;
    got = fits.got;
    slots = fits.slots;
    symbols = subst (All FitsSymbol) symbols_same fits.symbols;
    symtab =
        subst (λ (t : Option (List Meaning)). All FitsSymtab (option_to_list (option_map (symtab_line_of b.base b.objects) t))) tables_same fits.symtab;
  }

-- the text of that map
pub is_own_text :
    (l : Linked) (b : Basis) (q : LoadedPlan) (ms : List Meaning) (bytes : List ℕ) → b ≡ record { base = l.plan.base; objects = l.objects } →
    q ≡ loaded_of l → AreInOrder l.objects ms → HasSpelledMap l.plan l.objects → bytes ≡ text (own_record b q.plan.strip ms) → IsOwnText l bytes
is_own_text l b q ms bytes placed loaded is spelled same =
    let own : Basis = record { base = l.plan.base; objects = l.objects } in
    let strip = l.plan.strip in
    record {
      record_of = own_record own strip ms;
      own_map = own_map own strip ms (own_record own strip ms) (record_is own strip ms) is.listed (rise own ms is);
      is_map = record {
        fits = fits_again own strip ms spelled.lines is spelled.listed spelled.rising spelled.fits;
        ordered = ordered own strip ms (own_record own strip ms) (record_is own strip ms) is.listed (rise own ms is);
      };
      spelled = same
          ∙ ap (λ (y : Basis). text (own_record y q.plan.strip ms)) placed
          ∙ ap (λ (p : LoadedPlan). text (own_record own p.plan.strip ms)) loaded;
    }
