-- The lines of definitions in the own map fit, whatever their order: of symbols, numbers that are read from bytes are below
-- 2 ^ 64, parts of bytes are bytes, and the own layout ends at or below 2 ^ 46.
use Rattle.std.proofs.Common.{◌≡◌, ℕ, ◌+◌, ◌*◌, ◌<◌, ◌≤◌, ◌^◌, Bool, true, false, cond, List, [], ◌∷◌, ◌++◌, length, map, refl, subst, arith}
use Rattle.std.specs.Prelude.{◌/◌, ◌==◌, All, Contains, IfSome, IsPermutation, None, Option, Some, find, option_map, unwrap_or}
use Rattle.std.specs.Option.{option_map_or}
use Rattle.std.specs.List.{range_with_len, slice_get}
use Rattle.std.proofs.lemmas.List.Elements.{All-append, All-cons, All-contains, All-head, All-map, All-nil, All-tail, All-weaker}
use Rattle.std.proofs.lemmas.List.FromFn.{length-map-range_with_len}
use Rattle.std.proofs.lemmas.List.Sorted.{All-permutation}
use Rattle.std.proofs.lemmas.Option.{slice_get_within}
use Rattle.byteview.specs.Numbers.{part}
use Rattle.elf_model.specs.Link.ChosenSymbols.{chosen_symbols, definitions, is_chosen, is_definition}
use Rattle.elf_model.specs.Link.Commons.{Block, block_named, blocks, is_block_of, is_common_symbol}
use Rattle.elf_model.specs.Link.Loading.{LoadedObject}
use Rattle.elf_model.specs.Image.MapText.{AreBytes, FitsCommon, FitsDefinition, FitsSymbol}
use Rattle.elf_model.specs.Link.Meaning.{Common, Meaning, Symbol, meanings_of, meant_list}
use Rattle.elf_model.specs.Inputs.ObjectFile.{name_of_symbol, null_section, sections, symbol_strings, symbol_table, symbols}
use Rattle.elf_model.specs.declared.constants.TheConstants.{SHT_SYMTAB}
use Rattle.elf_model.specs.Own.OwnLayout.{IsNotTooLarge, own_in_load_order, own_where}
use Rattle.elf_model.specs.Link.Pieces.{AreLawfulKinds}
use Rattle.elf_model.specs.Link.Placement.{Placed, is_of_section, symbol_value}
use Rattle.elf_model.specs.Inputs.Records.{symbol}
use Rattle.elf_model.specs.Link.Resolution.{AreSoundSymbols, SymbolOf, all_symbols, is_absolute, is_weak}
use Rattle.elf_model.specs.Image.RightLink.{symbol_row_of}
use Rattle.elf_model.specs.declared.link_map.Definition.TheVariants as told
use Rattle.elf_model.specs.declared.records.SectionHeader.{SectionHeader}
use Rattle.elf_model.specs.declared.records.Symbol as entry
use Rattle.elf_model.proofs.Finding.{find-found}
use Rattle.elf_model.proofs.Listed.{All-from_contains, Contains-from_filter}
use Rattle.layout.specs.Placements.{Basis}
use Rattle.resolve.proofs.Located.{All-at, IsAt, found_at, located}
use Rattle.image_write.specs.CommonRows.{common_rows_of, own_commons}
use Rattle.image_write.specs.Maps.{LiesBelow}
use Rattle.linker.specs.Spelled.{FitsLines}
use Rattle.linker.proofs.PlaceLines.{number-below, part-bytes, sizes-below, text-bytes}
use Rattle.linker.proofs.Values.{all_lie}

-- the values of the symbols of a file, and how many there are
values-below : (bytes : List ℕ) → AreBytes bytes → All (λ e. e.st_value < 2 ^ 64) (symbols bytes)
values-below bytes are =
    let table = symbol_table (sections bytes) in
    let from = table.sh_offset in
    All-map (λ (e : entry.Symbol). e.st_value < 2 ^ 64) (λ i. symbol (part bytes (from + 24 * i) 24)) (range_with_len 0 (table.sh_size / 24))
    (All-from_contains (λ i. (symbol (part bytes (from + 24 * i) 24)).st_value < 2 ^ 64) (range_with_len 0 (table.sh_size / 24))
    (λ i _. number-below (part bytes (from + 24 * i) 24) 8 (part-bytes bytes (from + 24 * i) 24 are)))

size-of : (o : Option SectionHeader) → ((h : SectionHeader) → o ≡ Some h → h.sh_size < 2 ^ 64) → (unwrap_or o null_section).sh_size < 2 ^ 64
size-of None each = omega arith
size-of (Some h) each = each h refl

few-symbols : (bytes : List ℕ) → AreBytes bytes → length (symbols bytes) < 2 ^ 64
few-symbols bytes are =
    let ss = sections bytes in
    let table = symbol_table ss in
    let size =
    size-of (find (λ s. s.sh_type == SHT_SYMTAB) ss)
    (λ h found. All-contains (λ (x : SectionHeader). x.sh_size < 2 ^ 64) ss h (sizes-below bytes are)
    (find-found (λ s. s.sh_type == SHT_SYMTAB) ss h found).there) in
    let same : length (symbols bytes) ≡ table.sh_size / 24 =
    length-map-range_with_len (λ i. symbol (part bytes (table.sh_offset + 24 * i) 24)) 0 (table.sh_size / 24) in
    omega (arith, size, same)

-- the name of a symbol is bytes
called-bytes : (bytes : List ℕ) (o : Option entry.Symbol) → AreBytes bytes → AreBytes (unwrap_or (option_map (name_of_symbol bytes) o) [])
called-bytes bytes None are = All-nil (λ b. b < 256)
called-bytes bytes (Some e) are = text-bytes (symbol_strings bytes) e.st_name (part-bytes bytes _ _ are)

module _ (base : ℕ) (objects : List LoadedObject) (kinds : AreLawfulKinds objects) (fits : IsNotTooLarge base objects) (sound : AreSoundSymbols objects) (bytes : All (λ o. AreBytes o.bytes) objects) (few : length objects < 2 ^ 64) where
  abbrev own : Basis
  own = record { base = base; objects = objects }

  value-fits : (s : SymbolOf) → LiesBelow (own_in_load_order base objects) s → s.entry.st_value < 2 ^ 64 → symbol_value (own_in_load_order base objects) s < 2 ^ 64
  value-fits s lies small = by (is_absolute s.entry) (find (is_of_section s.object s.entry.st_shndx) (own_in_load_order base objects)) lies
    where
      by :
          (c : Bool) (o : Option Placed) → IfSome (option_map (λ q. q.at) o) (λ at. at + s.entry.st_value ≤ 2 ^ 46) →
          cond c s.entry.st_value (unwrap_or (option_map (λ q. q.at + s.entry.st_value) o) 0) < 2 ^ 64
      by true o low = small
      by false None low = omega arith
      by false (Some q) low = omega (arith, low)

  symbol-fits : (s : SymbolOf) → Contains (chosen_symbols objects) s → FitsLines own (Symbol s)
  symbol-fits s chosen =
      let there = (Contains-from_filter is_definition (all_symbols objects) s (Contains-from_filter (is_chosen objects) (definitions objects) s chosen).0).0 in
      let at = All-contains (IsAt objects) (all_symbols objects) s (located objects) there in
      let f = found_at objects s.object s.number s at.is in
      let are : AreBytes f.0.bytes = All-at (λ (o : LoadedObject). AreBytes o.bytes) objects s.object f.0 bytes f.2 in
      let object = slice_get_within objects s.object f.0 f.2 in
      let number = slice_get_within (symbols f.0.bytes) s.number f.1 f.3 in
      let numbers = few-symbols f.0.bytes are in
      let value : s.entry.st_value < 2 ^ 64 =
      subst (λ (t : SymbolOf). t.entry.st_value < 2 ^ 64) f.4
      (All-at (λ (e : entry.Symbol). e.st_value < 2 ^ 64) (symbols f.0.bytes) s.number f.1 (values-below f.0.bytes are) f.3) in
      record {
        symbol = record {
          address = value-fits s (All-contains (LiesBelow (own_in_load_order base objects)) (chosen_symbols objects) s (all_lie base objects kinds fits sound) chosen) value;
          definition = numbered (is_weak s.entry) (omega (arith, object, few)) (omega (arith, number, numbers));
          name = subst (λ (t : SymbolOf). AreBytes t.name) f.4 (called-bytes f.0.bytes (slice_get (symbols f.0.bytes) s.number) are);
        };
        commons = All-nil FitsCommon;
      }
    where
      numbered : (c : Bool) → s.object < 2 ^ 64 → s.number < 2 ^ 64 → FitsDefinition (cond c (told.Weak s.object s.number) (told.Strong s.object s.number))
      numbered true object number = (object, number)
      numbered false object number = (object, number)

  module _ (each : All (λ b. FitsLines own (Common b)) (blocks objects)) where
    block-fits : (n : List ℕ) (b : Block) → block_named objects n ≡ Some b → FitsLines own (Common b)
    block-fits n b found =
        All-contains (λ (x : Block). FitsLines own (Common x)) (blocks objects) b each (find-found (is_block_of n) (blocks objects) b found).there

    -- what a symbol means that is chosen
    meant-fit : (s : SymbolOf) → Contains (chosen_symbols objects) s → All (FitsLines own) (meant_list objects s)
    meant-fit s chosen = by (is_common_symbol s) (block_named objects s.name) refl
      where
        by :
            (c : Bool) (o : Option Block) → block_named objects s.name ≡ o →
            All (FitsLines own) (option_map_or (λ m. m ∷ []) (cond c (option_map Common o) (Some (Symbol s))) [])
        by true None named = All-nil (FitsLines own)
        by true (Some b) named = All-cons (FitsLines own) (Common b) [] (block-fits s.name b named) (All-nil (FitsLines own))
        by false o named = All-cons (FitsLines own) (Symbol s) [] (symbol-fits s chosen) (All-nil (FitsLines own))

    all-meant : (ss : List SymbolOf) → All (λ s. All (FitsLines own) (meant_list objects s)) ss → All (FitsLines own) (meanings_of objects ss)
    all-meant [] all = All-nil (FitsLines own)
    all-meant (s ∷ ss) all =
        All-append (FitsLines own) (meant_list objects s) (meanings_of objects ss)
        (All-head (λ (t : SymbolOf). All (FitsLines own) (meant_list objects t)) s ss all)
        (all-meant ss (All-tail (λ (t : SymbolOf). All (FitsLines own) (meant_list objects t)) s ss all))

    -- what all that are chosen mean, with the lines of the linker's names, in any order
    pub lines-fit :
        (lines ms : List Meaning) → All (FitsLines own) lines → IsPermutation (meanings_of objects (chosen_symbols objects) ++ lines) ms →
        All (FitsLines own) ms
    lines-fit lines ms fit moved =
        All-permutation (FitsLines own) (meanings_of objects (chosen_symbols objects) ++ lines) ms moved
        (All-append (FitsLines own) (meanings_of objects (chosen_symbols objects)) lines
        (all-meant (chosen_symbols objects) (All-from_contains (λ (s : SymbolOf). All (FitsLines own) (meant_list objects s)) (chosen_symbols objects) meant-fit))
        fit)

-- the lines that fit, of definitions and of common blocks
pub symbols-fit : (b : Basis) (ms : List Meaning) → All (FitsLines b) ms → All FitsSymbol (map (symbol_row_of (own_where b.base b.objects)) ms)
symbols-fit b ms all = All-map FitsSymbol (symbol_row_of (own_where b.base b.objects)) ms (All-weaker (FitsLines b) (λ (m : Meaning). FitsSymbol (symbol_row_of (own_where b.base b.objects) m)) (λ m f. f.symbol) ms all)

pub commons-fit : (b : Basis) (ms : List Meaning) → All (FitsLines b) ms → All FitsCommon (own_commons b.base b.objects ms)
commons-fit b [] all = All-nil FitsCommon
commons-fit b (m ∷ ms) all =
    All-append FitsCommon (common_rows_of b.base b.objects m) (own_commons b.base b.objects ms) (All-head (FitsLines b) m ms all).commons
    (commons-fit b ms (All-tail (FitsLines b) m ms all))
