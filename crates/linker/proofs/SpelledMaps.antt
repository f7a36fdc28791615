-- The definitions that have a line can be listed in the order of their names, and the own map of that list can be spelled.
use Rattle.std.proofs.Common.{◌≡◌, ◌∙◌, ℕ, ◌+◌, ◌<◌, ◌^◌, Bool, true, false, List, ◌++◌, ap, arith, get_or, length, map, refl, subst, sym}
use Rattle.std.specs.Prelude.{All, option_to_list}
use Rattle.std.specs.Cmp.Lexicographic.{slice_cmp}
use Rattle.std.specs.Ordering.{is_lt, nat_cmp, ordering_reverse}
use Rattle.std.specs.declared.cmp.Ordering.{Ordering}
use Rattle.std.specs.declared.cmp.Ordering.TheVariants.{Equal, Greater, Less}
use Rattle.std.proofs.lemmas.Bool.{false≢true}
use Rattle.std.proofs.lemmas.Cmp.{nat_list_cmp_total}
use Rattle.std.proofs.lemmas.List.{map-id}
use Rattle.std.proofs.lemmas.List.Sorted.{IsPermutation-refl}
use Rattle.std.proofs.lemmas.Slice.Eq.{bytes_eq-Decides}
use Rattle.elf_model.specs.Own.Causes.{HasRoom}
use Rattle.elf_model.specs.Link.ChosenSymbols.{chosen_symbols}
use Rattle.elf_model.specs.Inputs.Command.{Plan}
use Rattle.elf_model.specs.Link.Commons.{blocks}
use Rattle.elf_model.specs.Link.Listing.{AreLinkerLines, AreListed, has_meaning, listed}
use Rattle.elf_model.specs.Link.Loading.{LoadedObject}
use Rattle.elf_model.specs.Image.MapText.{AreBytes, Ascends, FitsDrop, FitsGot, FitsObject, FitsPlace, FitsSlot, SymbolBefore}
use Rattle.elf_model.specs.Link.Meaning.{Common, Meaning, meaning_name, meanings_of}
use Rattle.elf_model.specs.Own.OwnLayout.{own_got, own_slots, own_where}
use Rattle.elf_model.specs.Link.Pieces.{AreLawfulKinds, kept_sections}
use Rattle.elf_model.specs.Link.Resolution.{AreSoundSymbols}
use Rattle.elf_model.specs.Image.RightLink.{drop_rows, object_rows, symbol_row_of}
use Rattle.elf_model.proofs.Listing.{joined_listed, permuted_is_of}
use Rattle.elf_model.proofs.RisingNames.{neighbours_count}
use Rattle.elf_model.proofs.SymbolRows.{rows_ascend}
use Rattle.layout.specs.Placements.{Basis}
use Rattle.image_write.specs.Linkages.{HasSpelledMap}
use Rattle.image_write.specs.Maps.{own_row}
use Rattle.linker.specs.Spelled.{FitsLines}
use Rattle.linker.proofs.SortedOnce.{sorted, sorted_by, sorted_moved}
use Rattle.linker.proofs.SymbolLines.{commons-fit, lines-fit, symbols-fit}
use Rattle.linker.proofs.Tabled.{symtab_fits}

-- by the order of names
abbrev is_before : Meaning → Meaning → Bool
is_before m n = is_lt (slice_cmp nat_cmp (meaning_name m) (meaning_name n))

not_both : (m n : Meaning) → is_before m n ≡ true → is_before n m ≡ false
not_both m n before =
    ap is_lt (nat_list_cmp_total.antisymm (meaning_name n) (meaning_name m)) ∙ by (slice_cmp nat_cmp (meaning_name m) (meaning_name n)) before
  where
    by : (o : Ordering) → is_lt o ≡ true → is_lt (ordering_reverse o) ≡ false
    by Less less = refl
    by Equal less = absurd (false≢true less)
    by Greater less = absurd (false≢true less)

module _ (p : Plan) (objects : List LoadedObject) (lines : List Meaning) (of : AreLinkerLines objects lines) where
  abbrev own : Basis
  own = record { base = p.base; objects = objects }

  abbrev joined : List Meaning
  joined = meanings_of objects (chosen_symbols objects) ++ lines

  abbrev in_order : List Meaning
  in_order = sorted is_before not_both joined

  are : AreListed objects in_order
  are =
      permuted_is_of (listed objects) joined in_order (sorted_moved is_before not_both joined)
      (joined_listed objects (chosen_symbols objects) lines (IsPermutation-refl (chosen_symbols objects)) of)

  no_twins : (k : ℕ) (d : Meaning) → k + 1 < length in_order → meaning_name (get_or in_order k d) ≡ meaning_name (get_or in_order (k + 1) d) → ⊥
  no_twins k d within same =
      let n = meaning_name (get_or in_order k d) in
      let two =
      neighbours_count (has_meaning n) in_order k d within
      ((bytes_eq-Decides (meaning_name (get_or in_order k d)) n).1 refl)
      ((bytes_eq-Decides (meaning_name (get_or in_order (k + 1) d)) n).1 (sym same)) in
      let u = are.once n in
      omega (arith, two, u)

  rise : Ascends SymbolBefore (map (symbol_row_of (own_where p.base objects)) in_order)
  rise =
      subst (λ (ms : List Meaning). Ascends SymbolBefore (map (symbol_row_of (own_where p.base objects)) ms)) (map-id in_order)
      (rows_ascend (λ (m : Meaning). m) (own_where p.base objects) in_order (λ k d low within. sorted_by is_before not_both joined k d within) no_twins)

  pub spelled_map :
      AreLawfulKinds objects → HasRoom p objects → AreSoundSymbols objects → All (λ o. AreBytes o.bytes) objects → length objects < 2 ^ 64 →
      All (λ b. FitsLines own (Common b)) (blocks objects) → All (FitsLines own) lines → All FitsObject (object_rows 0 objects) →
      All FitsDrop (drop_rows 0 objects) → All FitsPlace (map (own_row own) (kept_sections objects)) →
      All FitsGot (option_to_list (own_got p.base objects)) → All FitsSlot (own_slots p.base objects) → HasSpelledMap p objects
  spelled_map kinds room sound bytes few blocks_fit linkers_fit objects_fit drops_fit places_fit got_fits slots_fit =
      let all = lines-fit p.base objects kinds room.layout sound bytes few blocks_fit lines in_order linkers_fit (sorted_moved is_before not_both joined) in
      record {
        lines = in_order;
        listed = are;
        rising = rise;
        fits = record {
          objects = objects_fit;
          drops = drops_fit;
          places = places_fit;
          commons = commons-fit own in_order all;
          got = got_fits;
          slots = slots_fit;
          symbols = symbols-fit own in_order all;
          symtab = symtab_fits own in_order are rise p.strip room.table;
        };
      }
