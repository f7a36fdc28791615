-- Whether the symbol table has room: of what is listed just where of each own map.
use Rattle.std.proofs.Common.{◌≡◌, ◌<◌, ◌≤◌, ◌^◌, ℕ, List, Bool, true, false, [], arith, map, refl, subst, sym}
use Rattle.std.specs.Prelude.{All, option_to_list}
use Rattle.std.proofs.lemmas.List.Elements.{All-cons, All-nil}
use Rattle.elf_model.specs.Own.ImageFile.{IsTableSmall, own_end, symtab_line_of}
use Rattle.elf_model.specs.Link.Listing.{AreListed}
use Rattle.elf_model.specs.Image.MapText.{Ascends, FitsSymtab, SymbolBefore}
use Rattle.elf_model.specs.Link.Meaning.{Meaning}
use Rattle.elf_model.specs.Own.OwnLayout.{own_where}
use Rattle.elf_model.specs.Image.RightLink.{symbol_row_of}
use Rattle.elf_model.specs.Image.SymbolTable.{shstrtab_end, tables_end}
use Rattle.elf_model.specs.declared.link_map.SymtabLine.{SymtabLine}
use Rattle.elf_model.proofs.Running.{rounded_up}
use Rattle.layout.specs.Placements.{Basis}
use Rattle.image_write.specs.Maps.{IsMapOf, own_record, own_symtab}
use Rattle.image_write.specs.Tables.{entered}
use Rattle.linker.proofs.OwnMaps.{own_map, own_tabled_is}

module _ (b : Basis) (ms : List Meaning) (are : AreListed b.objects ms) (up : Ascends SymbolBefore (map (symbol_row_of (own_where b.base b.objects)) ms)) where
  abbrev ends_at : List Meaning → ℕ
  ends_at xs = tables_end (own_end b.base b.objects) xs

  pub small_table : ends_at (entered b.objects ms) < 2 ^ 32 → IsTableSmall b.base b.objects
  small_table small m own =
      subst (λ (xs : List Meaning). ends_at xs < 2 ^ 32) (sym (own_tabled_is b.base b.objects false ms are up m own)) small

  small_entered : IsTableSmall b.base b.objects → ends_at (entered b.objects ms) < 2 ^ 32
  small_entered small =
      let m = own_record b false ms in
      let is : IsMapOf b false ms m =
      record {
        version = refl;
        objects_are = refl;
        drops = refl;
        places = refl;
        commons = refl;
        got = refl;
        slots = refl;
        symbols_are = refl;
        symtab = refl;
      } in
      let own = own_map b false ms m is are up in
      subst (λ (xs : List Meaning). ends_at xs < 2 ^ 32) (own_tabled_is b.base b.objects false ms are up m own) (small m own)

  pub large_table : 2 ^ 32 ≤ ends_at (entered b.objects ms) → IsTableSmall b.base b.objects → ⊥
  large_table large small =
      let fits = small_entered small in
      omega (arith, large, fits)

  -- the line of the table fits
  pub symtab_fits : (strip : Bool) → (strip ≡ false → IsTableSmall b.base b.objects) → All FitsSymtab (option_to_list (own_symtab b strip ms))
  symtab_fits true small = All-nil FitsSymtab
  symtab_fits false small =
      let e = own_end b.base b.objects in
      let low = small_entered (small refl) in
      let front = rounded_up 8 e (omega arith) in
      let back = (rounded_up 8 (shstrtab_end e (entered b.objects ms)) (omega arith)).0 in
      All-cons FitsSymtab line [] (record { offset = omega (arith, low, front.1, back); count = omega (arith, low, front.0, back) }) (All-nil FitsSymtab)
    where
      line : SymtabLine
      line = symtab_line_of b.base b.objects (entered b.objects ms)
