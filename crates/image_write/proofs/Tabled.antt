-- The numbers of a symbol table are those of the definitions that are listed: its parts stand where the image has them.
use Rattle.std.proofs.Common.{◌≡◌, ℕ, ◌+◌, ◌-◌, ◌*◌, Bool, true, false, List, length, refl, sym, ◌∙◌, ap, append_assoc, arith, subst}
use Rattle.std.specs.Prelude.{IfSome, None, Option, Some, ◌++◌, map, replicate}
use Rattle.std.specs.List.{flat_map, range_with_len}
use Rattle.elf_model.specs.Own.ImageFile.{fields_with, header_bytes, image_file, own_byte, own_end, own_fields, own_tables}
use Rattle.elf_model.specs.Link.Loading.{LoadedObject}
use Rattle.elf_model.specs.Link.Meaning.{Meaning}
use Rattle.elf_model.specs.Own.OwnLayout.{own_headers_size}
use Rattle.elf_model.specs.Link.Placement.{Where, round_up}
use Rattle.elf_model.specs.Inputs.Records.{section_header_bytes}
use Rattle.elf_model.specs.declared.records.SectionHeader.{SectionHeader}
use Rattle.elf_model.specs.Image.SymbolTable.{headers_at, name_section, section_names, shstrtab_end, symbol_section, table_headers, tables}
use Rattle.elf_model.proofs.Running.{rounded_up}
use Rattle.image_write.specs.Parts.{file_parts}
use Rattle.image_write.specs.Tables.{HasTable, IsInRange, IsTableOf, entered, fields_of, headers_place, section_names_end, symbols_place, table_headers_of, table_of}
use Rattle.image_write.specs.declared.symbol_table.SymbolTable.{SymbolTable}

module _ (objects : List LoadedObject) (e : ℕ) (ms : List Meaning) (t : SymbolTable) (is : IsTableOf objects e ms t) where
  pub headers_place_is : headers_place t ≡ headers_at e (entered objects ms)
  headers_place_is = λ i. round_up 8 (((round_up 8 (is.start i) + 24 * is.count i) + is.names i) + length section_names)

  pub table_in_range : IsInRange t
  table_in_range =
      let front = (rounded_up 8 e (omega arith)).0 in
      let back = (rounded_up 8 (shstrtab_end e (entered objects ms)) (omega arith)).0 in
      let small = is.small in
      let s = is.start in
      let c = is.count in
      let n = is.names in
      record {
        start = omega (arith, small, front, back, s);
        count = omega (arith, small, front, back, c);
        names = omega (arith, small, front, back, n);
      }

  pub from_start : IsTableOf objects t.start ms t
  from_start = subst (λ (x : ℕ). IsTableOf objects x ms t) (sym is.start) is

  section_names_end_is : section_names_end t ≡ shstrtab_end e (entered objects ms)
  section_names_end_is = λ i. ((round_up 8 (is.start i) + 24 * is.count i) + is.names i) + length section_names

  pub table_headers_are : table_headers_of t ≡ table_headers e (entered objects ms)
  table_headers_are =
      λ i. table_headers_of (record { start = is.start i; count = is.count i; names = is.names i })

-- what is put behind the last file part
pub tables_parts :
    (w : Where) (objects : List LoadedObject) (ms : List Meaning) (t : SymbolTable) → IsTableOf objects t.start ms t →
    (n k : ℕ) (names : List ℕ) (hs : List SectionHeader) → n ≡ symbols_place t - t.start → names ≡ section_names →
    k ≡ headers_place t - section_names_end t → hs ≡ table_headers_of t →
    tables w t.start (entered objects ms)
    ≡ replicate n 0
    ++ ((symbol_section w (entered objects ms) ++ name_section (entered objects ms))
    ++ (names ++ (replicate k 0 ++ flat_map section_header_bytes hs)))
tables_parts w objects ms t is n k names hs is_n is_names is_k is_hs =
    let ss = symbol_section w (entered objects ms) in
    let ns = name_section (entered objects ms) in
    let pad : k ≡ headers_at t.start (entered objects ms) - shstrtab_end t.start (entered objects ms) =
    is_k ∙ (λ i. headers_place_is objects t.start ms t is i - section_names_end_is objects t.start ms t is i) in
    let headers : hs ≡ table_headers t.start (entered objects ms) = is_hs ∙ table_headers_are objects t.start ms t is in
    (λ i. replicate (sym is_n i) 0 ++ (ss ++ (ns ++ (sym is_names i ++ (replicate (sym pad i) 0 ++ flat_map section_header_bytes (sym headers i))))))
    ∙ ap (λ (xs : List ℕ). replicate n 0 ++ xs) (sym (append_assoc ss ns (names ++ (replicate k 0 ++ flat_map section_header_bytes hs))))

pub range_of :
    (objects : List LoadedObject) (e : ℕ) (ms : List Meaning) (strip : Bool) (o : Option SymbolTable) → HasTable objects e ms strip o →
    IfSome o IsInRange
range_of objects e ms strip None has = tt
range_of objects e ms true (Some t) has = absurd has
range_of objects e ms false (Some t) has = table_in_range objects e ms t has

module _ (base : ℕ) (objects : List LoadedObject) (ms : List Meaning) where
  pub fields_are :
      (entry : ℕ) (strip : Bool) (o : Option SymbolTable) → HasTable objects (own_end base objects) ms strip o →
      fields_of entry o ≡ own_fields base objects entry (table_of strip objects ms)
  fields_are entry true None has = refl
  fields_are entry true (Some t) has = absurd has
  fields_are entry false None has = absurd has
  fields_are entry false (Some t) has = ap (fields_with entry) (headers_place_is objects (own_end base objects) ms t has)

  -- what is put is the image
  pub whole_image :
      (entry : ℕ) (strip : Bool) (o : Option SymbolTable) → HasTable objects (own_end base objects) ms strip o →
      file_parts base objects (fields_of entry o) ++ own_tables base objects (table_of strip objects ms)
      ≡ image_file base objects entry (table_of strip objects ms)
  whole_image entry strip o has =
      let t = table_of strip objects ms in
      ap (λ f. file_parts base objects f ++ own_tables base objects t) (fields_are entry strip o has)
      ∙ append_assoc (header_bytes base objects (own_fields base objects entry t))
      (map (λ i. own_byte base objects (base + i))
      (range_with_len (own_headers_size objects) (own_end base objects - own_headers_size objects)))
      (own_tables base objects t)
