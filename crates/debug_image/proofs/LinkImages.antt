-- The own image of a link with other fields of its file header.
use Rattle.std.proofs.Common.{◌≡◌, ℕ, ◌+◌, ◌-◌, ◌^◌, ◌<◌, ◌≤◌, map, Bool, true, false, List, ◌++◌, length, refl, sym, ◌∙◌, ap, subst, arith, append_assoc, drop, take}
use Rattle.std.specs.Prelude.{None, Option, Some}
use Rattle.std.specs.List.{range_with_len}
use Rattle.std.proofs.lemmas.List.{append-nil, length-append}
use Rattle.elf_model.specs.Own.ImageFile.{HeaderFields, fields_without, header_bytes, image_file, own_byte, own_end, own_entry, own_fields, own_file_header, own_tables}
use Rattle.elf_model.specs.Link.Loading.{LoadedObject}
use Rattle.elf_model.specs.Link.Meaning.{Meaning}
use Rattle.elf_model.specs.Own.OwnLayout.{header_count, own_headers_size}
use Rattle.elf_model.specs.Inputs.Records.{file_header, file_header_bytes}
use Rattle.elf_model.specs.declared.records.FileHeader.{FileHeader}
use Rattle.image_write.specs.Linkages.{AreParts, Linked, loaded_of, own_image}
use Rattle.image_write.specs.Listings.{in_order, table_in}
use Rattle.image_write.specs.Parts.{file_parts}
use Rattle.image_write.specs.Tables.{HasTable, table_of}
use Rattle.image_write.specs.declared.linkage.Parts.{Parts}
use Rattle.image_write.specs.declared.symbol_table.SymbolTable.{SymbolTable}
use Rattle.own_link.proofs.ImageOwn.{IsRoomFor, own_suits}
use Rattle.resolve.specs.Views.{meaning_views}
use Rattle.debug_image.specs.PlainImages.{plain_of, with_sections}
use Rattle.elf_model.proofs.Running.{rounded_up}
use Rattle.debug_image.specs.DebugImage.{chunks_in, data_end_in, data_in, debug_file, front_of, headers_in, joined_in, sections_in, tables_in}
use Rattle.debug_image.specs.DebugValues.{all_bytes}
use Rattle.debug_image.specs.MappedSections.{AreMapped, in_memory}
use Rattle.debug_image.specs.Tables.{IsSmall, Tables, fields_of, headers_at, shstrtab_end, tail}
use Rattle.debug_image.specs.declared.debug_file.Wanted.{Wanted}
use Rattle.debug_image.proofs.MappedImages.{own_alloc, own_headers, own_mapped}
use Rattle.debug_image.proofs.MappedRows.{mapped_rows}
use Rattle.debug_image.proofs.OwnHeaders as own
use Rattle.own_link.proofs.ImageRead.{FitFields}

-- a table that there is has room
has_room :
    (base : ℕ) (objects : List LoadedObject) (ms : List Meaning) (strip : Bool) (o : Option SymbolTable) →
    HasTable objects (own_end base objects) ms strip o → IsRoomFor base objects (table_of strip objects ms)
has_room base objects ms true None has = tt
has_room base objects ms true (Some t) has = absurd has
has_room base objects ms false None has = absurd has
has_room base objects ms false (Some t) has = has.small

entry_kept : (base : ℕ) (objects : List LoadedObject) (entry : ℕ) (table : Option (List Meaning)) → (own_fields base objects entry table).e_entry ≡ entry
entry_kept base objects entry None = refl
entry_kept base objects entry (Some ms) = refl

module _ (l : Linked) (x : Parts) (made : AreParts (loaded_of l) x) (listed : meaning_views (in_order x.listed) ≡ l.listed) where
  abbrev base : ℕ
  base = l.plan.base

  abbrev objects : List LoadedObject
  objects = l.objects

  abbrev entry : ℕ
  entry = own_entry base objects l.plan.entry

  abbrev table : Option (List Meaning)
  table = table_of l.plan.strip objects l.listed

  abbrev old : HeaderFields
  old = own_fields base objects entry table

  entry_fits : entry < 2 ^ 64
  entry_fits = subst (λ (e : ℕ). e < 2 ^ 64) (sym made.entry) made.entry_fits

  old_fits : FitFields old
  old_fits =
      (own_suits base objects entry table entry_fits
      (subst (λ (ms : List Meaning). IsRoomFor base objects (table_of l.plan.strip objects ms)) listed
      (has_room base objects (meaning_views (in_order x.listed)) l.plan.strip (table_in x.listed) made.tabled))).fit

  pub long : 64 ≤ own_end base objects
  long = let h = own.headers_long base objects made.kinds made.base made.not_too_large made.objects in omega (arith, h)

  pub image_long : 64 ≤ length (own_image l)
  image_long =
      let p = own.part_long base objects made.kinds made.base made.not_too_large made.objects old in
      let all : length (own_image l) ≡ own_end base objects + length (own_tables base objects table) =
      ap length (sym (append_assoc (header_bytes base objects old) _ (own_tables base objects table)))
      ∙ (length-append _ (own_tables base objects table) ∙ ap (λ (k : ℕ). k + length (own_tables base objects table)) p) in
      omega (arith, all, long)

  -- the part up to the end of the last file part, with the fields of other sections
  pub plain_part_is :
      (t : Tables) (x : ℕ) (image : List ℕ) (header : FileHeader) (at last end : ℕ) → image ≡ own_image l → end ≡ own_end base objects →
      at ≡ headers_at x t → last ≡ length t.sections + 3 →
      header ≡ with_sections at last (file_header image) →
      file_header_bytes header ++ drop 64 (take end image) ≡ file_parts base objects (fields_of entry x t)
  plain_part_is t x image header at last end is_image is_end is_at is_last is_header =
      let new : HeaderFields = fields_of entry x t in
      let read : file_header image ≡ own_file_header old (header_count objects) =
      ap file_header is_image ∙ own.header_read base objects made.kinds made.base made.not_too_large made.objects old (own_tables base objects table) old_fits in
      let count : last + 1 ≡ length t.sections + 4 = omega (arith, is_last) in
      let h : header ≡ own_file_header new (header_count objects) =
      is_header
      ∙ (ap (with_sections at last) read
      ∙ (λ i. own_file_header (record { e_entry = entry_kept base objects entry table i; e_shoff = is_at i; e_shnum = count i; e_shstrndx = is_last i }) (header_count objects))) in
      ap (λ (g : FileHeader). file_header_bytes g ++ drop 64 (take end image)) h
      ∙ (ap (λ (n : ℕ). file_header_bytes (own_file_header new (header_count objects)) ++ drop 64 (take n image)) is_end
      ∙ (ap (λ (xs : List ℕ). file_header_bytes (own_file_header new (header_count objects)) ++ drop 64 (take (own_end base objects) xs)) is_image
      ∙ own.changed base objects made.kinds made.base made.not_too_large made.objects old new (own_tables base objects table)))

  new_fits : (t : Tables) (x : ℕ) → IsSmall t → x ≤ 2 ^ 58 → FitFields (fields_of entry x t)
  new_fits t x small e =
      let front = (rounded_up 8 x (omega arith)).1 in
      let back = (rounded_up 8 (shstrtab_end x t) (omega arith)).1 in
      let symbols = small.symbols in
      let names = small.names in
      let titles = small.titles in
      let sections = small.sections in
      record {
        entry = entry_fits;
        offset = omega (arith, e, front, back, symbols, names, titles);
        count = omega (arith, sections);
        names = omega (arith, sections);
      }

  -- what stands in front of the tables is the own image of a link without tables
  pub plain_is_image : (t : Tables) (x : ℕ) (rest : List ℕ) → IsSmall t → x ≤ 2 ^ 58 → l.plan.strip ≡ true → plain_of (front_of l t x ++ rest) ≡ own_image l
  plain_is_image t x rest small low strip =
      let f : HeaderFields = fields_of entry x t in
      let bytes : List ℕ =
      map (λ i. own_byte base objects (base + i)) (range_with_len (own_headers_size objects) (own_end base objects - own_headers_size objects)) in
      ap plain_of (append_assoc (header_bytes base objects f) bytes rest)
      ∙ (own.plain_is_own base objects made.kinds made.base made.not_too_large made.objects f rest (new_fits t x small low)
      ∙ (ap (λ (xs : List ℕ). header_bytes base objects (fields_without entry) ++ xs) (sym (append-nil bytes))
      ∙ ap (λ (b : Bool). image_file base objects entry (table_of b objects l.listed)) (sym strip)))

  -- its section headers tell what memory has, whatever stands behind it
  front_mapped :
      (t : Tables) (x : ℕ) (rest : List ℕ) → IsSmall t → x ≤ 2 ^ 58 →
      AreMapped (front_of l t x ++ rest) (own_headers base objects made.kinds made.base made.not_too_large made.objects)
  front_mapped t x rest small low =
      let f : HeaderFields = fields_of entry x t in
      let bytes : List ℕ =
      map (λ i. own_byte base objects (base + i)) (range_with_len (own_headers_size objects) (own_end base objects - own_headers_size objects)) in
      subst (λ (xs : List ℕ). AreMapped xs (own_headers base objects made.kinds made.base made.not_too_large made.objects))
      (sym (append_assoc (header_bytes base objects f) bytes rest))
      (own_mapped base objects made.kinds made.base made.not_too_large made.objects f rest (new_fits t x small low))

  pub file_mapped : (w : Wanted) (ms : List Meaning) → IsSmall (tables_in w l ms) → data_end_in w l ≤ 2 ^ 58 → AreMapped (debug_file w l ms) (in_memory (headers_in w l ms))
  file_mapped w ms small low =
      let t : Tables = tables_in w l ms in
      let x : ℕ = data_end_in w l in
      subst (AreMapped (debug_file w l ms))
      (sym (mapped_rows base (length objects) (own_end base objects) x (sections_in base objects) (joined_in w objects) t refl
      (own_alloc base objects made.kinds made.base made.not_too_large made.objects)))
      (front_mapped t x (all_bytes (data_in w l) (chunks_in w l) ++ tail x t) small low)
