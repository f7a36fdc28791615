-- The own image with other fields of its file header, and other bytes behind its last file part.
use Rattle.std.proofs.Common.{◌≡◌, inl, Bool, ℕ, ◌+◌, ◌-◌, ◌*◌, ◌≤◌, true, cond, List, ◌++◌, length, map, refl, sym, ◌∙◌, ap, arith, append_assoc, drop, take}
use Rattle.std.specs.Prelude.{filter, nat_le}
use Rattle.std.specs.List.{flat_map, range_with_len}
use Rattle.std.proofs.Math.Seq.{drop-append-add}
use Rattle.std.proofs.lemmas.Bool.{le-leb}
use Rattle.std.proofs.lemmas.List.{length-append}
use Rattle.std.proofs.lemmas.List.FromFn.{length-map-range_with_len}
use Rattle.byteview.specs.Numbers.{part}
use Rattle.elf_model.specs.Inputs.Command.{IsBase}
use Rattle.elf_model.specs.Own.ImageFile.{HeaderFields, fields_without, header_bytes, own_byte, own_end, own_file_header, own_program_headers}
use Rattle.elf_model.specs.Link.Loading.{AreObjects, LoadedObject}
use Rattle.elf_model.specs.Image.MemoryImage.{file_end, headers_size, is_thread_block, loads, loads_in, program_headers, thread_blocks}
use Rattle.elf_model.specs.Own.OwnLayout.{IsNotTooLarge, header_count, own_headers_size, own_segments}
use Rattle.elf_model.specs.Link.Pieces.{AreLawfulKinds}
use Rattle.elf_model.specs.Inputs.Records.{file_header, file_header_bytes, program_header, program_header_bytes}
use Rattle.elf_model.specs.declared.records.FileHeader.{FileHeader}
use Rattle.elf_model.specs.declared.records.ProgramHeader.{ProgramHeader}
use Rattle.elf_model.proofs.Places.{AreOwnPlaced, are_own_placed}
use Rattle.elf_model.proofs.RecordLaws.{file_header-again, length-file_header_bytes}
use Rattle.own_link.proofs.HeaderTable.{length-headers}
use Rattle.own_link.proofs.ImageOwn.{few_headers, good_segments, header_count_is, own_thread_headers_of, wanted_loads, wanted_thread_blocks}
use Rattle.own_link.proofs.ImageRead.{FitFields, SuitsFile, file_end-long, fits_header}
use Rattle.own_link.proofs.ZeroFilled.{loaded_wants_zero, own_wants}
use Rattle.debug_image.specs.PlainImages.{cleared, plain_of}
use Rattle.debug_image.proofs.PlainParts.{plain_is}

-- program headers are read behind the file header, of which only their number matters
headers_behind :
    (h : List ℕ) (g : List ℕ) (rest : List ℕ) → length h ≡ 64 → length g ≡ 64 → (k : ℕ) → part (h ++ rest) (64 + k) 56 ≡ part (g ++ rest) (64 + k) 56
headers_behind h g rest hn gn k =
    let one : (f : List ℕ) → length f ≡ 64 → drop (64 + k) (f ++ rest) ≡ drop k rest =
    λ f n. ap (λ (m : ℕ). drop (m + k) (f ++ rest)) (sym n) ∙ drop-append-add f rest k in
    ap (take 56) (one h hn ∙ sym (one g gn))

pub table_behind :
    (h g rest : List ℕ) → length h ≡ 64 → length g ≡ 64 → (file_header (h ++ rest)).e_phnum ≡ (file_header (g ++ rest)).e_phnum →
    program_headers (h ++ rest) ≡ program_headers (g ++ rest)
table_behind h g rest hn gn same =
    ap (λ (f : ℕ → List ℕ). map (λ i. program_header (f i)) (range_with_len 0 (file_header (h ++ rest)).e_phnum))
    (λ i k. headers_behind h g rest hn gn (56 * k) i)
    ∙ ap (λ (n : ℕ). map (λ i. program_header (part (g ++ rest) (64 + 56 * i) 56)) (range_with_len 0 n)) same

module _ (base : ℕ) (objects : List LoadedObject) (kinds : AreLawfulKinds objects) (based : IsBase base) (fits : IsNotTooLarge base objects) (good : AreObjects objects) where
  stand : AreOwnPlaced base objects
  stand = are_own_placed base objects kinds

  abbrev programs : List ℕ
  programs = flat_map program_header_bytes (own_program_headers base objects)

  abbrev body : List ℕ
  body = map (λ i. own_byte base objects (base + i)) (range_with_len (own_headers_size objects) (own_end base objects - own_headers_size objects))

  abbrev front : HeaderFields → List ℕ
  front f = file_header_bytes (own_file_header f (header_count objects))

  -- the image with these fields and this tail
  abbrev pub image_with : HeaderFields → List ℕ → List ℕ
  image_with f tail = header_bytes base objects f ++ (body ++ tail)

  front_long : (f : HeaderFields) → length (front f) ≡ 64
  front_long f = length-file_header_bytes (own_file_header f (header_count objects)) refl

  pub headers_long : own_headers_size objects ≤ own_end base objects
  headers_long =
      file_end-long base (own_headers_size objects) (own_segments base objects) (good_segments base objects kinds based fits stand good) (omega arith)

  counted : header_count objects ≡ length (own_program_headers base objects)
  counted =
      header_count_is base objects
      ∙ sym (length-append (own_segments base objects) _ ∙ ap (λ (n : ℕ). length (own_segments base objects) + n) (length-append (own_thread_headers_of base objects) _))

  pub part_long : (f : HeaderFields) → length (header_bytes base objects f ++ body) ≡ own_end base objects
  part_long f =
      let h = length-headers (own_file_header f (header_count objects)) (own_program_headers base objects) refl in
      let b = length-map-range_with_len (λ i. own_byte base objects (base + i)) (own_headers_size objects) (own_end base objects - own_headers_size objects) in
      length-append (header_bytes base objects f) body ∙ omega (arith, h, b, headers_long, counted)

  -- up to the end of the last file part, with other fields
  pub changed : (f g : HeaderFields) (tail : List ℕ) → front g ++ drop 64 (take (own_end base objects) (image_with f tail)) ≡ header_bytes base objects g ++ body
  changed f g tail = plain_is (front f) (front g) programs body tail (own_end base objects) (front_long f) (part_long f)

  pub header_read : (f : HeaderFields) (tail : List ℕ) → FitFields f → file_header (image_with f tail) ≡ own_file_header f (header_count objects)
  header_read f tail s =
      ap file_header (append_assoc (front f) programs (body ++ tail))
      ∙ file_header-again (own_file_header f (header_count objects)) (programs ++ (body ++ tail)) (fits_header f (header_count objects) s (few_headers objects))

  -- the program headers of such an image are those of one without section headers
  bare_suits : (tail : List ℕ) → SuitsFile (fields_without 0) (own_end base objects + length tail)
  bare_suits tail = record {
    fit = record { entry = omega arith; offset = omega arith; count = omega arith; names = omega arith };
    sections = inl (record { offset = refl; count = refl; names = refl });
  }

  headers_as_bare : (f : HeaderFields) (tail : List ℕ) → FitFields f → program_headers (image_with f tail) ≡ program_headers (image_with (fields_without 0) tail)
  headers_as_bare f tail s =
      let g = fields_without 0 in
      let rest : List ℕ = programs ++ (body ++ tail) in
      let same : (file_header (front f ++ rest)).e_phnum ≡ (file_header (front g ++ rest)).e_phnum =
      ap (λ (xs : List ℕ). (file_header xs).e_phnum) (sym (append_assoc (front f) programs (body ++ tail)))
      ∙ (ap (λ (h : FileHeader). h.e_phnum) (header_read f tail s)
      ∙ (sym (ap (λ (h : FileHeader). h.e_phnum) (header_read g tail (bare_suits tail).fit))
      ∙ ap (λ (xs : List ℕ). (file_header xs).e_phnum) (append_assoc (front g) programs (body ++ tail)))) in
      ap program_headers (append_assoc (front f) programs (body ++ tail))
      ∙ (table_behind (front f) (front g) rest (front_long f) (front_long g) same
      ∙ ap program_headers (sym (append_assoc (front g) programs (body ++ tail))))

  -- its segments, and its block of thread-local storage
  pub loads_read : (f : HeaderFields) (tail : List ℕ) → FitFields f → loads (image_with f tail) ≡ own_segments base objects
  loads_read f tail s =
      ap loads_in (headers_as_bare f tail s)
      ∙ wanted_loads base objects kinds based fits stand good (own_wants base objects) (loaded_wants_zero objects good base stand) (fields_without 0) tail (bare_suits tail)

  pub blocks_read : (f : HeaderFields) (tail : List ℕ) → FitFields f → thread_blocks (image_with f tail) ≡ own_thread_headers_of base objects
  blocks_read f tail s =
      ap (λ (hs : List ProgramHeader). filter is_thread_block hs) (headers_as_bare f tail s)
      ∙ wanted_thread_blocks base objects kinds based fits stand good (own_wants base objects) (loaded_wants_zero objects good base stand) (fields_without 0) tail (bare_suits tail)

  -- its file header is read as a whole
  headers_inside : (f : HeaderFields) (tail : List ℕ) → FitFields f → headers_size (image_with f tail) ≤ length (image_with f tail)
  headers_inside f tail s =
      let n : headers_size (image_with f tail) ≡ own_headers_size objects =
      ap (λ (h : FileHeader). 64 + 56 * h.e_phnum) (header_read f tail s) in
      let all : length (image_with f tail) ≡ own_end base objects + length tail =
      ap length (sym (append_assoc (header_bytes base objects f) body tail))
      ∙ (length-append (header_bytes base objects f ++ body) tail ∙ ap (λ (k : ℕ). k + length tail) (part_long f)) in
      omega (arith, n, all, headers_long)

  -- the plain image of it is the image without section headers
  pub plain_is_own :
      (f : HeaderFields) (tail : List ℕ) → FitFields f →
      plain_of (image_with f tail) ≡ header_bytes base objects (fields_without f.e_entry) ++ body
  plain_is_own f tail s =
      let x : List ℕ = image_with f tail in
      let there : nat_le (headers_size x) (length x) ≡ true = le-leb (headers_size x) (length x) (headers_inside f tail s) in
      ap (λ (b : Bool). cond b (file_header_bytes (cleared (file_header x)) ++ drop 64 (take (file_end (loads x)) x)) x) there
      ∙ (ap (λ (h : FileHeader). file_header_bytes (cleared h) ++ drop 64 (take (file_end (loads x)) x)) (header_read f tail s)
      ∙ (ap (λ (hs : List ProgramHeader). front (fields_without f.e_entry) ++ drop 64 (take (file_end hs) x)) (loads_read f tail s)
      ∙ changed f (fields_without f.e_entry) tail))
