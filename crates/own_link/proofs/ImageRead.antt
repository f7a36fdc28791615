-- The own image file reads back: its headers, its length and its bytes.
use Rattle.std.proofs.Common.{◌≡◌, ◌⊎◌, ℕ, ◌+◌, ◌-◌, ◌*◌, ◌^◌, ◌<◌, ◌≤◌, List, [], ◌∷◌, ◌++◌, length, refl, sym, ◌∙◌, ap, subst, arith, append_assoc, drop}
use Rattle.std.specs.Prelude.{All, Contains, map, slice_index}
use Rattle.std.specs.List.{flat_map, range_with_len}
use Rattle.std.proofs.lemmas.List.{drop_at, get_or-append_right, get_or_append_left, length-append}
use Rattle.std.proofs.lemmas.List.Elements.{All-append, All-cons, All-contains, All-nil, All-weaker}
use Rattle.std.proofs.lemmas.List.FromFn.{get_or-map-range_with_len, length-map-range_with_len}
use Rattle.elf_model.specs.Own.ImageFile.{HeaderFields, own_file_header, stack_header}
use Rattle.elf_model.specs.Image.MemoryImage.{HasNoSections, HasSections, IsGoodThreadBlock, file_end, program_headers}
use Rattle.elf_model.specs.Inputs.Records.{file_header, file_header_bytes, program_header_bytes, FitsFileHeader, FitsProgramHeader}
use Rattle.elf_model.specs.declared.records.FileHeader.{FileHeader}
use Rattle.elf_model.specs.declared.records.ProgramHeader.{ProgramHeader}
use Rattle.own_link.proofs.Ends.{FileEndsBelow, file_end-holds}
use Rattle.own_link.proofs.HeaderTable.{headed, headed-header, headed-table, length-headers}
use Rattle.elf_model.proofs.Listed.{Contains-here}
use Rattle.own_link.proofs.SegmentHeaders.{AreOwnSegments, IsGoodSegment}

-- what is known of the headers of thread blocks, of which there is at most one
pub record IsThreadHeader (base : ℕ) (h : ProgramHeader) : Type 0 where
  pub type_ : h.p_type ≡ 7
  pub good : IsGoodThreadBlock base h
  pub small : h.p_align < 2 ^ 64

pub record AreThreadHeaders (base : ℕ) (ts : List ProgramHeader) : Type 0 where
  pub each : All (IsThreadHeader base) ts
  pub few : length ts ≤ 1

-- headers of segments and of thread blocks, PT_GNU_STACK's, the byte of each address up to the end of the last file part, and
-- what stands behind it
abbrev pub table_of : List ProgramHeader → List ProgramHeader → List ProgramHeader
table_of hs ts = hs ++ (ts ++ stack_header ∷ [])

abbrev pub made_headers : HeaderFields → ℕ → List ProgramHeader → List ProgramHeader → List ℕ
made_headers fields count hs ts =
    file_header_bytes (own_file_header fields count) ++ flat_map program_header_bytes (table_of hs ts)

abbrev pub made_image : HeaderFields → ℕ → ℕ → ℕ → List ProgramHeader → List ProgramHeader → (ℕ → ℕ) → List ℕ → List ℕ
made_image fields count base size hs ts byte tail =
    made_headers fields count hs ts ++ (map (λ i. byte (base + i)) (range_with_len size (file_end hs - size)) ++ tail)

-- fields of a file header that fit it
pub record FitFields (fields : HeaderFields) : Type 0 where
  pub entry : fields.e_entry < 2 ^ 64
  pub offset : fields.e_shoff < 2 ^ 64
  pub count : fields.e_shnum < 2 ^ 16
  pub names : fields.e_shstrndx < 2 ^ 16

-- fields fit their records, and speak of no sections or of those at the end of a file that is so long
pub record SuitsFile (fields : HeaderFields) (len : ℕ) : Type 0 where
  pub fit : FitFields fields
  pub sections : HasNoSections (own_file_header fields 0) ⊎ HasSections len (own_file_header fields 0)

-- what is read of such an image
pub record IsOwnFile (image : List ℕ) (fields : HeaderFields) (count base size : ℕ) (hs : List ProgramHeader) (byte : ℕ → ℕ) : Type 0 where
  pub tail : List ℕ
  pub threads : List ProgramHeader
  pub threads_are : AreThreadHeaders base threads
  pub counted : count ≡ length hs + (length threads + 1)
  pub size_is : size ≡ 64 + 56 * count
  pub header : file_header image ≡ own_file_header fields count
  pub suits : SuitsFile fields (length image)
  pub table : program_headers image ≡ table_of hs threads
  pub len : length image ≡ file_end hs + length tail
  pub long : size ≤ file_end hs
  pub bytes : (i : ℕ) → size ≤ i → i < file_end hs → slice_index image i ≡ byte (base + i)
  pub rest : drop (file_end hs) image ≡ tail

pub fits_header : (fields : HeaderFields) (count : ℕ) → FitFields fields → count < 2 ^ 16 → FitsFileHeader (own_file_header fields count)
fits_header fields count s c = record {
  e_ident = refl;
  e_type = omega arith;
  e_machine = omega arith;
  e_version = omega arith;
  e_entry = s.entry;
  e_phoff = omega arith;
  e_shoff = s.offset;
  e_flags = omega arith;
  e_ehsize = omega arith;
  e_phentsize = omega arith;
  e_phnum = c;
  e_shentsize = omega arith;
  e_shnum = s.count;
  e_shstrndx = s.names;
}

fits_segment : (base : ℕ) (h : ProgramHeader) → IsGoodSegment base h → FitsProgramHeader h
fits_segment base h g = record {
  p_type = omega (arith, g.type_);
  p_flags = omega (arith, g.rights_high);
  p_offset = omega (arith, g.end, g.offset);
  p_vaddr = omega (arith, g.end);
  p_paddr = omega (arith, g.end, g.physical);
  p_filesz = omega (arith, g.end, g.file_in_memory);
  p_memsz = omega (arith, g.end);
  p_align = omega (arith, g.align);
}

fits_threads : (base : ℕ) (h : ProgramHeader) → IsThreadHeader base h → FitsProgramHeader h
fits_threads base h t =
    let g = t.good in
    let e = g.end in
    let f = g.file_in_memory in
    let o = g.offset in
    let p = g.physical in
    record {
      p_type = omega (arith, t.type_);
      p_flags = omega (arith, g.rights);
      p_offset = omega (arith, e, o);
      p_vaddr = omega (arith, e);
      p_paddr = omega (arith, e, p);
      p_filesz = omega (arith, e, f);
      p_memsz = omega (arith, e);
      p_align = t.small;
    }

fits_stack : FitsProgramHeader stack_header
fits_stack = record {
  p_type = omega arith;
  p_flags = omega arith;
  p_offset = omega arith;
  p_vaddr = omega arith;
  p_paddr = omega arith;
  p_filesz = omega arith;
  p_memsz = omega arith;
  p_align = omega arith;
}

-- the first segment begins with the file, and the file is as long as its headers
module _ (base size : ℕ) (hs : List ProgramHeader) (own : AreOwnSegments base size hs) where
  pub first_there : Contains hs own.first
  first_there = subst (λ (gs : List ProgramHeader). Contains gs own.first) (sym own.segments_are) (Contains-here own.others own.first)

  pub first_good : IsGoodSegment base own.first
  first_good = All-contains (IsGoodSegment base) hs own.first own.each first_there

  pub file_end-long : 0 < size → size ≤ file_end hs
  file_end-long some =
      let below = All-contains (FileEndsBelow (file_end hs)) hs own.first (file_end-holds hs (file_end hs) (omega arith)) first_there in
      let h = own.first_holds in
      let b = below (omega (arith, some, h)) in
      omega (arith, b, h)

pub made_is_own :
    (fields : HeaderFields) (count base size : ℕ) (hs ts : List ProgramHeader) (byte : ℕ → ℕ) (tail : List ℕ) →
    AreOwnSegments base size hs → AreThreadHeaders base ts → count ≡ length hs + (length ts + 1) → size ≡ 64 + 56 * count →
    SuitsFile fields (file_end hs + length tail) → count < 2 ^ 16 →
    (file : IsOwnFile (made_image fields count base size hs ts byte tail) fields count base size hs byte)
    × (file.threads ≡ ts)
    × (file.tail ≡ tail)
made_is_own fields count base size hs ts byte tail own blocks counted sized suits c =
    let table : List ProgramHeader = table_of hs ts in
    let h : FileHeader = own_file_header fields count in
    let fh = fits_header fields count suits.fit c in
    let body : List ℕ = map (λ i. byte (base + i)) (range_with_len size (file_end hs - size)) in
    let front : List ℕ = made_headers fields count hs ts in
    let fit : All FitsProgramHeader table =
    All-append FitsProgramHeader hs (ts ++ stack_header ∷ []) (All-weaker (IsGoodSegment base) FitsProgramHeader (fits_segment base) hs own.each)
    (All-append FitsProgramHeader ts (stack_header ∷ []) (All-weaker (IsThreadHeader base) FitsProgramHeader (fits_threads base) ts blocks.each)
    (All-cons FitsProgramHeader stack_header [] fits_stack (All-nil FitsProgramHeader))) in
    let longer : length table ≡ length hs + (length ts + 1) =
    length-append hs (ts ++ stack_header ∷ []) ∙ ap (λ (n : ℕ). length hs + n) (length-append ts (stack_header ∷ [])) in
    let whole : made_image fields count base size hs ts byte tail ≡ headed h table (body ++ tail) =
    append_assoc (file_header_bytes h) (flat_map program_header_bytes table) (body ++ tail) in
    let sized_front : length front ≡ size =
    length-headers h table refl ∙ omega (arith, longer, counted, sized) in
    let long = file_end-long base size hs own (omega (arith, sized)) in
    let body_long : length body ≡ file_end hs - size = length-map-range_with_len (λ i. byte (base + i)) size (file_end hs - size) in
    let up_to : length (front ++ body) ≡ file_end hs = length-append front body ∙ omega (arith, sized_front, body_long, long) in
    let all : length (made_image fields count base size hs ts byte tail) ≡ file_end hs + length tail =
    length-append front (body ++ tail) ∙ (let b = length-append body tail in omega (arith, sized_front, b, body_long, long)) in (
      record {
        tail = tail;
        threads = ts;
        threads_are = blocks;
        counted = counted;
        size_is = sized;
        header = ap file_header whole ∙ headed-header h table (body ++ tail) fh;
        suits = subst (SuitsFile fields) (sym all) suits;
        table = ap program_headers whole ∙ headed-table h table (body ++ tail) fh fit (counted ∙ sym longer);
        len = all;
        long = long;
        bytes = λ i low high.
            get_or-append_right front (body ++ tail) size i 0 sized_front low
            ∙ (get_or_append_left body tail 0 (i - size) (omega (arith, low, high, body_long))
            ∙ get_or-map-range_with_len (λ k. byte (base + k)) size (file_end hs - size) (i - size) i 0
            (omega (arith, low, high)) (omega (arith, low)));
        rest =
            ap (λ (xs : List ℕ). drop (file_end hs) xs) (sym (append_assoc front body tail)) ∙ drop_at (front ++ body) tail (file_end hs) up_to;
      },
      refl,
      refl,
    )
