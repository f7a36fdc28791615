-- The image file is the headers of the own segments, then the bytes of the own places with fill between them.
use Rattle.std.proofs.Common.{◌≡◌, ℕ, ◌+◌, ◌-◌, ◌*◌, ◌^◌, ◌≤◌, List, [], ◌∷◌, ◌++◌, refl, sym, ◌∙◌, ap, subst, arith}
use Rattle.std.specs.Prelude.{None, Option, Some, map, option_map}
use Rattle.std.specs.List.{flat_map, range_with_len}
use Rattle.std.specs.Option.{option_map_or}
use Rattle.elf_model.specs.Inputs.Command.{IsBase}
use Rattle.elf_model.specs.Own.ImageFile.{HeaderFields, header_bytes, own_byte, own_file_header, own_program_headers}
use Rattle.elf_model.specs.Image.MemoryImage.{file_end}
use Rattle.elf_model.specs.Link.Loading.{AreObjects, LoadedObject}
use Rattle.elf_model.specs.Own.OwnLayout.{IsNotTooLarge, own_headers_size, own_in_load_order, own_loaded, own_segments, own_where}
use Rattle.elf_model.specs.Link.Pieces.{AreLawfulKinds}
use Rattle.elf_model.specs.Link.Placement.{Placed}
use Rattle.elf_model.specs.Inputs.Records.{file_header_bytes, program_header_bytes}
use Rattle.elf_model.specs.Link.ThreadStorage.{thread_block, thread_header, thread_headers}
use Rattle.elf_model.specs.declared.records.ProgramHeader.{ProgramHeader}
use Rattle.elf_model.specs.declared.tls_block.TlsBlock.{TlsBlock}
use Rattle.layout.specs.Placements.{Basis}
use Rattle.layout.specs.Threads.{header_in}
use Rattle.own_link.proofs.ImageOwn.{header_count_is, own_thread_headers_of}
use Rattle.image_write.specs.Parts.{Rise, as_list, body_from, code_part, count_of, file_parts, headers_of}
use Rattle.image_write.specs.declared.fill_bytes.Code.{Code}
use Rattle.image_write.proofs.OwnBody.{file_low, own_body_is, own_rise}
use Rattle.image_write.proofs.Runs.{map_shifted}

-- a PT_TLS that may be there, as a list
pub threads_are : (base : ℕ) (qs : List Placed) → as_list (header_in base qs) ≡ thread_headers base qs
threads_are base qs = by (thread_block qs)
  where
    by :
        (b : Option TlsBlock) →
        as_list (option_map (thread_header base qs) b) ≡ option_map_or (λ (c : TlsBlock). thread_header base qs c ∷ []) b []
    by None = refl
    by (Some c) = refl

pub threads_is :
    (b : Basis) (header : Option ProgramHeader) → header ≡ header_in b.base (own_in_load_order b.base b.objects) → as_list header ≡ own_thread_headers_of b.base b.objects
threads_is b header is = ap as_list is ∙ threads_are b.base (own_in_load_order b.base b.objects)

module _ (base : ℕ) (objects : List LoadedObject) where
  own_headers_are :
      (fields : HeaderFields) →
      headers_of fields (own_segments base objects) (own_thread_headers_of base objects) ≡ header_bytes base objects fields
  own_headers_are fields =
      ap (λ (n : ℕ). file_header_bytes (own_file_header fields n) ++ flat_map program_header_bytes (own_program_headers base objects))
      (sym (header_count_is base objects))

  -- where the headers end
  pub from_is :
      (hs ts : List ProgramHeader) (from : ℕ) → hs ≡ own_segments base objects → ts ≡ own_thread_headers_of base objects →
      from ≡ base + (64 + 56 * count_of hs ts) → from ≡ base + own_headers_size objects
  from_is hs ts from is_hs is_ts is =
      is
      ∙ (ap (λ (gs : List ProgramHeader). base + (64 + 56 * count_of gs ts)) is_hs
      ∙ (ap (λ (gs : List ProgramHeader). base + (64 + 56 * count_of (own_segments base objects) gs)) is_ts
      ∙ ap (λ (n : ℕ). base + (64 + 56 * n)) (sym (header_count_is base objects))))

  -- what the code puts, where its numbers and lists are those of the own layout
  pub image_is :
      (based : IsBase base) (good : AreObjects objects) (kinds : AreLawfulKinds objects) (fits : IsNotTooLarge base objects) →
      (hs ts : List ProgramHeader) (qs : List Placed) (fields : HeaderFields) (from to : ℕ) →
      hs ≡ own_segments base objects → ts ≡ own_thread_headers_of base objects → qs ≡ own_loaded base objects → from ≡ base + (64 + 56 * count_of hs ts) → to ≡ base + file_end hs →
      headers_of fields hs ts ++ body_from objects (own_where base objects) (code_part hs) to from qs ≡ file_parts base objects fields
  image_is based good kinds fits hs ts qs fields from to is_hs is_ts is_qs is_from is_to =
      let at : from ≡ base + own_headers_size objects = from_is hs ts from is_hs is_ts is_from in
      let end : to ≡ base + file_end (own_segments base objects) = is_to ∙ ap (λ (gs : List ProgramHeader). base + file_end gs) is_hs in
      let n : (base + file_end (own_segments base objects)) - (base + own_headers_size objects) ≡ file_end (own_segments base objects) - own_headers_size objects = omega arith in
      let B : List ProgramHeader → ℕ → ℕ → List Placed → List ℕ = λ gs y x ps. body_from objects (own_where base objects) (code_part gs) y x ps in
      let body : B hs to from qs ≡ map (λ i. own_byte base objects (base + i)) (range_with_len (own_headers_size objects) (file_end (own_segments base objects) - own_headers_size objects)) =
      ap (λ (gs : List ProgramHeader). B gs to from qs) is_hs
      ∙ (ap (λ (y : ℕ). B (own_segments base objects) y from qs) end
      ∙ (ap (λ (x : ℕ). B (own_segments base objects) (base + file_end (own_segments base objects)) x qs) at
      ∙ (ap (λ (ps : List Placed). B (own_segments base objects) (base + file_end (own_segments base objects)) (base + own_headers_size objects) ps) is_qs
      ∙ (own_body_is base objects based good kinds fits
      ∙ (ap (λ (k : ℕ). map (own_byte base objects) (range_with_len (base + own_headers_size objects) k)) n
      ∙ sym (map_shifted (own_byte base objects) base (own_headers_size objects) (file_end (own_segments base objects) - own_headers_size objects))))))) in
      ap (λ (gs : List ProgramHeader). headers_of fields gs ts ++ B hs to from qs) is_hs
      ∙ (ap (λ (gs : List ProgramHeader). headers_of fields (own_segments base objects) gs ++ B hs to from qs) is_ts
      ∙ (ap (λ (bs : List ℕ). bs ++ B hs to from qs) (own_headers_are fields)
      ∙ ap (λ (bs : List ℕ). header_bytes base objects fields ++ bs) body))

-- the places of the own layout follow each other between the numbers that the code makes
pub rise_is :
    (base : ℕ) (objects : List LoadedObject) → IsBase base → AreObjects objects → AreLawfulKinds objects → IsNotTooLarge base objects →
    (hs ts : List ProgramHeader) (qs : List Placed) (from to : ℕ) → hs ≡ own_segments base objects → ts ≡ own_thread_headers_of base objects →
    qs ≡ own_loaded base objects →
    from ≡ base + (64 + 56 * count_of hs ts) → to ≡ base + file_end hs → Rise from to qs
rise_is base objects based good kinds fits hs ts qs from to is_hs is_ts is_qs is_from is_to =
    let at : from ≡ base + own_headers_size objects = from_is base objects hs ts from is_hs is_ts is_from in
    let end : to ≡ base + file_end (own_segments base objects) = is_to ∙ ap (λ (gs : List ProgramHeader). base + file_end gs) is_hs in
    subst (λ (x : ℕ). Rise x to qs) (sym at)
    (subst (λ (y : ℕ). Rise (base + own_headers_size objects) y qs) (sym end)
    (subst (Rise (base + own_headers_size objects) (base + file_end (own_segments base objects))) (sym is_qs)
    (own_rise base objects based good kinds fits)))

pub end_low :
    (base : ℕ) (objects : List LoadedObject) → IsBase base → AreObjects objects → AreLawfulKinds objects → IsNotTooLarge base objects →
    (hs : List ProgramHeader) (to : ℕ) → hs ≡ own_segments base objects → to ≡ base + file_end hs → to ≤ 2 ^ 46
end_low base objects based good kinds fits hs to is_hs is_to =
    let end : to ≡ base + file_end (own_segments base objects) = is_to ∙ ap (λ (gs : List ProgramHeader). base + file_end gs) is_hs in
    subst (λ (y : ℕ). y ≤ 2 ^ 46) (sym end) (file_low base objects based good kinds fits)

-- what the code puts, step by step
pub file_is :
    (r : Basis) → IsBase r.base → AreObjects r.objects → AreLawfulKinds r.objects → IsNotTooLarge r.base r.objects →
    (hs ts : List ProgramHeader) (qs : List Placed) (code : Code) (fields : HeaderFields) (from to : ℕ) (out mid new : List ℕ) →
    hs ≡ own_segments r.base r.objects → ts ≡ own_thread_headers_of r.base r.objects → qs ≡ own_loaded r.base r.objects → code ≡ code_part hs →
    from ≡ r.base + (64 + 56 * count_of hs ts) → to ≡ r.base + file_end hs →
    out ≡ [] → mid ≡ out ++ headers_of fields hs ts →
    new ≡ mid ++ body_from r.objects (own_where r.base r.objects) code to from qs → new ≡ file_parts r.base r.objects fields
file_is r based good kinds fits hs ts qs code fields from to out mid new is_hs is_ts is_qs is_code is_from is_to is_out is_mid is_new =
    let front : mid ≡ headers_of fields hs ts = is_mid ∙ ap (λ (bs : List ℕ). bs ++ headers_of fields hs ts) is_out in
    is_new
    ∙ (ap (λ (bs : List ℕ). bs ++ body_from r.objects (own_where r.base r.objects) code to from qs) front
    ∙ (ap (λ (c : Code). headers_of fields hs ts ++ body_from r.objects (own_where r.base r.objects) c to from qs) is_code
    ∙ image_is r.base r.objects based good kinds fits hs ts qs fields from to is_hs is_ts is_qs is_from is_to))
