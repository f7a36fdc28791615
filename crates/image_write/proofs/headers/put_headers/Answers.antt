use Rattle.std.proofs.Common.{◌≡◌, ◌∷◌, [], ◌++◌, ◌∙◌, List, ℕ, ap, refl, sym}
use Rattle.std.specs.List.{flat_map}
use Rattle.std.proofs.lemmas.List.{append-nil}
use Rattle.std.proofs.lemmas.List.Concat.{flat_map-append}
use Rattle.elf_model.specs.Own.ImageFile.{HeaderFields, own_file_header, stack_header}
use Rattle.elf_model.specs.Inputs.Records.{file_header_bytes, program_header_bytes}
use Rattle.elf_model.specs.declared.records.FileHeader.{FileHeader}
use Rattle.elf_model.specs.declared.records.ProgramHeader.{ProgramHeader}
use Rattle.image_write.specs.Parts.{as_list, count_of, headers_of}
use Rattle.image_write.specs.Tables.{fields_of}
use Rattle.image_write.proofs.StreamLaws.{puts_are}
use Rattle.image_write.proofs.StreamSteps.{towards_fault, towards_last, towards_more, towards_nothing}
use Rattle.image_write.proofs.headers.put_headers.Goals as goal

-- the headers, part by part
headers_are :
    (fields : HeaderFields) (n : ℕ) (h : FileHeader) (hs ts : List ProgramHeader) → h ≡ own_file_header fields n → n ≡ count_of hs ts →
    headers_of fields hs ts
    ≡ file_header_bytes h ++ (flat_map program_header_bytes hs ++ (flat_map program_header_bytes ts ++ program_header_bytes stack_header))
headers_are fields n h hs ts is_h is_n =
    let first : file_header_bytes (own_file_header fields (count_of hs ts)) ≡ file_header_bytes h =
    ap (λ (k : ℕ). file_header_bytes (own_file_header fields k)) (sym is_n) ∙ ap file_header_bytes (sym is_h) in
    let last : flat_map program_header_bytes (ts ++ stack_header ∷ []) ≡ flat_map program_header_bytes ts ++ program_header_bytes stack_header =
    flat_map-append program_header_bytes ts (stack_header ∷ [])
    ∙ ap (λ (bs : List ℕ). flat_map program_header_bytes ts ++ bs) (append-nil (program_header_bytes stack_header)) in
    ap (λ (bs : List ℕ). bs ++ flat_map program_header_bytes (hs ++ (ts ++ stack_header ∷ []))) first
    ∙ ap (λ (bs : List ℕ). file_header_bytes h ++ bs)
    (flat_map-append program_header_bytes hs (ts ++ stack_header ∷ []) ∙ ap (λ (bs : List ℕ). flat_map program_header_bytes hs ++ bs) last)

pub returns-in_err-put_file_header : goal.returns-in_err-put_file_header
returns-in_err-put_file_header g c =
    towards_fault _ _ _ _ _ _ _ _ (towards_nothing _ _)
    (headers_are (fields_of c.args.entry c.args.table) c.header_count.result c.file_header-header.result c.args.segments.now (as_list c.args.threads)
    c.file_header-header.ensures c.header_count.ensures)
    c.from_residual.ensures.0 c.in_err-put_file_header.ensures.breaks

pub returns-in_err-put_segments : goal.returns-in_err-put_segments
returns-in_err-put_segments g c =
    towards_fault _ _ _ _ _ _ _ _
    (towards_more _ _ _ _ _ _ _ (towards_nothing _ _)
    (headers_are (fields_of c.args.entry c.args.table) c.header_count.result c.file_header-header.result c.args.segments.now (as_list c.args.threads)
    c.file_header-header.ensures c.header_count.ensures) c.in_ok-put_file_header.ensures.grows)
    refl c.from_residual-in_err-put_segments.ensures.0 c.in_err-put_segments.ensures.breaks

pub returns-in_err-put_thread_header : goal.returns-in_err-put_thread_header
returns-in_err-put_thread_header g c =
    towards_fault _ _ _ _ _ _ _ _
    (towards_more _ _ _ _ _ _ _
    (towards_more _ _ _ _ _ _ _ (towards_nothing _ _)
    (headers_are (fields_of c.args.entry c.args.table) c.header_count.result c.file_header-header.result c.args.segments.now (as_list c.args.threads)
    c.file_header-header.ensures c.header_count.ensures) c.in_ok-put_file_header.ensures.grows)
    refl c.in_ok-put_segments.ensures.grows)
    refl c.from_residual-in_err-put_thread_header.ensures.0 c.in_err-put_thread_header.ensures.breaks

pub returns : goal.returns
returns g c =
    towards_last _ _ _ _ _ _
    (towards_more _ _ _ _ _ _ _
    (towards_more _ _ _ _ _ _ _
    (towards_more _ _ _ _ _ _ _ (towards_nothing _ _)
    (headers_are (fields_of c.args.entry c.args.table) c.header_count.result c.file_header-header.result c.args.segments.now (as_list c.args.threads)
    c.file_header-header.ensures c.header_count.ensures) c.in_ok-put_file_header.ensures.grows)
    refl c.in_ok-put_segments.ensures.grows)
    refl c.in_ok-put_thread_header.ensures.grows)
    (puts_are _ _ _ _ _ (ap program_header_bytes c.stack_header.ensures) c.put_program_header.ensures)
