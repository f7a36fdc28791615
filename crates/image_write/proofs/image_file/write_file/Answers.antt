use Rattle.std.proofs.Common.{◌≡◌, ◌+◌, ◌*◌, ◌++◌, List, ℕ, [], arith, refl, subst, sym}
use Rattle.std.specs.Prelude.{All}
use Rattle.elf_model.specs.Inputs.Command.{IsBase}
use Rattle.elf_model.specs.Own.ImageFile.{HeaderFields}
use Rattle.elf_model.specs.Image.MemoryImage.{file_end}
use Rattle.elf_model.specs.Link.Loading.{AreObjects}
use Rattle.elf_model.specs.Own.OwnLayout.{IsNotTooLarge, own_loaded, own_segments, own_where}
use Rattle.elf_model.specs.Link.Pieces.{AreLawfulKinds}
use Rattle.elf_model.specs.Link.Placement.{Placed}
use Rattle.elf_model.specs.declared.records.ProgramHeader.{ProgramHeader}
use Rattle.own_link.proofs.ImageOwn.{own_thread_headers_of}
use Rattle.elf_model.proofs.Places.{are_own_placed}
use Rattle.placing.specs.PlaceViews.{place_views}
use Rattle.layout.specs.Placements.{Basis}
use Rattle.image_write.specs.Parts.{AreFull, EndsLow, as_list, body_from, code_part, count_of, file_parts, headers_of}
use Rattle.image_write.specs.Tables.{fields_of}
use Rattle.image_write.specs.declared.fill_bytes.Code.{Code}
use Rattle.image_write.proofs.Files.{end_low, file_is, rise_is, threads_is}
use Rattle.image_write.proofs.OwnBody.{ends_low}
use Rattle.image_write.proofs.StreamSteps.{towards_fault, towards_last, towards_more, towards_nothing}
use Rattle.image_write.proofs.Wholes.{own_full}
use Rattle.image_write.proofs.image_file.write_file.Goals as goal

-- the image file as its headers and what follows them
parts_are :
    (r : Basis) → IsBase r.base → AreObjects r.objects → AreLawfulKinds r.objects → IsNotTooLarge r.base r.objects →
    (hs ts : List ProgramHeader) (qs : List Placed) (code : Code) (fields : HeaderFields) (from to : ℕ) →
    hs ≡ own_segments r.base r.objects → ts ≡ own_thread_headers_of r.base r.objects → qs ≡ own_loaded r.base r.objects → code ≡ code_part hs →
    from ≡ r.base + (64 + 56 * count_of hs ts) → to ≡ r.base + file_end hs →
    file_parts r.base r.objects fields ≡ headers_of fields hs ts ++ body_from r.objects (own_where r.base r.objects) code to from qs
parts_are r based good kinds fits hs ts qs code fields from to is_hs is_ts is_qs is_code is_from is_to =
    sym (file_is r based good kinds fits hs ts qs code fields from to [] (headers_of fields hs ts) _ is_hs is_ts is_qs is_code is_from is_to refl refl refl)

pub file_end-requires : goal.file_end-requires
file_end-requires g c =
    let b = c.args.contents.now.placement.now in
    subst (All EndsLow) (sym c.segments-segments.ensures) (ends_low b.base b.objects c.requires.base c.requires.objects c.requires.kinds c.requires.fits)

pub code_of-code-requires : goal.code_of-code-requires
code_of-code-requires g c =
    let b = c.args.contents.now.placement.now in
    subst (All EndsLow) (sym c.segments-segments.ensures) (ends_low b.base b.objects c.requires.base c.requires.objects c.requires.kinds c.requires.fits)

pub put_places-requires-clause-rise : goal.put_places-requires-clause-rise
put_places-requires-clause-rise g c =
    let basis = c.args.contents.now.placement.now in
    let t = threads_is basis c.thread_header-threads.result c.thread_header-threads.ensures in
    let b = c.base-base.ensures in
    let h = c.headers_size.ensures in
    let e = c.file_end.ensures in
    rise_is basis.base basis.objects c.requires.base c.requires.objects c.requires.kinds c.requires.fits
    c.segments-segments.result.now (as_list c.thread_header-threads.result) (place_views c.loaded_places.result.now) (c.base-base.result + c.headers_size.result)
    (c.base-base.result + c.file_end.result) c.segments-segments.ensures t c.loaded_places.ensures (omega (arith, b, h)) (omega (arith, b, e))

pub put_places-requires-clause-low : goal.put_places-requires-clause-low
put_places-requires-clause-low g c =
    let basis = c.args.contents.now.placement.now in
    let b = c.base-base.ensures in
    let e = c.file_end.ensures in
    end_low basis.base basis.objects c.requires.base c.requires.objects c.requires.kinds c.requires.fits
    c.segments-segments.result.now (c.base-base.result + c.file_end.result) c.segments-segments.ensures (omega (arith, b, e))

pub put_places-requires-clause-full : goal.put_places-requires-clause-full
put_places-requires-clause-full g c =
    let basis = c.args.contents.now.placement.now in
    subst (λ (qs : List Placed). AreFull basis.objects (own_where basis.base basis.objects) qs) (sym c.loaded_places.ensures)
    (own_full basis.base basis.objects c.requires.objects c.requires.kinds (are_own_placed basis.base basis.objects c.requires.kinds))

pub returns-in_err-put_headers : goal.returns-in_err-put_headers
returns-in_err-put_headers g c =
    let basis = c.args.contents.now.placement.now in
    let t = threads_is basis c.thread_header-threads.result c.thread_header-threads.ensures in
    let b = c.base-base.ensures in
    let h = c.headers_size.ensures in
    let e = c.file_end.ensures in
    towards_fault _ _ _ _ _ _ _ _ (towards_nothing _ _)
    (parts_are basis c.requires.base c.requires.objects c.requires.kinds c.requires.fits
    c.segments-segments.result.now (as_list c.thread_header-threads.result) (own_loaded basis.base basis.objects) (code_part c.segments-segments.result.now)
    (fields_of c.args.entry c.args.table) (c.base-base.result + c.headers_size.result) (c.base-base.result + c.file_end.result)
    c.segments-segments.ensures t refl refl (omega (arith, b, h)) (omega (arith, b, e)))
    c.from_residual.ensures.0 c.in_err-put_headers.ensures.breaks

pub returns : goal.returns
returns g c =
    let basis = c.args.contents.now.placement.now in
    let t = threads_is basis c.thread_header-threads.result c.thread_header-threads.ensures in
    let b = c.base-base.ensures in
    let h = c.headers_size.ensures in
    let e = c.file_end.ensures in
    towards_last _ _ _ _ _ _
    (towards_more _ _ _ _ _ _ _ (towards_nothing _ _)
    (parts_are basis c.requires.base c.requires.objects c.requires.kinds c.requires.fits
    c.segments-segments.result.now (as_list c.thread_header-threads.result) (place_views c.loaded_places.result.now) c.code_of-code.result
    (fields_of c.args.entry c.args.table) (c.base-base.result + c.headers_size.result) (c.base-base.result + c.file_end.result)
    c.segments-segments.ensures t c.loaded_places.ensures c.code_of-code.ensures (omega (arith, b, h)) (omega (arith, b, e)))
    c.in_ok-put_headers.ensures.grows)
    c.put_places.ensures
