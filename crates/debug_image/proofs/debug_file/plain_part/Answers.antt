use Rattle.std.proofs.Common.{◌≡◌, ◌≤◌, ◌++◌, ◌∙◌, ℕ, List, ap, drop, length, subst, sym, arith, take}
use Rattle.std.proofs.lemmas.List.{length-take}
use Rattle.elf_model.specs.Inputs.Records.{file_header, file_header_bytes}
use Rattle.debug_image.specs.PlainImages.{with_sections}
use Rattle.debug_image.specs.Views.{tables_view}
use Rattle.debug_image.proofs.LinkImages.{image_long, plain_part_is}
use Rattle.debug_image.proofs.debug_file.plain_part.Goals as goal

pub header_of-header-requires-clause-long : goal.header_of-header-requires-clause-long
header_of-header-requires-clause-long c =
    let e = c.parts-parts.ensures in
    subst (λ (xs : List ℕ). 64 ≤ length xs) (sym (c.deref.ensures.value ∙ c.in_ok-file.ensures))
    (image_long c.args.linkage.now c.parts-parts.result.now e.parts e.listed)

pub put_header-requires : goal.put_header-requires
put_header-requires c =
    let e = c.parts-parts.ensures in
    let whole : 64 ≤ length c.in_ok-file.file.items =
    subst (λ (xs : List ℕ). 64 ≤ length xs) (sym c.in_ok-file.ensures)
    (image_long c.args.linkage.now c.parts-parts.result.now e.parts e.listed) in
    let end = c.end_of-end.ensures.long in
    let is : length c.truncate.new.self.items ≡ length (take c.end_of-end.result c.in_ok-file.file.items) = ap (λ (xs : List ℕ). length xs) c.truncate.ensures.items in
    let n = length-take c.end_of-end.result c.in_ok-file.file.items in
    omega (arith, whole, end, is, n)

pub returns : goal.returns
returns c =
    let e = c.parts-parts.ensures in
    let t = tables_view c.args.tables.now in
    c.put_header.ensures
    ∙ (ap (λ (xs : List ℕ). file_header_bytes c.header_of-header.result ++ drop 64 xs) c.truncate.ensures.items
    ∙ plain_part_is c.args.linkage.now c.parts-parts.result.now e.parts e.listed t c.args.behind c.in_ok-file.file.items c.header_of-header.result
    c.offsets-headers.result.headers c.last-last.result c.end_of-end.result c.in_ok-file.ensures c.end_of-end.ensures.end
    c.offsets-headers.ensures.headers
    c.last-last.ensures
    (c.header_of-header.ensures
    ∙ ap (λ (xs : List ℕ). with_sections c.offsets-headers.result.headers c.last-last.result (file_header xs)) c.deref.ensures.value))
