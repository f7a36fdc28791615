use Rattle.std.proofs.Common.{◌≡◌, ◌+◌, ◌*◌, ◌≤◌, length, refl, subst, arith}
use Rattle.elf_model.specs.Image.MemoryImage.{headers_size}
use Rattle.elf_model.specs.Inputs.Records.{file_header}
use Rattle.elf_model.specs.declared.records.FileHeader.{FileHeader}
use Rattle.debug_image.proofs.PlainSteps.{plain_made}
use Rattle.debug_image.proofs.plain_part.plain_image.Goals as goal

pub returns : goal.returns
returns c =
    let read : c.in-Some.header ≡ file_header c.args.image.now = c.in-Some.ensures.1 in
    let there = c.if-header-image.false in
    let whole : headers_size c.args.image.now ≤ length c.args.image.now =
    subst (λ (h : FileHeader). 64 + 56 * h.e_phnum ≤ length c.args.image.now) read (omega (arith, there)) in
    plain_made c.args.image.now c.in-Some.header _ c.last_end-end.result _ _ read refl whole c.last_end-end.ensures
    c.between.ensures c.in_ok-file.ensures
