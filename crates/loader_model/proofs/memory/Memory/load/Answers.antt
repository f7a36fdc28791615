use Rattle.std.proofs.Common.{List, ℕ, refl, subst, ap, sym, ◌∙◌}
use Rattle.std.proofs.lemmas.Result.{err_from_is_err_and}
use Rattle.std.specs.Prelude.{filter}
use Rattle.elf_model.specs.Image.MemoryImage.{IsImage, LoadFaultStands, loads_in, is_thread_block}
use Rattle.elf_model.specs.declared.faults.LoadFault.TheVariants as fault
use Rattle.elf_model.specs.declared.records.ProgramHeader.{ProgramHeader}
use Rattle.loader_model.proofs.ImageFacts.{fault_of, image_of, table_inside, table_is}
use Rattle.loader_model.proofs.memory.Memory.load.Goals as goal

pub returns-in_err-header-clause-fault : goal.returns-in_err-header-clause-fault
returns-in_err-header-clause-fault c =
    let p = err_from_is_err_and c.from_residual.result c.from_residual.ensures.1 in
    rw (p.1, p.2, c.in_err-header.ensures.fault.0)
    (subst (λ (image : List ℕ). LoadFaultStands image fault.BadHeader) c.bytes-file.ensures c.in_err-header.ensures.fault.1)

pub judge-requires-clause-inside : goal.judge-requires-clause-inside
judge-requires-clause-inside c =
    table_inside c.bytes-file.result.now c.in_ok-header.header c.deref-2.result.now c.in_ok-headers.headers.items
    c.in_ok-header.ensures.good c.in_ok-header.ensures.header c.in_ok-headers.ensures c.deref-2.ensures.value

pub returns-in_err-judge-clause-fault : goal.returns-in_err-judge-clause-fault
returns-in_err-judge-clause-fault c =
    let p = err_from_is_err_and c.from_residual-in_err-judge.result c.from_residual-in_err-judge.ensures.1 in
    let e =
    table_is c.bytes-file.result.now c.bytes-file.result.now c.in_ok-header.header c.deref-2.result.now
    c.in_ok-headers.headers.items refl c.in_ok-header.ensures.header c.in_ok-headers.ensures c.deref-2.ensures.value in
    rw (p.1, p.2)
    (subst (λ (image : List ℕ). LoadFaultStands image c.in_err-judge.field-0.0) c.bytes-file.ensures
    (fault_of c.bytes-file.result.now c.deref-2.result.now c.in_err-judge.field-0.0 c.in_ok-header.ensures.good e
    c.in_err-judge.ensures.fault))

pub invariant_of-result : goal.invariant_of-result
invariant_of-result c =
    let e =
    table_is c.bytes-file.result.now c.bytes-file.result.now c.in_ok-header.header c.deref-2.result.now
    c.in_ok-headers.headers.items refl c.in_ok-header.ensures.header c.in_ok-headers.ensures c.deref-2.ensures.value in
    let kept = sym c.deref-2.ensures.value ∙ e in
    record {
      is_image =
          image_of c.bytes-file.result.now c.deref-2.result.now c.in_ok-header.ensures.good e c.in_ok-judge.ensures.good;
      header_is = c.in_ok-header.ensures.header;
      segments_are = c.in_ok-segments.ensures ∙ ap loads_in (c.deref.ensures.value ∙ kept);
      blocks_are =
          c.in_ok-thread_blocks.ensures ∙ ap (λ (hs : List ProgramHeader). filter is_thread_block hs) (c.deref-4.ensures.value ∙ kept);
    }

pub returns-clause-accepted : goal.returns-clause-accepted
returns-clause-accepted c =
    let e =
    table_is c.bytes-file.result.now c.bytes-file.result.now c.in_ok-header.header c.deref-2.result.now
    c.in_ok-headers.headers.items refl c.in_ok-header.ensures.header c.in_ok-headers.ensures c.deref-2.ensures.value in
    subst IsImage c.bytes-file.ensures
    (image_of c.bytes-file.result.now c.deref-2.result.now c.in_ok-header.ensures.good e c.in_ok-judge.ensures.good)
