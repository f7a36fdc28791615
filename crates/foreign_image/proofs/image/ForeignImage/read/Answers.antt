use Rattle.std.proofs.Common.{List, ap, refl, subst, sym, ◌∙◌}
use Rattle.std.specs.Prelude.{filter}
use Rattle.std.proofs.lemmas.Bool.{false≢true}
use Rattle.elf_model.specs.Image.MemoryImage.{is_thread_block, loads_in}
use Rattle.elf_model.specs.declared.records.ProgramHeader.{ProgramHeader}
use Rattle.judge_model.specs.Headers.{IsProgram}
use Rattle.foreign_image.proofs.Headers.{good_of, program_of, table_inside, table_is}
use Rattle.foreign_image.proofs.image.ForeignImage.read.Goals as goal

pub are_good-requires-clause-inside : goal.are_good-requires-clause-inside
are_good-requires-clause-inside c =
    table_inside c.bytes-file.result.now c.in-Some.header c.deref-2.result.now (c.in-Some.ensures.good.0 refl) c.in-Some.ensures.header
    (c.deref-2.ensures.value ∙ c.in_ok-headers.ensures)

pub returns-then-not-are_good-clause-program : goal.returns-then-not-are_good-clause-program
returns-then-not-are_good-clause-program c =
    let e =
    table_is c.bytes-file.result.now c.in-Some.header c.deref-2.result.now c.in-Some.ensures.header
    (c.deref-2.ensures.value ∙ c.in_ok-headers.ensures) in (
      λ t. absurd (false≢true t),
      λ p.
          sym c.if-not-are_good.true
          ∙ c.are_good.ensures.1
          (good_of c.bytes-file.result.now c.deref-2.result.now e (subst IsProgram (sym c.bytes-file.ensures) p)),
    )

pub invariant_of-result : goal.invariant_of-result
invariant_of-result c =
    let e =
    table_is c.bytes-file.result.now c.in-Some.header c.deref-2.result.now c.in-Some.ensures.header
    (c.deref-2.ensures.value ∙ c.in_ok-headers.ensures) in
    let kept = sym c.deref-2.ensures.value ∙ e in
    record {
      program =
          program_of c.bytes-file.result.now c.deref-2.result.now (c.in-Some.ensures.good.0 refl) e
          (c.are_good.ensures.0 c.if-not-are_good.false);
      header_is = c.in-Some.ensures.header;
      headers_are = kept;
      segments_are = c.in_ok-segments.ensures ∙ ap loads_in (c.deref.ensures.value ∙ kept);
      blocks_are =
          c.in_ok-thread_blocks.ensures ∙ ap (λ (hs : List ProgramHeader). filter is_thread_block hs) (c.deref-4.ensures.value ∙ kept);
    }

pub returns-clause-program : goal.returns-clause-program
returns-clause-program c =
    let e =
    table_is c.bytes-file.result.now c.in-Some.header c.deref-2.result.now c.in-Some.ensures.header
    (c.deref-2.ensures.value ∙ c.in_ok-headers.ensures) in (
      λ t.
          subst IsProgram c.bytes-file.ensures
          (program_of c.bytes-file.result.now c.deref-2.result.now (c.in-Some.ensures.good.0 refl) e
          (c.are_good.ensures.0 c.if-not-are_good.false)),
      λ p. refl,
    )
