use Rattle.std.proofs.Common.{◌∙◌, ap, List, refl, sym, ℕ}
use Rattle.std.proofs.lemmas.Bool.{false≢true}
use Rattle.std.proofs.lemmas.Bool.Decides.{Decides-eqb}
use Rattle.elf_model.specs.Image.MemoryImage.{file_end, loads}
use Rattle.elf_model.specs.Link.Placement.{round_up}
use Rattle.elf_model.specs.Inputs.Records.{file_header}
use Rattle.check_tables.proofs.TableClause.{tables_there, wanted_held}
use Rattle.check_tables.proofs.c14_tables.holds_tables.Goals as goal

pub returns-then-line-eight_up : goal.returns-then-line-eight_up
returns-then-line-eight_up c = (
  λ t. absurd (false≢true t),
  λ h. absurd
      (c.if-line-eight_up.true
      (h.offset
      ∙ sym (c.eight_up.ensures ∙ ap (round_up 8) (c.file_end-end.ensures.end ∙ ap (λ (image : List ℕ). file_end (loads image)) c.memory-memory.ensures)))),
)

pub returns-in-Some : goal.returns-in-Some
returns-in-Some c =
    tables_there c.args.bound.now c.args.line c.image.result.now c.split_at.result.1.now c.file_end-end.result c.header-header.result (c.image.ensures.bytes ∙ c.memory-memory.ensures)
    (c.file_end-end.ensures.end ∙ ap (λ (image : List ℕ). file_end (loads image)) c.memory-memory.ensures) c.split_at.ensures.back
    (c.header-header.ensures ∙ ap file_header c.memory-memory.ensures) _ c.in-Some.places (c.if-line-eight_up.false ∙ c.eight_up.ensures)
    c.if-header-ne4.false c.if-header-ne3.false (c.in-Some.ensures.tables.0 refl) c.in-Some.ensures.places
    (Decides-eqb c.header-header.result.e_shoff c.in-Some.places.headers)

pub returns-in-None : goal.returns-in-None
returns-in-None c =
    let held =
    wanted_held c.args.bound.now c.args.line c.image.result.now c.split_at.result.1.now c.file_end-end.result c.header-header.result (c.image.ensures.bytes ∙ c.memory-memory.ensures)
    (c.file_end-end.ensures.end ∙ ap (λ (image : List ℕ). file_end (loads image)) c.memory-memory.ensures) c.split_at.ensures.back
    (c.header-header.ensures ∙ ap file_header c.memory-memory.ensures) in (
      λ t. absurd (false≢true t),
      λ h. absurd (false≢true (c.in-None.ensures.tables.1 (held h))),
    )
