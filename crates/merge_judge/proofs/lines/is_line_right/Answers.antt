use Rattle.std.proofs.Common.{arith}
use Rattle.std.proofs.lemmas.Bool.{false≢true}
use Rattle.elf_model.specs.Image.MemoryImage.{loads}
use Rattle.merge_judge.proofs.LineLaws.{enclosed_in, some_size}
use Rattle.merge_judge.proofs.lines.is_line_right.Goals as goal

pub returns-then-m-eq0 : goal.returns-then-m-eq0
returns-then-m-eq0 c = (
  λ t. absurd (false≢true t),
  λ r.
      absurd
      (let some = some_size c.args.image.now c.args.sections.now c.args.areas.now c.args.m.now c.requires.sized r in
      omega (arith, some, c.if-m-eq0.true)),
)

pub is_section_right-requires-clause-enclosed : goal.is_section_right-requires-clause-enclosed
is_section_right-requires-clause-enclosed c =
    enclosed_in (loads c.args.image.now) c.args.areas.now c.args.m.now c.requires.enclosed (c.has_area.ensures.0 c.if-not-has_area.false)

pub returns : goal.returns
returns c = (
  λ t. record { section = c.is_section_right.ensures.0 t; area = c.has_area.ensures.0 c.if-not-has_area.false },
  λ r. c.is_section_right.ensures.1 r.section,
)
