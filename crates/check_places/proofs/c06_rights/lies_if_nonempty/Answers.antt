use Rattle.std.proofs.Common.{◌≡◌, false, true, arith}
use Rattle.elf_model.specs.Image.MemoryImage.{loads}
use Rattle.check_places.proofs.SegmentsApart.{none_found}
use Rattle.check_places.proofs.c06_rights.lies_if_nonempty.Goals as goal

pub returns-in-None : goal.returns-in-None
returns-in-None c = (
  λ e. absurd (let f : false ≡ true = e in cc),
  λ lies. absurd
      (none_found (loads c.args.memory.now) c.args.thing.now.at c.args.thing.now.size c.in-None.ensures.only (λ h p. p.0)
      (lies (let n = c.if-thing-eq0.false in omega (arith, n)))),
)
