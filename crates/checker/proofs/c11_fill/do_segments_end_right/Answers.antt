use Rattle.std.proofs.Common.{List, subst}
use Rattle.std.specs.Prelude.{All, IsTrue, ◌↔◌}
use Rattle.elf_model.specs.Image.RightLink.{EndsRight}
use Rattle.elf_model.specs.declared.records.ProgramHeader.{ProgramHeader}
use Rattle.checker.proofs.c11_fill.do_segments_end_right.Goals as goal

pub returns : goal.returns
returns c =
    subst (λ (hs : List ProgramHeader). IsTrue c.all_end_right.result ↔ All (EndsRight c.args.sorted.now) hs) c.segments.ensures
    c.all_end_right.ensures
