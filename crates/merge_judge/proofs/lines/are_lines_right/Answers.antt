use Rattle.std.proofs.Common.{List, subst}
use Rattle.std.specs.Prelude.{◌↔◌, All, IsTrue}
use Rattle.elf_model.specs.Link.Pieces.{Piece}
use Rattle.judge_model.specs.Merged.{IsMergedRight}
use Rattle.merge_judge.proofs.lines.are_lines_right.Goals as goal

pub returns : goal.returns
returns c =
    subst
    (λ (ps : List Piece). IsTrue c.are_all_right-right.result ↔ All (IsMergedRight c.args.image.now ps c.args.areas.now) c.args.lines.now)
    c.in_ok-sections.ensures c.are_all_right-right.ensures
