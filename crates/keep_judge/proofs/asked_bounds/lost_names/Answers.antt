use Rattle.std.proofs.Common.{◌∙◌, List, ap, subst}
use Rattle.std.specs.Prelude.{IfOk}
use Rattle.check_link.specs.Views.{piece_views}
use Rattle.elf_model.specs.Link.Pieces.{Piece}
use Rattle.keep_judge.specs.Collected.{AreLostNames}
use Rattle.keep_judge.proofs.asked_bounds.lost_names.Goals as goal

pub returns : goal.returns
returns c =
    subst (λ (ps : List Piece). IfOk c.lost_among.result (AreLostNames c.args.drops.now ps)) (ap piece_views c.deref.ensures.value ∙ c.in_ok-pieces.ensures.pieces)
    c.lost_among.ensures
