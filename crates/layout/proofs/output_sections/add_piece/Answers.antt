use Rattle.std.proofs.Common.{◌∙◌, ◌++◌, ◌∷◌, [], ap}
use Rattle.std.specs.Borrow.{Bor}
use Rattle.std.specs.Global.{Vec}
use Rattle.placing.specs.declared.piece.Piece.{Piece}
use Rattle.layout.proofs.GroupSteps.{group_written}
use Rattle.layout.proofs.output_sections.add_piece.Goals as goal

pub returns : goal.returns
returns c =
    group_written c.args.groups.now.items c.args.number c.index_mut.result.now c.push.new.self c.args.piece
    (c.in_ok-push.ensures.items ∙ ap (λ (g : Vec (Bor Piece)). g.items ++ c.args.piece ∷ []) c.index_mut.ensures.value)
