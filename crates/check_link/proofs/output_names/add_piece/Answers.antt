use Rattle.std.proofs.Common.{◌∙◌, Option, Some, ap}
use Rattle.std.specs.Prelude.{option_map}
use Rattle.check_link.specs.ByName.{known}
use Rattle.check_link.specs.Outputs.{seen_view, with_piece}
use Rattle.check_link.specs.Views.{piece_view}
use Rattle.check_link.specs.declared.output_names.Output.{Output}
use Rattle.check_link.proofs.ByNames.{put_over, value_known}
use Rattle.check_link.proofs.SeenOutputs.{seen_put}
use Rattle.check_link.proofs.output_names.add_piece.Goals as goal

pub returns-clause-seen : goal.returns-clause-seen
returns-clause-seen c =
    let old = c.args.table.now in
    let turned = c.turn_to.new.self in
    let same = c.in_ok-turn_to.ensures.same in
    let p = piece_view c.args.piece.now in
    λ n. seen_put (known old) _ turned.name.now n p c.with_piece.result (c.in_ok-turn_to.ensures.turned ∙ c.output_name.ensures)
    (put_over old turned same (Some c.with_piece.result) n)
    (c.with_piece.ensures ∙ ap (λ (o : Option Output). with_piece p (option_map seen_view o)) (value_known old turned same))
