use Rattle.std.proofs.Common.{◌∙◌, ap}
use Rattle.std.specs.List.{list_any}
use Rattle.elf_model.specs.Link.Pieces.{is_of_output}
use Rattle.check_link.specs.Views.{piece_views}
use Rattle.check_link.proofs.SeenOutputs.{any_in_table}
use Rattle.check_link.proofs.output_names.Outputs.has.Goals as goal

pub returns : goal.returns
returns c =
    let name = c.args.name.now in
    c.contains_key.ensures
    ∙ any_in_table name (piece_views c.self.inside.pieces.now) c.self.inside.table (c.self.invariant name)
    ∙ ap (list_any (is_of_output name)) c.self.view_is
