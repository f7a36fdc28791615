use Rattle.std.proofs.Common.{ap, ◌∙◌, List, ℕ}
use Rattle.std.specs.List.{position}
use Rattle.std.specs.Str.{bytes_eq}
use Rattle.check_load.proofs.Numbering.{position_map}
use Rattle.check_load.proofs.name_table.HashedNames.find.Goals as goal

pub returns : goal.returns
returns c =
    c.get_index_of.ensures.index
    ∙ (position_map c.self.inside.names.keys c.args.name.now ∙ ap (λ (ns : List (List ℕ)). position (bytes_eq c.args.name.now) ns) c.self.view_is)
