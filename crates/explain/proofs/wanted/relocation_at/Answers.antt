use Rattle.std.proofs.Common.{rules}
use Rattle.search.specs.Views.{loaded_view}
use Rattle.input_names.proofs.KeptPlaces.{kept, placed}
use Rattle.explain.proofs.wanted.relocation_at.Goals as goal

pub returns-clause-there : goal.returns-clause-there
returns-clause-there c = rw c.relocation_place.ensures.object c.requires

pub returns-clause-kept : goal.returns-clause-kept
returns-clause-kept c =
    let o = loaded_view c.args.one.now in
    let has = c.relocation_place.ensures in
    kept _ _ o _ _ _ _ _ has (placed _ _ o _ _ _ _ _ has c.requires (search rules) (search rules) (search rules) (search rules))
