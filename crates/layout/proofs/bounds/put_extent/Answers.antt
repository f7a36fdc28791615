use Rattle.std.specs.Prelude.{Some}
use Rattle.std.proofs.lemmas.Map.Text.{btree_map_updates_str}
use Rattle.layout.proofs.bounds.put_extent.Goals as goal

pub returns : goal.returns
returns c = btree_map_updates_str c.args.last.now.name.now c.args.extents.now c.insert.new.self (Some c.args.last.now.extent) c.in_ok-insert.ensures.updates
