use Rattle.std.proofs.Common.{◌∙◌, Some, ap, cond, sym}
use Rattle.std.specs.Str.{bytes_eq}
use Rattle.std.proofs.lemmas.Map.Text.{btree_map_updates_str}
use Rattle.check_link.specs.ByName.{found_in}
use Rattle.check_link.proofs.by_name.settle.Goals as goal

pub returns-in_ok-insert : goal.returns-in_ok-insert
returns-in_ok-insert g c =
    let name = c.args.name.now in
    let table = c.args.table.now in
    λ n. btree_map_updates_str name table c.insert.new.self (Some c.in-Some.value) c.in_ok-insert.ensures.updates n
    ∙ ap (λ o. cond (bytes_eq name n) o (found_in table n)) (sym c.in-Some.is)
