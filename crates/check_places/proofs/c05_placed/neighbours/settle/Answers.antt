use Rattle.std.proofs.Common.{◌∙◌, Option, ap, sym}
use Rattle.std.specs.BTreeMap.{get}
use Rattle.std.specs.Option.{option_or}
use Rattle.std.specs.Ordering.{is_eq}
use Rattle.check_link.specs.OutputSections.{section_order}
use Rattle.check_places.specs.Neighbours.{last_at}
use Rattle.check_places.specs.declared.c05_placed.neighbours.Last.{Last}
use Rattle.check_places.proofs.NextPieces.{settled}
use Rattle.check_places.proofs.c05_placed.neighbours.settle.Goals as goal

pub returns-in_ok-insert : goal.returns-in_ok-insert
returns-in_ok-insert c =
    let l = c.in-Some.last in
    let map = c.args.map.now in
    λ t. c.in_ok-insert.ensures.updates.0 t
    ∙ (settled (is_eq (section_order l.section t)) l.at (get section_order map t)
    ∙ ap (λ (o : Option Last). option_or (last_at o t) (get section_order map t)) (sym c.in-Some.is))
