use Rattle.std.proofs.Common.{rules, ◌∙◌, ap}
use Rattle.std.specs.Prelude.{unwrap_or}
use Rattle.indexmap.specs.Entry.{map_with_value}
use Rattle.search.proofs.PlaceLaws.{place_added}
use Rattle.search.proofs.name_places.add_place.Goals as goal

pub returns : goal.returns
returns c = λ n.
    place_added c.args.names.now (map_with_value c.in_ok-names.field-0) (record { 0 = c.args.name }) c.args.place c.or_insert-places.result.now c.push.new.self c.new.result _
    c.in_ok-names.ensures.update.0 (c.or_insert-places.ensures.value ∙ ap (λ r. unwrap_or r c.new.result) c.in_ok-names.ensures.value) c.new.ensures.items
    c.in_ok-push.ensures.items (search rules) n
