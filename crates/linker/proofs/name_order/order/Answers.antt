use Rattle.std.proofs.Common.{◌≡◌, ◌∙◌, List, ap, length, subst, sym, take_at}
use Rattle.linker.specs.NameKeys.{IsOrderOf, held_names, positions}
use Rattle.linker.specs.declared.name_order.Keyed.{Keyed}
use Rattle.linker.proofs.LevelLaws.{all_alike, order_of}
use Rattle.linker.proofs.name_order.order.Goals as goal

pub sort_level-requires : goal.sort_level-requires
sort_level-requires c = all_alike c.args.names (positions c.as_mut_slice.result.now)

pub returns : goal.returns
returns c =
    let new : List Keyed = c.sort_level.new.run in
    let long : length new ≡ c.in_ok-keys.keys.len = c.sort_level.auto.run ∙ c.as_mut_slice.ensures.len in
    subst (IsOrderOf (held_names c.args.names)) (sym (take_at new _ c.in_ok-keys.keys.len long))
    (order_of c.args.names c.as_mut_slice.result.now new (ap positions c.as_mut_slice.ensures.value ∙ c.in_ok-keys.ensures) c.sort_level.ensures)
