use Rattle.std.proofs.Common.{◌∙◌, ◌&&◌, Bool, ℕ, List, None, Option, Some, ap, cond, sym}
use Rattle.std.specs.Prelude.{nat_eq}
use Rattle.std.specs.BTreeMap.{get}
use Rattle.std.specs.List.{list_any}
use Rattle.std.specs.Option.{option_and_then, option_or}
use Rattle.std.specs.Ordering.{nat_cmp}
use Rattle.search.specs.Views.{loaded_view}
use Rattle.debug_image.specs.KeptGroups.{ObjectGroup, member_like, stand_in_among}
use Rattle.debug_image.proofs.stand_ins.add_group.Goals as goal

pub returns : goal.returns
returns c = λ seen a m gone.
    let o = loaded_view c.args.loaded.now in
    let g = c.args.group.now in
    let old = get nat_cmp c.args.table.now m in
    c.in_ok-add_members.ensures seen a m gone
    ∙ (ap (λ (h : Option ObjectGroup). option_or old (cond (list_any (nat_eq m) c.members.result.now) (Some (option_and_then (member_like o m) h)) None)) (c.kept_of-found.ensures.found seen a)
    ∙ (ap (λ (ms : List ℕ). option_or old (cond (list_any (nat_eq m) ms) (Some (stand_in_among seen o m g)) None)) c.members.ensures
    ∙ ap (λ (b : Bool). option_or old (cond (b && list_any (nat_eq m) g.members) (Some (stand_in_among seen o m g)) None)) (sym c.if-not-is_comdat.false ∙ c.is_comdat.ensures)))
