use Rattle.std.proofs.Common.{◌∙◌, ℕ, List, None, Some, ap, cond, take_all}
use Rattle.std.specs.Prelude.{nat_eq}
use Rattle.std.specs.List.{list_any}
use Rattle.std.specs.BTreeMap.{get}
use Rattle.std.specs.Option.{option_and_then, option_or}
use Rattle.std.specs.Ordering.{nat_cmp}
use Rattle.search.specs.Views.{loaded_view}
use Rattle.debug_image.specs.KeptGroups.{member_like}
use Rattle.debug_image.specs.KeptTables.{kept_found}
use Rattle.debug_image.proofs.StandInSteps.{members_more}
use Rattle.debug_image.proofs.stand_ins.add_members.Goals as goal

pub loop-member-preserved : goal.loop-member-preserved
loop-member-preserved c = λ seen a m gone.
    members_more (get nat_cmp c.args.table.now m) _ _ m c.args.members.now c.loop-member.member-index 0
    (option_and_then (member_like (loaded_view c.args.loaded.now) m) (kept_found a c.args.found.now)) c.loop-member-test.true
    (c.loop-member.invariant seen a m gone) (c.in_ok-add_stand_in.ensures seen a m gone)

pub returns : goal.returns
returns c = λ seen a m gone.
    let v = option_and_then (member_like (loaded_view c.args.loaded.now) m) (kept_found a c.args.found.now) in
    c.loop-member.invariant seen a m gone
    ∙ ap (λ (ms : List ℕ). option_or (get nat_cmp c.args.table.now m) (cond (list_any (nat_eq m) ms) (Some v) None)) (take_all c.loop-member.member-index c.args.members.now c.loop-member-test.false)
