use Rattle.std.proofs.Common.{◌∙◌, ℕ, List, ap, get_or, sym, take}
use Rattle.std.proofs.lemmas.List.{take_more}
use Rattle.search.specs.Views.{loaded_view}
use Rattle.debug_image.specs.KeptTables.{member_behind}
use Rattle.debug_image.proofs.KeptSteps.{member_more}
use Rattle.debug_image.proofs.kept_groups.add_members.Goals as goal

pub loop-member-preserved : goal.loop-member-preserved
loop-member-preserved c = λ key.
    let ns = c.args.listed.now in
    let i = c.loop-member.member-index in
    let o = loaded_view c.args.loaded.now in
    let m = c.args.members.now in
    member_more m c.args.group c.args.number o (take i ns) (get_or ns i 0) key _ _ (c.loop-member.invariant key) (c.in_ok-add_member.ensures key)
    ∙ ap (λ (ms : List ℕ). member_behind m c.args.group c.args.number o ms key) (sym (take_more ns i 0 c.loop-member-test.true))
