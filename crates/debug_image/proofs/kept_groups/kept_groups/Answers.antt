use Rattle.std.proofs.Common.{◌≡◌, ◌+◌, ◌++◌, ◌∙◌, ℕ, List, ap, arith, length, subst, sym, take}
use Rattle.std.proofs.lemmas.List.{length-map, length-take-le}
use Rattle.search.specs.Views.{loaded_view, loaded_views}
use Rattle.debug_image.specs.KeptGroups.{ObjectGroup, groups_from, groups_in}
use Rattle.debug_image.specs.KeptTables.{AreKept}
use Rattle.debug_image.proofs.KeptSteps.{groups_behind}
use Rattle.debug_image.proofs.JoinedSteps.{views_more}
use Rattle.debug_image.proofs.kept_groups.kept_groups.Goals as goal

pub loop-k-preserved : goal.loop-k-preserved
loop-k-preserved c =
    let os = c.args.objects.now in
    let k = c.loop-k.k in
    let within = c.loop-k-test.true in
    let d = c.index-objects-k.result in
    let first = loaded_views (take k os) in
    let long : length first ≡ k = length-map (take k os) loaded_view ∙ length-take-le k os (omega (arith, within)) in
    let is : groups_from 0 (loaded_views (take (k + 1) os)) ≡ groups_from 0 first ++ groups_in k (loaded_view d) =
    ap (groups_from 0) (views_more os k d within c.index-objects-k.is)
    ∙ (groups_behind 0 first (loaded_view d) ∙ ap (λ (n : ℕ). groups_from 0 first ++ groups_in n (loaded_view d)) (omega (arith, long))) in
    subst (λ (gs : List ObjectGroup). AreKept gs c.add_groups.new.kept) (sym is) (c.in_ok-add_groups.ensures (groups_from 0 first) c.loop-k.invariant)
