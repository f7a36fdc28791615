use Rattle.std.proofs.Common.{◌≡◌, ◌+◌, ◌∙◌, Bool, ℕ, List, Option, None, Some, ap, cond, refl, sym}
use Rattle.std.specs.Borrow.{Bor}
use Rattle.std.specs.Option.{is_some, option_copied}
use Rattle.indexmap.specs.IndexMap.{index_map_len}
use Rattle.search.specs.Views.{loaded_view}
use Rattle.debug_image.specs.KeptGroups.{group_in}
use Rattle.debug_image.specs.declared.kept_groups.KeptGroup.{KeptGroup}
use Rattle.debug_image.specs.KeptTables.{member_behind}
use Rattle.debug_image.proofs.KeptSteps.{known_group, new_group, plain_group}
use Rattle.debug_image.proofs.kept_groups.add_group.Goals as goal

copied_some : {X : Type 0} (r : Option (Bor X)) → is_some (option_copied r) ≡ is_some r
copied_some None = refl
copied_some (Some x) = refl

pub returns-then-not-is_comdat : goal.returns-then-not-is_comdat
returns-then-not-is_comdat c = λ seen a.
    plain_group seen c.args.kept.now a (group_in c.args.number (loaded_view c.args.loaded.now) c.args.group.now) (sym c.is_comdat.ensures ∙ c.if-not-is_comdat.true)

pub returns-then-is_some : goal.returns-then-is_some
returns-then-is_some c = λ seen a.
    known_group seen c.args.kept.now a (group_in c.args.number (loaded_view c.args.loaded.now) c.args.group.now)
    (record { 0 = c.signature.result }) c.signature.ensures
    (ap is_some (sym c.get.ensures.value) ∙ (copied_some c.get.result ∙ sym c.if-is_some.ensures))

pub returns : goal.returns
returns c = λ seen a.
    let x = c.args.kept.now in
    let none = ap is_some (sym c.get.ensures.value) ∙ (copied_some c.get.result ∙ sym c.if-is_some.ensures) in
    let r : KeptGroup = record { number = c.len-count.result; object = c.args.number } in
    new_group seen x a (group_in c.args.number (loaded_view c.args.loaded.now) c.args.group.now)
    (record { 0 = c.signature.result }) c.signature.ensures (record { groups = c.insert.new.self; members = c.add_members.new.members }) r
    (sym c.is_comdat.ensures ∙ c.if-not-is_comdat.false) none c.len-count.ensures.len refl
    (c.in_ok-insert.ensures.len ∙ ap (λ (b : Bool). index_map_len x.groups + cond b 0 1) (ap is_some c.in_ok-insert.ensures.old ∙ none))
    (λ n. c.in_ok-insert.ensures.updates.0 n) (λ k. c.in_ok-add_members.ensures k ∙ ap (λ (ms : List ℕ). member_behind x.members c.len-count.result c.args.number (loaded_view c.args.loaded.now) ms k) c.members.ensures)
