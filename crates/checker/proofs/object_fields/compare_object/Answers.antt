use Rattle.std.proofs.Common.{◌≡◌, ◌+◌, Bool, Some, true, refl, subst, sym}
use Rattle.check_load.specs.Views.{loaded_view}
use Rattle.check_link.specs.Views.{placed_views}
use Rattle.elf_model.specs.Link.Relocation.{relocations_from}
use Rattle.std.specs.List.{slice_get}
use Rattle.check_relocs.specs.Bindings.{Bound}
use Rattle.checker.specs.Comparing.{AreCompared, IsRowAt}
use Rattle.checker.proofs.LinkRows.{right_in_link}
use Rattle.checker.proofs.PieceOrder.{compared_more, cut_later, cut_own, cut_parts, own_first}
use Rattle.checker.proofs.RisingLink.{and_true, row_bound}
use Rattle.checker.proofs.object_fields.compare_object.Goals as goal

pub are_held_in_order-requires-clause-own : goal.are_held_in_order-requires-clause-own
are_held_in_order-requires-clause-own c =
    let n = c.args.number in
    let qs = c.args.so_far.left.now in
    let own = c.split_at.result.0.now in
    let later = c.split_at.result.1.now in
    let m = c.own_count.result in
    own_first c.args.bound.now n (placed_views qs) (placed_views own) (placed_views later)
    (cut_parts n qs own later m c.own_count.ensures.count c.split_at.ensures.front c.split_at.ensures.back) c.requires.so_far.left_are
    (cut_own n qs own later m c.own_count.ensures.count c.split_at.ensures.front c.split_at.ensures.back)

-- with the fields as they came all is held
pub returns-then-branch-clause-compared : goal.returns-then-branch-clause-compared
returns-then-branch-clause-compared c =
    let s = c.args.bound.now in
    let n = c.args.number in
    let qs = c.args.so_far.left.now in
    let own = c.split_at.result.0.now in
    let later = c.split_at.result.1.now in
    let m = c.own_count.result in
    subst (λ (b : Bool). AreCompared s (n + 1) b (placed_views later)) (and_true c.args.so_far.held)
    (compared_more s n c.args.so_far.held true (placed_views qs) (placed_views own) (placed_views later)
    (cut_parts n qs own later m c.own_count.ensures.count c.split_at.ensures.front c.split_at.ensures.back) c.requires.so_far
    (cut_own n qs own later m c.own_count.ensures.count c.split_at.ensures.front c.split_at.ensures.back)
    (cut_later n qs own later m c.own_count.ensures.count c.split_at.ensures.front c.split_at.ensures.back)
    (λ t. c.in_ok-are_held_in_order.ensures.held c.if-branch.true, λ h. refl))

pub own_row-requires : goal.own_row-requires
own_row-requires c =
    subst (λ (b : Bound). slice_get b.objects c.args.number ≡ Some (loaded_view c.args.loaded.now)) (sym c.bindings.ensures) c.requires.there

pub returns-in_default-clause-right : goal.returns-in_default-clause-right
returns-in_default-clause-right c =
    right_in_link c.args.bound.now c.bindings.result.now c.bindings.ensures _ (relocations_from c.args.number (loaded_view c.args.loaded.now))
    (rw c.in_default.is at c.in_ok-row.ensures.right)

pub compare_own-requires-clause-row : goal.compare_own-requires-clause-row
compare_own-requires-clause-row c =
    let s = c.args.bound.now in
    let n = c.args.number in
    subst (IsRowAt s n) (sym c.deref.ensures.value)
    (row_bound s c.bindings.result.now c.bindings.ensures n (loaded_view c.args.loaded.now) c.in-Some.row.items c.requires.there
    (rw c.in-Some.is at c.in_ok-row.ensures.row))

pub returns-clause-right : goal.returns-clause-right
returns-clause-right c =
    right_in_link c.args.bound.now c.bindings.result.now c.bindings.ensures _ (relocations_from c.args.number (loaded_view c.args.loaded.now))
    (rw c.in-Some.is at c.in_ok-row.ensures.right)

pub returns-clause-compared : goal.returns-clause-compared
returns-clause-compared c = c.compare_own.ensures
