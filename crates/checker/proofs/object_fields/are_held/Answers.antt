use Rattle.std.proofs.Common.{◌≡◌, ◌+◌, ℕ, List, ap, drop, length, map, refl, subst, sym, arith}
use Rattle.std.proofs.lemmas.Bool.{false≢true}
use Rattle.elf_model.proofs.FlatRelocations.{left_of_objects, object_end}
use Rattle.elf_model.proofs.RelocationFields.{objects_apart}
use Rattle.elf_model.specs.Link.Loading.{LoadedObject}
use Rattle.elf_model.specs.Link.Relocation.{relocations, relocations_from, relocations_of}
use Rattle.elf_model.specs.Image.RightLink.{objects_of, where_of}
use Rattle.check_load.specs.Views.{loaded_view}
use Rattle.check_link.specs.Views.{placed_views}
use Rattle.check_relocs.specs.Fields.{AreRight}
use Rattle.check_relocs.proofs.ObjectFields.{object_read}
use Rattle.check_relocs.proofs.RightParts.{right_end, right_more, right_stop}
use Rattle.checker.proofs.LinkRows.{count_is, ninth, objects_are, own_there}
use Rattle.checker.proofs.PieceOrder.{compared_all, compared_none}
use Rattle.checker.specs.Comparing.{AreCompared}
use Rattle.checker.proofs.object_fields.are_held.Goals as goal

pub loop-k-init : goal.loop-k-init
loop-k-init c =
    let s = c.args.bound.now in
    let all = AreRight (objects_of s) (where_of s) in
    let same = ap (λ (os : List LoadedObject). relocations_of 0 os) (objects_are s c.bindings.result.now c.bindings.ensures c.objects-objects.result.now c.objects-objects.ensures) in
    record {
      within = omega arith;
      compared = compared_none s _ c.placed.ensures;
      right = (λ h. subst all (sym same) h, λ h. subst all same h);
    }

pub returns-in_default-clause-ninth : goal.returns-in_default-clause-ninth
returns-in_default-clause-ninth c =
    let s = c.args.bound.now in
    let L = objects_of s in
    let w = where_of s in
    let xs = c.objects-objects.result.now in
    let k = c.loop-k.k in
    let x = c.index-objects-k.result in
    let here = relocations_from k (loaded_view x) in
    let r = rw c.in_default.is at c.in_ok-more.ensures.right in (
      λ e. absurd (false≢true e),
      λ h. absurd
          (right_stop L w (AreRight L w (relocations L)) (left_of_objects loaded_view xs k) here (left_of_objects loaded_view xs (k + 1))
          (object_read xs k x c.loop-k-test.true c.index-objects-k.is) (λ a. false≢true (r.1 a)) c.loop-k.invariant.right ((ninth s).1 h)),
    )

pub loop-k-preserved : goal.loop-k-preserved
loop-k-preserved c =
    let s = c.args.bound.now in
    let L = objects_of s in
    let w = where_of s in
    let xs = c.objects-objects.result.now in
    let k = c.loop-k.k in
    let x = c.index-objects-k.result in
    let here = relocations_from k (loaded_view x) in
    let r = rw c.in-Some.is at c.in_ok-more.ensures.right in
    let low = c.loop-k-test.true in
    record {
      within = omega (arith, low);
      compared = rw c.in-Some.is at c.in_ok-more.ensures.compared;
      right =
          right_more L w (AreRight L w (relocations L)) (left_of_objects loaded_view xs k) here (left_of_objects loaded_view xs (k + 1))
          (object_read xs k x c.loop-k-test.true c.index-objects-k.is) (r.0 refl)
          (objects_apart k (loaded_view x) (map loaded_view (drop (k + 1) xs))) c.loop-k.invariant.right;
    }

pub returns-clause-ninth : goal.returns-clause-ninth
returns-clause-ninth c =
    let s = c.args.bound.now in
    let L = objects_of s in
    let w = where_of s in
    let xs = c.objects-objects.result.now in (
      λ e. (ninth s).0
          (right_end L w (AreRight L w (relocations L)) (left_of_objects loaded_view xs c.loop-k.k) (object_end loaded_view xs c.loop-k.k c.loop-k-test.false)
          c.loop-k.invariant.right),
      λ h. refl,
    )

-- behind the last object there are the common blocks alone, which have no fields
pub compare_own-whole-requires-clause-row : goal.compare_own-whole-requires-clause-row
compare_own-whole-requires-clause-row c =
    let long = count_is c.args.bound.now c.bindings.result.now c.bindings.ensures c.objects-objects.result.now c.objects-objects.ensures in
    record { there = λ o within. absurd (omega (arith, within, long)); past = λ past. refl }

pub compare_own-whole-requires-clause-so_far : goal.compare_own-whole-requires-clause-so_far
compare_own-whole-requires-clause-so_far c =
    let low = c.loop-k.invariant.within in
    let past = c.loop-k-test.false in
    let same : c.loop-k.k ≡ length c.objects-objects.result.now = omega (arith, low, past) in
    subst (λ (n : ℕ). AreCompared c.args.bound.now n c.loop-k.compared.held (placed_views c.loop-k.compared.left.now)) same c.loop-k.invariant.compared

pub returns-clause-tenth : goal.returns-clause-tenth
returns-clause-tenth c =
    let s = c.args.bound.now in
    let whole = c.compare_own-whole.result in
    compared_all s whole.held (placed_views whole.left.now)
    (subst (λ (n : ℕ). AreCompared s (n + 1) whole.held (placed_views whole.left.now))
    (count_is s c.bindings.result.now c.bindings.ensures c.objects-objects.result.now c.objects-objects.ensures)
    c.compare_own-whole.ensures)

pub compare_object-requires-clause-there : goal.compare_object-requires-clause-there
compare_object-requires-clause-there c =
    let s = c.args.bound.now in
    let xs = c.objects-objects.result.now in
    own_there xs (objects_of s) c.loop-k.k c.index-objects-k.result
    (objects_are s c.bindings.result.now c.bindings.ensures xs c.objects-objects.ensures) c.loop-k-test.true c.index-objects-k.is
