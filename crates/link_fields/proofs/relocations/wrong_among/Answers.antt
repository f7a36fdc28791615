use Rattle.std.proofs.Common.{◌≡◌, ◌+◌, ◌%◌, ◌^◌, ◌∙◌, List, Some, ap, refl, subst, sym}
use Rattle.std.specs.Prelude.{All}
use Rattle.std.specs.List.{slice_get}
use Rattle.check_load.specs.Views.{loaded_view}
use Rattle.elf_model.proofs.FlatRelocations.{left_of_objects, object_end}
use Rattle.elf_model.specs.Link.Loading.{LoadedObject}
use Rattle.elf_model.specs.Link.Relocation.{relocations, relocations_from}
use Rattle.field_judge.specs.Given.{pointer_of}
use Rattle.link_fields.proofs.Lists.{left_all, left_end, object_read, part_more, within_left, within_right, within_same}
use Rattle.link_fields.proofs.OwnPlaces.{object_there}
use Rattle.link_fields.specs.Parts.{IsFieldRightUnlessOut, Parts}
use Rattle.link_fields.proofs.relocations.wrong_among.Goals as goal

pub loop-k-init : goal.loop-k-init
loop-k-init c =
    let p = c.args.parts.now in
    let here = left_of_objects loaded_view c.objects-objects.result.now 0 in
    let same = ap relocations (c.objects-objects.ensures ∙ ap (λ (q : Parts). q.objects) c.parts.view_is) in (
      left_all (IsFieldRightUnlessOut p c.args.taken.now c.args.drops.now) (relocations p.objects) here same,
      within_same (relocations p.objects) here same,
    )

pub wrong_own-requires : goal.wrong_own-requires
wrong_own-requires c = record {
  pointer = c.thread_pointer-pointer.ensures ∙ ap (λ (q : Parts). pointer_of q.image % 2 ^ 64) c.parts.view_is;
  own =
      subst (λ (os : List LoadedObject). slice_get os c.loop-k.k ≡ Some (loaded_view c.index-objects-k.result))
      (c.objects-objects.ensures ∙ ap (λ (q : Parts). q.objects) c.parts.view_is)
      (object_there c.objects-objects.result.now c.loop-k.k c.index-objects-k.result c.loop-k-test.true c.index-objects-k.is);
}

pub loop-k-preserved : goal.loop-k-preserved
loop-k-preserved c =
    let p = c.args.parts.now in
    let P = IsFieldRightUnlessOut p c.args.taken.now c.args.drops.now in
    let xs = c.objects-objects.result.now in
    let k = c.loop-k.k in
    let x = c.index-objects-k.result in
    let parts = object_read xs k x c.loop-k-test.true c.index-objects-k.is in (
      part_more P (All P (relocations p.objects)) (left_of_objects loaded_view xs k) (relocations_from k (loaded_view x))
          (left_of_objects loaded_view xs (k + 1)) parts (c.wrong_own.ensures.right c.in_default.is) c.loop-k.invariant.0,
      within_right (relocations p.objects) (left_of_objects loaded_view xs k) c.loop-k.invariant.1 (relocations_from k (loaded_view x))
          (left_of_objects loaded_view xs (k + 1)) parts,
    )

pub returns-in-Some-clause-wrong : goal.returns-in-Some-clause-wrong
returns-in-Some-clause-wrong c =
    let p = c.args.parts.now in
    let xs = c.objects-objects.result.now in
    let k = c.loop-k.k in
    let x = c.index-objects-k.result in
    let wrong = c.in-Some.ensures.wrong in
    record {
      one = wrong.one;
      among =
          within_left (relocations p.objects) (left_of_objects loaded_view xs k) c.loop-k.invariant.1 (relocations_from k (loaded_view x))
          (left_of_objects loaded_view xs (k + 1)) (object_read xs k x c.loop-k-test.true c.index-objects-k.is) wrong.one wrong.among;
      called_is = wrong.called_is;
      denied = wrong.denied;
    }

pub returns-clause-right : goal.returns-clause-right
returns-clause-right c = λ none.
    let p = c.args.parts.now in
    let P = IsFieldRightUnlessOut p c.args.taken.now c.args.drops.now in
    let xs = c.objects-objects.result.now in
    left_end P (All P (relocations p.objects)) (left_of_objects loaded_view xs c.loop-k.k) (object_end loaded_view xs c.loop-k.k c.loop-k-test.false)
    c.loop-k.invariant.0
