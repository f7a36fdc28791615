use Rattle.std.proofs.Common.{◌≡◌, ◌+◌, List, Some, ap, subst, sym, ◌∙◌}
use Rattle.std.specs.List.{slice_get}
use Rattle.elf_model.specs.Link.Loading.{LoadedObject}
use Rattle.elf_model.specs.Link.Relocation.{relocations, relocations_from}
use Rattle.elf_model.proofs.FlatRelocations.{left_of_objects}
use Rattle.search.specs.Views.{loaded_view}
use Rattle.got_tls.specs.Asking.{Wants, nothing, with_relocations}
use Rattle.got_tls.specs.AskedViews.{wants}
use Rattle.got_tls.proofs.AskedOnce.{objects_kept, taken}
use Rattle.got_tls.proofs.LoadedObjects.{next_relocations, next_there}
use Rattle.got_tls.proofs.asked_slots.asked_by.Goals as goal

pub loop-k-init : goal.loop-k-init
loop-k-init c =
    let xs = c.objects-objects.result.now in
    let L : List LoadedObject = c.args.loaded.now.objects in
    ap (λ (w : Wants). with_relocations L w (left_of_objects loaded_view xs 0)) c.in_ok-asked.ensures
    ∙ ap (λ (os : List LoadedObject). with_relocations L (nothing L) (relocations os)) c.objects-objects.ensures.exact

pub add_object-requires-clause-here : goal.add_object-requires-clause-here
add_object-requires-clause-here c =
    let d = c.index-objects-k.result in
    subst (λ (os : List LoadedObject). slice_get os c.loop-k.k ≡ Some (loaded_view d)) (c.objects-objects.ensures.exact ∙ sym c.requires)
    (next_there c.objects-objects.result.now c.loop-k.k d c.loop-k-test.true c.index-objects-k.is)

pub add_object-requires-clause-same : goal.add_object-requires-clause-same
add_object-requires-clause-same c =
    let L : List LoadedObject = c.args.loaded.now.objects in
    objects_kept L (wants c.loop-k.asked) (nothing L) (left_of_objects loaded_view c.objects-objects.result.now c.loop-k.k) (relocations L) c.loop-k.invariant
    ∙ sym c.requires

pub loop-k-preserved : goal.loop-k-preserved
loop-k-preserved c =
    let xs = c.objects-objects.result.now in
    let L : List LoadedObject = c.args.loaded.now.objects in
    let k = c.loop-k.k in
    let here = relocations_from k (loaded_view c.index-objects-k.result) in
    taken L (wants c.loop-k.asked) (wants c.add_object.new.asked) (with_relocations L (nothing L) (relocations L)) here
    (left_of_objects loaded_view xs (k + 1)) (left_of_objects loaded_view xs k)
    (subst (λ (os : List LoadedObject). wants c.add_object.new.asked ≡ with_relocations os (wants c.loop-k.asked) here) c.requires c.in_ok-add_object.ensures)
    (next_relocations xs k c.index-objects-k.result c.loop-k-test.true c.index-objects-k.is) c.loop-k.invariant
