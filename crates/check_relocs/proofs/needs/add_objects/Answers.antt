use Rattle.std.proofs.Common.{◌≡◌, ◌+◌, ◌++◌, ◌∙◌, List, ap, sym}
use Rattle.elf_model.proofs.FlatRelocations.{left_of_objects, object_end, object_more}
use Rattle.elf_model.specs.Link.Loading.{LoadedObject}
use Rattle.elf_model.specs.Link.Relocation.{Relocation, relocations, relocations_from}
use Rattle.check_load.specs.Views.{loaded_view}
use Rattle.check_relocs.proofs.Noted.{element_there}
use Rattle.check_relocs.proofs.NeedSteps.{gaining_all, gaining_end, gaining_more}
use Rattle.check_relocs.proofs.needs.add_objects.Goals as goal

pub loop-k-init : goal.loop-k-init
loop-k-init c =
    let b = c.args.bindings.now in
    gaining_all b.objects b.places.slots (relocations b.objects) c.args.needs.now (left_of_objects loaded_view c.objects-objects.result.now 0)
    (ap (λ (os : List LoadedObject). relocations os) c.objects-objects.ensures)

pub loop-k-preserved : goal.loop-k-preserved
loop-k-preserved c =
    let b = c.args.bindings.now in
    let xs = c.objects-objects.result.now in
    let k = c.loop-k.k in
    let here : List Relocation = relocations_from k (loaded_view c.index-objects-k.result) in
    let rest : List Relocation = left_of_objects loaded_view xs (k + 1) in
    let is : left_of_objects loaded_view xs k ≡ here ++ rest =
    object_more loaded_view xs k _ c.loop-k-test.true ∙ ap (λ l. relocations_from k (loaded_view l) ++ rest) (sym c.index-objects-k.is) in
    gaining_more b.objects b.places.slots (relocations b.objects) c.args.needs.now (left_of_objects loaded_view xs k) here rest c.loop-k.needs c.add_object.new.needs is
    c.in_ok-add_object.ensures c.loop-k.invariant

pub add_object-requires : goal.add_object-requires
add_object-requires c = c.loop-k.invariant.size ∙ c.requires

pub returns : goal.returns
returns c =
    let b = c.args.bindings.now in
    let xs = c.objects-objects.result.now in
    gaining_end b.objects b.places.slots (relocations b.objects) c.args.needs.now (left_of_objects loaded_view xs c.loop-k.k) c.loop-k.needs
    (object_end loaded_view xs c.loop-k.k c.loop-k-test.false) c.loop-k.invariant

pub invariant_of-here : goal.invariant_of-here
invariant_of-here c = record {
  own = element_there c.objects-objects.result.now c.args.bindings.now.objects c.loop-k.k c.index-objects-k.result c.objects-objects.ensures c.loop-k-test.true
      c.index-objects-k.is;
}
