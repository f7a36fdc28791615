use Rattle.std.proofs.Common.{◌≡◌, ◌∙◌, ◌+◌, ◌++◌, ◌||◌, List, ap, sym}
use Rattle.std.specs.List.{list_any}
use Rattle.elf_model.specs.Link.Loading.{LoadedObject}
use Rattle.elf_model.specs.Link.Relocation.{Relocation, relocations, relocations_from}
use Rattle.elf_model.specs.Link.UsedNames.{is_among, uses_line}
use Rattle.elf_model.proofs.FlatRelocations.{left_of_objects, object_more}
use Rattle.elf_model.proofs.LinkerUses.{gained}
use Rattle.check_load.specs.Views.{loaded_view}
use Rattle.check_relocs.proofs.Noted.{element_there}
use Rattle.check_relocs.proofs.linker_uses.used_names.Goals as goal

pub loop-k-preserved : goal.loop-k-preserved
loop-k-preserved c n =
    let L : List LoadedObject = c.args.bindings.now.objects in
    let xs = c.objects-objects.result.now in
    let k = c.loop-k.k in
    let here : List Relocation = relocations_from k (loaded_view c.index-objects-k.result) in
    let rest : List Relocation = left_of_objects loaded_view xs (k + 1) in
    let is : left_of_objects loaded_view xs k ≡ here ++ rest =
    object_more loaded_view xs k _ c.loop-k-test.true ∙ ap (λ l. relocations_from k (loaded_view l) ++ rest) (sym c.index-objects-k.is) in
    gained L here rest c.loop-k.names c.add_object.new.names n (list_any (uses_line L n) (relocations L)) c.in_ok-add_object.ensures
    (ap (λ (rs : List Relocation). is_among c.loop-k.names n || list_any (uses_line L n) rs) (sym is) ∙ c.loop-k.invariant n)

pub invariant_of-here : goal.invariant_of-here
invariant_of-here c = record {
  own = element_there c.objects-objects.result.now c.args.bindings.now.objects c.loop-k.k c.index-objects-k.result c.objects-objects.ensures c.loop-k-test.true
      c.index-objects-k.is;
}
