use Rattle.std.proofs.Common.{◌∙◌, ◌+◌, ◌||◌, List, ap, subst, sym}
use Rattle.std.specs.List.{list_any}
use Rattle.elf_model.specs.Link.Loading.{LoadedObject}
use Rattle.elf_model.specs.Link.Relocation.{Relocation, relocations, relocations_from}
use Rattle.elf_model.specs.Link.UsedNames.{Gains, is_among, uses_line}
use Rattle.elf_model.proofs.FlatRelocations.{left_of_objects}
use Rattle.elf_model.proofs.LinkerUses.{gained}
use Rattle.search.specs.Views.{loaded_view, loaded_views}
use Rattle.got_tls.proofs.LoadedObjects.{next_relocations}
use Rattle.relocate.proofs.linker_uses.used_names.Goals as goal

pub loop-k-preserved : goal.loop-k-preserved
loop-k-preserved c n =
    let xs = c.args.objects.now in
    let L : List LoadedObject = loaded_views xs in
    let k = c.loop-k.k in
    let here : List Relocation = relocations_from k (loaded_view c.index-objects-k.result) in
    let rest : List Relocation = left_of_objects loaded_view xs (k + 1) in
    let is = next_relocations xs k c.index-objects-k.result c.loop-k-test.true c.index-objects-k.is in
    let gains : Gains L here c.loop-k.names c.add_object.new.names =
    subst (λ (os : List LoadedObject). Gains os here c.loop-k.names c.add_object.new.names) c.requires c.in_ok-add_object.ensures in
    gained L here rest c.loop-k.names c.add_object.new.names n (list_any (uses_line L n) (relocations L)) gains
    (ap (λ (rs : List Relocation). is_among c.loop-k.names n || list_any (uses_line L n) rs) (sym is) ∙ c.loop-k.invariant n)
