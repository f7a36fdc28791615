use Rattle.std.proofs.Common.{◌≡◌, ◌<◌, List, Some, ap, arith, length, subst}
use Rattle.std.specs.List.{slice_get}
use Rattle.std.proofs.lemmas.List.{length-map}
use Rattle.elf_model.specs.Link.Loading.{LoadedObject}
use Rattle.search.specs.Views.{loaded_view}
use Rattle.explain.proofs.FlawPlaces.{object_there}
use Rattle.explain.proofs.flaw_places.object_numbered.Goals as goal

pub returns : goal.returns
returns c =
    let xs = c.objects-objects.result.now in
    let k = c.args.k in
    let one = c.index-objects-k.result in
    let exact = c.objects-objects.ensures.exact in
    let all = ap length exact in
    let low : k < length xs = omega (arith, all, length-map xs loaded_view, c.requires) in
    subst (λ (os : List LoadedObject). slice_get os k ≡ Some (loaded_view one)) exact (object_there xs k one low c.index-objects-k.is)
