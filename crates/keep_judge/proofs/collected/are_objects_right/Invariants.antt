use Rattle.std.proofs.Common.{◌≡◌, ◌<◌, ℕ, Some}
use Rattle.std.specs.List.{slice_get}
use Rattle.check_load.specs.Views.{loaded_views}
use Rattle.elf_model.specs.Link.Loading.{LoadedObject}
use Rattle.keep_judge.specs.Collected.{IsObjectRight, has_name}
use Rattle.keep_judge.proofs.collected.are_objects_right.Given as goal

abbrev pub invariant-loop-k : goal.invariant-loop-k
invariant-loop-k l =
    (i : ℕ) (o : LoadedObject) → i < l.k → slice_get (loaded_views l.objects) i ≡ Some o → IsObjectRight l.names l.drops (has_name l.lost) i o
