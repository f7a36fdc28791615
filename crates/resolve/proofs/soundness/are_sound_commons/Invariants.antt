use Rattle.std.specs.Prelude.{◌↔◌, All}
use Rattle.elf_model.specs.Link.Resolution.{AreSoundCommons, IsSoundCommon}
use Rattle.search.specs.Views.{loaded_views}
use Rattle.resolve.proofs.Walks.{symbols_left}
use Rattle.resolve.proofs.soundness.are_sound_commons.Given as goal

abbrev pub invariant-loop-k : goal.invariant-loop-k
invariant-loop-k l =
    AreSoundCommons (loaded_views l.objects) ↔ All IsSoundCommon (symbols_left l.k l.objects)
