use Rattle.std.proofs.Common.{drop}
use Rattle.std.specs.Prelude.{All}
use Rattle.elf_model.proofs.Rests.{Left}
use Rattle.elf_model.specs.Link.Resolution.{AreSoundCommons, IsSoundCommon, symbols_of}
use Rattle.check_load.specs.Views.{loaded_views}
use Rattle.check_link.proofs.commons.are_sound_commons.Given as goal

abbrev pub invariant-loop-loaded : goal.invariant-loop-loaded
invariant-loop-loaded l =
    Left
    (AreSoundCommons (loaded_views l.objects))
    (All IsSoundCommon (symbols_of l.loaded-index (drop l.loaded-index (loaded_views l.objects))))
