use Rattle.std.proofs.Common.{drop}
use Rattle.std.specs.Prelude.{◌↔◌, All}
use Rattle.elf_model.specs.Link.Resolution.{symbols_from}
use Rattle.search.specs.Views.{loaded_view, loaded_views}
use Rattle.resolve.specs.Sound.{IsWhollySound}
use Rattle.resolve.proofs.soundness.has_wholly_sound.Given as goal

abbrev pub invariant-loop-j : goal.invariant-loop-j
invariant-loop-j l =
    All (IsWhollySound (loaded_views l.objects)) (symbols_from l.number (loaded_view l.loaded) 0 l.entries)
    ↔ All (IsWhollySound (loaded_views l.objects)) (symbols_from l.number (loaded_view l.loaded) l.j (drop l.j l.entries))
