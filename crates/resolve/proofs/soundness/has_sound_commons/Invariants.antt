use Rattle.std.proofs.Common.{drop}
use Rattle.std.specs.Prelude.{◌↔◌, All}
use Rattle.elf_model.specs.Link.Resolution.{IsSoundCommon, symbols_from}
use Rattle.search.specs.Views.{loaded_view}
use Rattle.resolve.proofs.soundness.has_sound_commons.Given as goal

abbrev pub invariant-loop-j : goal.invariant-loop-j
invariant-loop-j l =
    All IsSoundCommon (symbols_from l.number (loaded_view l.loaded) 0 l.entries)
    ↔ All IsSoundCommon (symbols_from l.number (loaded_view l.loaded) l.j (drop l.j l.entries))
