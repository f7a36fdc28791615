use Rattle.std.proofs.Common.{◌≡◌, drop, false}
use Rattle.std.specs.Prelude.{All}
use Rattle.check_load.specs.Views.{loaded_views}
use Rattle.elf_model.proofs.Rests.{Left}
use Rattle.elf_model.specs.Link.Loading.{LoadedObject}
use Rattle.judge_model.specs.RightForeign.{is_lto}
use Rattle.input_judge.proofs.compiled.are_compiled.Given as goal

abbrev pub invariant-loop-loaded : goal.invariant-loop-loaded
invariant-loop-loaded l =
    Left (All (λ (o : LoadedObject). is_lto o ≡ false) (loaded_views l.objects))
    (All (λ (o : LoadedObject). is_lto o ≡ false) (loaded_views (drop l.loaded-index l.objects)))
