use Rattle.std.proofs.Common.{◌≡◌, ◌∙◌, false, sym, subst}
use Rattle.std.specs.Prelude.{All}
use Rattle.check_load.specs.Views.{loaded_views}
use Rattle.elf_model.specs.Link.Loading.{LoadedObject}
use Rattle.elf_model.specs.Link.Resolution.{AreSoundCommons, AreUnique}
use Rattle.judge_model.specs.Links.{objects_of}
use Rattle.judge_model.specs.RightForeign.{is_lto}
use Rattle.link_judge.proofs.inputs.are_objects_sound.Goals as goal

pub returns : goal.returns
returns c =
    let l = c.args.loaded.now in
    let names = c.names-names.ensures in
    let objects : loaded_views c.objects.result.now ≡ objects_of l = c.objects.ensures ∙ names in (
      λ yes. record {
        compiled = subst (All (λ (o : LoadedObject). is_lto o ≡ false)) objects (c.are_compiled.ensures.0 c.if-not-are_compiled.false);
        unique = λ _. subst AreUnique names (c.are_unique.ensures.0 yes);
        commons = subst AreSoundCommons names (c.are_sound_commons.ensures.0 c.if-not-are_sound_commons.false);
      },
      λ r. c.are_unique.ensures.1 (subst AreUnique (sym names) (r.unique (sym c.takes_first.ensures ∙ c.if-takes_first.false))),
    )
