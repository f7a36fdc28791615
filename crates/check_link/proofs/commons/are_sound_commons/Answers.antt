use Rattle.std.proofs.Common.{◌∙◌, sym}
use Rattle.std.proofs.lemmas.Bool.{false≢true}
use Rattle.elf_model.specs.Inputs.ObjectFile.{symbols}
use Rattle.elf_model.specs.Link.Resolution.{AreSoundCommons, IsSoundCommon}
use Rattle.check_load.specs.Views.{loaded_view, loaded_views}
use Rattle.check_link.proofs.CommonEntries.{entries_sound}
use Rattle.check_link.proofs.Walked.{object_more, object_stop}
use Rattle.check_link.proofs.commons.are_sound_commons.Goals as goal

pub returns-then-not-are_sound_in : goal.returns-then-not-are_sound_in
returns-then-not-are_sound_in c =
    let k = c.loop-loaded.loaded-index in
    let told = entries_sound k (loaded_view c.loaded-item.result) 0 (symbols c.loaded-item.result.object) in (
      λ t. absurd (false≢true t),
      λ all. absurd (object_stop IsSoundCommon (AreSoundCommons (loaded_views c.args.objects.now)) c.args.objects.now k c.loaded-item.result c.loop-loaded-test.true
          c.loaded-item.is c.loop-loaded.invariant (λ sound. false≢true (sym c.if-not-are_sound_in.true ∙ c.are_sound_in.ensures.1 (told.1 sound))) all),
    )

pub loop-loaded-preserved : goal.loop-loaded-preserved
loop-loaded-preserved c =
    let k = c.loop-loaded.loaded-index in
    let told = entries_sound k (loaded_view c.loaded-item.result) 0 (symbols c.loaded-item.result.object) in
    object_more IsSoundCommon (AreSoundCommons (loaded_views c.args.objects.now)) c.args.objects.now k c.loaded-item.result c.loop-loaded-test.true c.loaded-item.is
    c.loop-loaded.invariant (told.0 (c.are_sound_in.ensures.0 c.if-not-are_sound_in.false))
