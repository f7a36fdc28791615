use Rattle.std.proofs.Common.{◌∙◌, sym}
use Rattle.std.proofs.lemmas.Bool.{false≢true}
use Rattle.elf_model.specs.Link.Resolution.{AreSoundSymbols, IsSoundSymbol}
use Rattle.check_load.specs.Views.{loaded_views}
use Rattle.check_link.proofs.Walked.{object_more, object_stop}
use Rattle.check_link.proofs.symbols.are_sound.Goals as goal

pub returns-then-not-are_sound_in : goal.returns-then-not-are_sound_in
returns-then-not-are_sound_in c =
    let L = loaded_views c.args.objects.now in (
      λ t. absurd (false≢true t),
      λ all. absurd (object_stop (IsSoundSymbol L) (AreSoundSymbols L) c.args.objects.now c.loop-k.k c.index-objects-k.result c.loop-k-test.true c.index-objects-k.is
          c.loop-k.invariant (λ holds. false≢true (sym c.if-not-are_sound_in.true ∙ c.are_sound_in.ensures.1 holds)) all),
    )

pub loop-k-preserved : goal.loop-k-preserved
loop-k-preserved c =
    let L = loaded_views c.args.objects.now in
    object_more (IsSoundSymbol L) (AreSoundSymbols L) c.args.objects.now c.loop-k.k c.index-objects-k.result c.loop-k-test.true c.index-objects-k.is
    c.loop-k.invariant (c.are_sound_in.ensures.0 c.if-not-are_sound_in.false)
