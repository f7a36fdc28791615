use Rattle.std.proofs.Common.{◌+◌}
use Rattle.elf_model.specs.Link.Resolution.{AreSoundCommons, IsSoundCommon}
use Rattle.search.specs.Views.{loaded_views}
use Rattle.resolve.proofs.Rests.{rest_more, rest_stop}
use Rattle.resolve.proofs.Walks.{next_object, symbols_here, symbols_left}
use Rattle.resolve.proofs.soundness.are_sound_commons.Goals as goal

pub returns-then-not-has_sound_commons : goal.returns-then-not-has_sound_commons
returns-then-not-has_sound_commons c =
    let xs = c.args.objects.now in
    rest_stop IsSoundCommon (AreSoundCommons (loaded_views xs)) (symbols_left c.loop-k.k xs) (symbols_here c.loop-k.k c.index-objects-k.result) (symbols_left (c.loop-k.k + 1) xs)
    (next_object xs c.loop-k.k c.index-objects-k.result c.loop-k-test.true c.index-objects-k.is) c.has_sound_commons.result
    c.has_sound_commons.ensures c.loop-k.invariant c.if-not-has_sound_commons.true

pub loop-k-preserved : goal.loop-k-preserved
loop-k-preserved c =
    let xs = c.args.objects.now in
    rest_more IsSoundCommon (AreSoundCommons (loaded_views xs)) (symbols_left c.loop-k.k xs) (symbols_here c.loop-k.k c.index-objects-k.result) (symbols_left (c.loop-k.k + 1) xs)
    (next_object xs c.loop-k.k c.index-objects-k.result c.loop-k-test.true c.index-objects-k.is) c.has_sound_commons.result
    c.has_sound_commons.ensures c.loop-k.invariant c.if-not-has_sound_commons.false
