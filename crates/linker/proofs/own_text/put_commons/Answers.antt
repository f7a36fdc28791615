use Rattle.linker.proofs.Behind.{part_put}
use Rattle.linker.proofs.OwnTexts.{commons_front}
use Rattle.linker.proofs.own_text.put_commons.Goals as goal

pub loop-meaning-preserved : goal.loop-meaning-preserved
loop-meaning-preserved g c =
    let b = c.args.placement.now in
    part_put _ _ _ _ _ _ _ c.loop-meaning.invariant
    (commons_front b.base b.objects c.args.listed.now c.loop-meaning.meaning-index _ c.loop-meaning-test.true) c.in_ok-put_common.ensures
