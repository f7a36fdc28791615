use Rattle.std.proofs.Common.{arith, subst}
use Rattle.std.specs.Prelude.{All}
use Rattle.std.proofs.lemmas.List.{take_all}
use Rattle.std.proofs.lemmas.List.Elements.{All-more}
use Rattle.call_frames.specs.Fields.{IsNarrow}
use Rattle.call_frames.proofs.fields.all_narrow.Goals as goal

pub loop-span-preserved : goal.loop-span-preserved
loop-span-preserved c = All-more IsNarrow c.args.spans.now c.loop-span.span-index _ c.loop-span-test.true c.loop-span.invariant c.narrow.ensures

pub returns : goal.returns
returns c =
    let past = c.loop-span-test.false in
    subst (All IsNarrow) (take_all c.loop-span.span-index c.args.spans.now (omega (arith, past))) c.loop-span.invariant
