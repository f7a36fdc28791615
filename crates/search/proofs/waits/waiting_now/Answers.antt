use Rattle.std.proofs.Common.{[]}
use Rattle.search.specs.Waiting.{Awaits}
use Rattle.search.proofs.PlaceLaws.{all_of, one_more}
use Rattle.search.proofs.WaitLaws.{awaits_on}
use Rattle.search.proofs.waits.waiting_now.Goals as goal

pub loop-i-preserved : goal.loop-i-preserved
loop-i-preserved g c =
    let l = c.args.loader.now in
    one_more (λ k o. Awaits l [] k o c.loop-i.waiting) (λ k o. Awaits l [] k o c.add_waiting.new.waiting) c.args.inputs.now c.loop-i.i c.index-inputs-i.result
    c.index-inputs-i.is (λ k o a. awaits_on l [] k o c.loop-i.waiting c.add_waiting.new.waiting c.in_ok-add_waiting.ensures.stays a) c.in_ok-add_waiting.ensures.awaited
    c.loop-i.invariant

pub returns : goal.returns
returns g c = all_of (λ k o. Awaits c.args.loader.now [] k o c.loop-i.waiting) c.args.inputs.now c.loop-i.i c.loop-i-test.false c.loop-i.invariant
