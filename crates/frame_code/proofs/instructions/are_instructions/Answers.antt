use Rattle.std.proofs.Common.{◌∙◌, ◌+◌, ◌-◌, length, arith, sym}
use Rattle.frame_code.proofs.Walks.{walk_end, walk_further, walk_out, walk_stops}
use Rattle.frame_code.proofs.instructions.are_instructions.Goals as goal

pub returns-then-is_empty : goal.returns-then-is_empty
returns-then-is_empty c =
    sym
    (walk_end (length c.args.bytes.now - c.loop.counter) (1 + length c.args.bytes.now - c.loop.counter) c.loop.rest.now
    (omega arith) c.if-is_empty.ensures)
    ∙ c.loop.invariant

pub returns-in-None : goal.returns-in-None
returns-in-None c =
    sym
    (walk_stops (length c.args.bytes.now - c.loop.counter) (1 + length c.args.bytes.now - c.loop.counter) c.loop.rest.now
    (omega arith) c.if-is_empty.ensures c.in-None.ensures)
    ∙ c.loop.invariant

pub loop-preserved : goal.loop-preserved
loop-preserved c =
    sym
    (walk_further (1 + length c.args.bytes.now - (c.loop.counter + 1)) (1 + length c.args.bytes.now - c.loop.counter)
    c.loop.rest.now c.in-Some.further.now (omega arith) c.in-Some.ensures)
    ∙ c.loop.invariant

pub returns : goal.returns
returns c = sym (walk_out (1 + length c.args.bytes.now - c.loop.counter) c.loop.rest.now (omega arith)) ∙ c.loop.invariant
