use Rattle.std.proofs.Common.{arith}
use Rattle.got_tls.proofs.NotedPositions.{noted_before}
use Rattle.got_tls.proofs.slot_index.make_room.Goals as goal

pub returns-clause-same : goal.returns-clause-same
returns-clause-same c =
    noted_before _ c.args.positions.now.items c.resize.new.self.items c.args.count _ (omega (arith, c.if-len-count.false, c.len.ensures)) c.resize.ensures.items
