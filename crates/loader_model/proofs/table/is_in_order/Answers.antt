use Rattle.std.proofs.Common.{arith}
use Rattle.loader_model.proofs.TableOrder.{in_order}
use Rattle.loader_model.proofs.table.is_in_order.Goals as goal

pub returns : goal.returns
returns c =
    in_order c.args.headers.now _ _ _ _ c.leading_loads-count.ensures.count (omega arith)
    c.split_at.ensures.front c.split_at.ensures.back (c.is_a_tail.ensures.0 c.if-not-is_a_tail.false) c.is_ascending.ensures
