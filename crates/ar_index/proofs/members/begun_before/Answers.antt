use Rattle.std.proofs.Common.{rules}
use Rattle.ar_index.proofs.Places.{parted}
use Rattle.ar_index.proofs.members.begun_before.Goals as goal

pub returns-clause-before : goal.returns-clause-before
returns-clause-before c = (parted c.args.members.now c.args.offset _ c.requires c.partition_point.ensures.partitioned (λ a r q k. search rules)).0

pub returns-clause-from : goal.returns-clause-from
returns-clause-from c = (parted c.args.members.now c.args.offset _ c.requires c.partition_point.ensures.partitioned (λ a r q k. search rules)).1
