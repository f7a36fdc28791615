use Rattle.std.proofs.Common.{ℕ, rules}
use Rattle.link_fields.proofs.PartitionPoints.{parted_below}
use Rattle.frame_judge.proofs.addresses.count_below.Goals as goal

pub returns-clause-below : goal.returns-clause-below
returns-clause-below c = (parted_below (λ (a : ℕ). a) c.args.addresses.now c.args.address _ c.requires c.partition_point.ensures.partitioned (λ a r q k. search rules)).0

pub returns-clause-from : goal.returns-clause-from
returns-clause-from c = (parted_below (λ (a : ℕ). a) c.args.addresses.now c.args.address _ c.requires c.partition_point.ensures.partitioned (λ a r q k. search rules)).1
