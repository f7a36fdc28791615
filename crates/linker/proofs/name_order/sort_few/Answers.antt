use Rattle.std.proofs.Common.{rules}
use Rattle.linker.proofs.LevelLaws.{few_sorted, sorted_behind}
use Rattle.linker.proofs.name_order.sort_few.Goals as goal

pub returns : goal.returns
returns c =
    few_sorted c.args.names c.args.offset c.args.run.now c.sort_unstable_by.new.self c.requires c.sort_unstable_by.ensures.permutation
    (sorted_behind c.args.names c.args.offset c.sort_unstable_by.new.self c.sort_unstable_by.ensures.sorted (λ a r f k. search rules))
