use Rattle.relocate.specs.Uses.{line_views}
use Rattle.resolve.specs.Chosen.{defined_in}
use Rattle.linker.specs.NameKeys.{held_names}
use Rattle.linker.specs.declared.name_order.Names.{Names}
use Rattle.linker.proofs.InOrderLaws.{held_are, in_order}
use Rattle.linker.proofs.listed_definitions.in_order.Goals as goal

pub returns-clause-order : goal.returns-clause-order
returns-clause-order c =
    let names : Names = record { symbols = c.definitions.result; linkers = c.args.linkers } in
    in_order c.args.resolved.now (defined_in c.definitions.result) (line_views c.args.linkers.now) (held_names names) c.definitions.ensures.exact c.requires
    (held_are names) c.in_ok-keys.keys.items c.in_ok-keys.ensures
