use Rattle.std.proofs.Common.{rules}
use Rattle.flaws.specs.Flaws.{AreResolutionFlaws}
use Rattle.flaws.proofs.Flawless.{flawless}
use Rattle.flaws.proofs.Each.{resolution_each}
use Rattle.flaws.proofs.resolution.resolution_flaws.Goals as goal

pub returns-clause-none : goal.returns-clause-none
returns-clause-none c none =
    let objects = c.args.loaded.now.objects in
    let flaws = c.add_all_symbols.new.flaws.items in
    let are : AreResolutionFlaws objects flaws = search rules in
    flawless objects flaws are none

pub returns-clause-each : goal.returns-clause-each
returns-clause-each c =
    let objects = c.args.loaded.now.objects in
    let flaws = c.add_all_symbols.new.flaws.items in
    let are : AreResolutionFlaws objects flaws = search rules in
    resolution_each objects flaws are
