use Rattle.std.proofs.Common.{rules}
use Rattle.layout_flaws.specs.LayoutFlaws.{AreLargeSections, basis_of}
use Rattle.layout_flaws.proofs.EachFlaw.{large_each}
use Rattle.layout_flaws.proofs.Room.{no_large}
use Rattle.layout_flaws.proofs.sections.large_sections.Goals as goal

pub returns-clause-none : goal.returns-clause-none
returns-clause-none c = λ fits.
    let b = basis_of c.args.loaded.now in
    let flaws = c.add_all_sections.new.flaws.items in
    let are : AreLargeSections b flaws = search rules in
    no_large b flaws fits are

pub returns-clause-each : goal.returns-clause-each
returns-clause-each c =
    let b = basis_of c.args.loaded.now in
    let flaws = c.add_all_sections.new.flaws.items in
    let are : AreLargeSections b flaws = search rules in
    large_each b flaws are
