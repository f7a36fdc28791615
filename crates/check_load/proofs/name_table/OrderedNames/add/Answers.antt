use Rattle.std.proofs.Common.{◌∙◌, sym}
use Rattle.check_load.proofs.Numbering.{known_with, new_with, number_new}
use Rattle.check_load.proofs.name_table.OrderedNames.add.Goals as goal

pub returns-in-Some-clause-added : goal.returns-in-Some-clause-added
returns-in-Some-clause-added c = (known_with c.args.self.now c.args.name.now c.in-Some.number (sym c.in-Some.ensures)).0

pub returns-in-Some-clause-number : goal.returns-in-Some-clause-number
returns-in-Some-clause-number c = (known_with c.args.self.now c.args.name.now c.in-Some.number (sym c.in-Some.ensures)).1

pub returns-in-Some-clause-fresh : goal.returns-in-Some-clause-fresh
returns-in-Some-clause-fresh c = (known_with c.args.self.now c.args.name.now c.in-Some.number (sym c.in-Some.ensures)).2

pub returns-clause-added : goal.returns-clause-added
returns-clause-added c = c.in_ok-number.ensures.added ∙ (new_with c.args.self.now c.args.name.now (sym c.in_default.ensures)).0

pub returns-clause-number : goal.returns-clause-number
returns-clause-number c = c.in_ok-number.ensures.number ∙ sym (number_new c.args.self.now c.args.name.now (sym c.in_default.ensures))

pub returns-clause-fresh : goal.returns-clause-fresh
returns-clause-fresh c = (new_with c.args.self.now c.args.name.now (sym c.in_default.ensures)).1
