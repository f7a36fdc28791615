use Rattle.check_load.proofs.Numbering.{known_with}
use Rattle.check_link.specs.DefinitionList.{name_in}
use Rattle.check_link.proofs.Hints.{hinted_at, told_at}
use Rattle.check_link.proofs.chosen_definitions.number_for.Goals as goal

pub returns-in-Some-clause-added : goal.returns-in-Some-clause-added
returns-in-Some-clause-added c =
    let ss = c.args.definitions.now in
    let known = c.in-Some.known in
    let is = hinted_at c.args.names.now c.args.objects.now ss c.args.position known c.requires
    (told_at c.args.objects.now ss c.args.position c.noted_number.result known c.in-Some.is c.noted_number.ensures) in
    (known_with c.args.names.now (name_in ss c.args.position) known is.found).0

pub returns-in-Some-clause-number : goal.returns-in-Some-clause-number
returns-in-Some-clause-number c =
    let ss = c.args.definitions.now in
    let known = c.in-Some.known in
    let is = hinted_at c.args.names.now c.args.objects.now ss c.args.position known c.requires
    (told_at c.args.objects.now ss c.args.position c.noted_number.result known c.in-Some.is c.noted_number.ensures) in
    (known_with c.args.names.now (name_in ss c.args.position) known is.found).1
