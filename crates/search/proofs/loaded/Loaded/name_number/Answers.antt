use Rattle.std.proofs.Common.{◌∙◌, ◌<◌, ◌^◌, length, rules}
use Rattle.search.proofs.NumberedSymbols.{local_told, none_told, shared_below, shared_told}
use Rattle.search.proofs.loaded.Loaded.name_number.Goals as goal

pub returns-in_err-number-clause-number : goal.returns-in_err-number-clause-number
returns-in_err-number-clause-number c =
    let few : length c.args.self.now.names < 2 ^ 64 = search rules in
    c.from_residual.ensures
    ∙ none_told c.args.self.now c.objects.result.now c.args.symbol.object.0 c.args.symbol.symbol c.stored_number.result c.objects.ensures.exact c.objects.ensures.numbered few c.stored_number.ensures c.in_err-number.was

pub returns-then-number-clause-number : goal.returns-then-number-clause-number
returns-then-number-clause-number c =
    let few : length c.args.self.now.names < 2 ^ 64 = search rules in
    local_told c.args.self.now c.objects.result.now c.args.symbol.object.0 c.args.symbol.symbol c.stored_number.result c.objects.ensures.exact c.objects.ensures.numbered few c.stored_number.ensures c.in_ok-number.number c.in_ok-number.was c.if-number.true

pub returns-clause-number : goal.returns-clause-number
returns-clause-number c =
    let few : length c.args.self.now.names < 2 ^ 64 = search rules in
    shared_told c.args.self.now c.objects.result.now c.args.symbol.object.0 c.args.symbol.symbol c.stored_number.result c.objects.ensures.exact c.objects.ensures.numbered few c.stored_number.ensures c.in_ok-number.number c.in_ok-number.was c.if-number.false

pub returns-clause-within : goal.returns-clause-within
returns-clause-within c =
    let few : length c.args.self.now.names < 2 ^ 64 = search rules in
    shared_below c.args.self.now c.objects.result.now c.args.symbol.object.0 c.args.symbol.symbol c.stored_number.result c.objects.ensures.exact c.objects.ensures.numbered few c.stored_number.ensures c.in_ok-number.number c.in_ok-number.was c.if-number.false
