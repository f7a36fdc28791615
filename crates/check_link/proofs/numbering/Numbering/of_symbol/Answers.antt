use Rattle.check_link.proofs.Hints.{hint_told}
use Rattle.check_link.proofs.numbering.Numbering.of_symbol.Goals as goal

pub returns : goal.returns
returns c =
    let n = c.args.self.now in
    hint_told n.names.now n.objects.now c.args.object c.args.symbol c.number_at.result n.numbered c.number_at.ensures
