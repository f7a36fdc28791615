use Rattle.std.proofs.Common.{◌∙◌, sym}
use Rattle.elf_model.specs.Inputs.Opening.{Opened}
use Rattle.std.proofs.Common.{ap}
use Rattle.search.proofs.WaitLaws.{archives_wait, covers_later, covers_spent}
use Rattle.search.proofs.turns.turn.Goals as goal

pub returns-clause-covers : goal.returns-clause-covers
returns-clause-covers g c =
    let now = c.args.loader.now in
    let later = c.take_whole.new.loader in
    let os = c.args.inputs.now in
    let w = c.args.waits.now in
    let whole = ap (λ (o : Opened). o.whole) (sym c.item.ensures) ∙ c.if-not-item.false in
    covers_spent later os w c.settle.new.self (covers_later now later os w c.requires.known c.in_ok-take_whole.ensures.known c.in_ok-take_whole.ensures.later c.requires.covers)
    c.args.archive c.args.input.now c.requires.at c.settle.ensures.places c.settle.ensures.seen
    (archives_wait w.waiting c.settle.new.self.waiting c.args.archive 0 c.settle.ensures.waiting) whole c.in_ok-take_whole.ensures.spent
