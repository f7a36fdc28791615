use Rattle.std.proofs.Common.{◌∙◌, ◌||◌, ap, sym}
use Rattle.elf_model.specs.Link.Slots.{asks_for_got}
use Rattle.check_relocs.specs.Referrers.{objects_here, relocation_here}
use Rattle.check_relocs.proofs.needs.got_with.Goals as goal

pub returns-clause-got : goal.returns-clause-got
returns-clause-got c =
    let asks = asks_for_got (objects_here c.args.here.now) (relocation_here c.args.here.now c.args.relocation.now) in
    c.asks_for_got.ensures.asks ∙ ap (λ b. b || asks) (sym c.if-got.false)
