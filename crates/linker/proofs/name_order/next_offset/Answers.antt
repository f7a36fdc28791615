use Rattle.std.proofs.Common.{◌+◌, subst}
use Rattle.linker.specs.NameKeys.{AreAlike, positions}
use Rattle.linker.proofs.Beginnings.{alike_behind}
use Rattle.linker.proofs.name_order.next_offset.Goals as goal

pub returns : goal.returns
returns c = λ alike.
    let found = c.common.ensures.begin in
    subst (λ n. AreAlike c.args.names (c.args.offset + n) (positions c.args.alike.now)) found.1
    (alike_behind c.args.names c.args.offset found.0 c.args.alike.now found.2 alike)
