use Rattle.std.proofs.Common.{arith}
use Rattle.foreign_image.proofs.Loads.{loads_are}
use Rattle.foreign_image.proofs.table.are_loads.Goals as goal

pub returns : goal.returns
returns c =
    loads_are c.args.len c.args.segments.now c.are_pages_rising.result (grind (arith, c.is_empty.ensures, c.if-is_empty.false))
    (c.are_lawful.ensures.0 c.if-not-are_lawful.false) c.are_pages_rising.ensures
