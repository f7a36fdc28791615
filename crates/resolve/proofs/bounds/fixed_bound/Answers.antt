use Rattle.std.proofs.Common.{◌∙◌, sym}
use Rattle.resolve.proofs.ArrayNames.{fixed_none, fixed_some}
use Rattle.resolve.proofs.bounds.fixed_bound.Goals as goal

pub returns-in-Some-array_named : goal.returns-in-Some-array_named
returns-in-Some-array_named c =
    fixed_some c.args.name.now c.array_named.result c.array_named.ensures (sym c.boundary.ensures ∙ c.in_default.is)
    c.in-Some-array_named.bound c.in-Some-array_named.field-0-1 c.in-Some-array_named.is

pub returns-in-None : goal.returns-in-None
returns-in-None c =
    fixed_none c.args.name.now c.array_named.result c.array_named.ensures (sym c.boundary.ensures ∙ c.in_default.is) c.in-None.is
