use Rattle.std.proofs.Common.{ℕ, List, take, ap, ◌∙◌, arith}
use Rattle.byteview.specs.Numbers.{le}
use Rattle.byteview.proofs.Fields.{little_is}
use Rattle.byteview.proofs.view.View.u16_inside.Goals as goal

pub returns : goal.returns
returns c = c.read_u16.ensures ∙ little_is 2 c.from.result.now (omega arith) ∙ ap (λ (xs : List ℕ). le (take 2 xs)) c.from.ensures.exact
