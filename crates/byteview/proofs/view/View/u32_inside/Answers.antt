use Rattle.std.proofs.Common.{ℕ, List, take, ap, ◌∙◌, arith}
use Rattle.byteview.specs.Numbers.{le}
use Rattle.byteview.proofs.Fields.{little_is}
use Rattle.byteview.proofs.view.View.u32_inside.Goals as goal

pub returns : goal.returns
returns c = c.read_u32.ensures ∙ little_is 4 c.from.result.now (omega arith) ∙ ap (λ (xs : List ℕ). le (take 4 xs)) c.from.ensures.exact
