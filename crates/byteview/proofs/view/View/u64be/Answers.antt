use Rattle.std.proofs.Common.{ℕ, List, reverse, ap, ◌∙◌}
use Rattle.byteview.specs.Numbers.{le}
use Rattle.byteview.proofs.Fields.{big_whole}
use Rattle.byteview.proofs.view.View.u64be.Goals as goal

pub returns : goal.returns
returns c =
    let run = c.in_ok-run.field-0.now in (
      c.in_ok-run.ensures.exact.0,
      c.read_u64.ensures ∙ big_whole 8 run c.in_ok-run.ensures.len ∙ ap (λ (xs : List ℕ). le (reverse xs)) c.in_ok-run.ensures.exact.1,
    )
