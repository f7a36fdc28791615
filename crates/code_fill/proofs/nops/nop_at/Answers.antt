use Rattle.std.proofs.Common.{◌∙◌, List, ℕ, ap, drop}
use Rattle.code_fill.specs.Padded.{whole}
use Rattle.judge_model.specs.Fill.{nop_at, nop_behind}
use Rattle.code_fill.proofs.nops.nop_at.Goals as goal

pub returns-clause-exact : goal.returns-clause-exact
unfolding nop_at
returns-clause-exact c =
    c.nop_behind.ensures.exact
    ∙ ap (λ (bytes : List ℕ). nop_behind c.prefixes_of-prefixes.result bytes) c.behind.ensures.exact
    ∙ ap (λ (n : ℕ). nop_behind n (drop n (whole c.args.run))) c.prefixes_of-prefixes.ensures.exact
