use Rattle.std.proofs.Common.{sym, ◌∙◌}
use Rattle.std.proofs.lemmas.Bool.{false≢true}
use Rattle.ar_index.proofs.NameSteps.{long_is}
use Rattle.ar_index.proofs.names.is_named.Goals as goal

pub returns-in-Some : goal.returns-in-Some
returns-in-Some c =
    long_is c.args.member.now c.name-name.result.now c.name-name.ensures.exact (sym c.is_index.ensures ∙ c.if-is_index.false) (sym c.is_long_names.ensures ∙ c.if-is_long_names.false)
    (λ short. false≢true (sym c.if-is_short_name.false ∙ c.is_short_name.ensures.1 short)) c.in-Some.offset c.args.limit c.in-Some.ensures.0 c.in-Some.ensures.1
