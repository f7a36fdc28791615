use Rattle.std.proofs.Common.{◌∙◌, sym}
use Rattle.run_judge.proofs.RankLaws.{rank_of_number, rank_unnumbered, rank_unprefixed}
use Rattle.run_judge.proofs.ranks.array_rank.Goals as goal

pub returns-then-not-is_array_prefixed : goal.returns-then-not-is_array_prefixed
returns-then-not-is_array_prefixed c = rank_unprefixed c.args.name.now (sym c.is_array_prefixed.ensures ∙ c.if-not-is_array_prefixed.true)

pub returns-in-Some : goal.returns-in-Some
returns-in-Some c =
    rank_of_number c.args.name.now c.in-Some.number (sym c.is_array_prefixed.ensures ∙ c.if-not-is_array_prefixed.false) c.in-Some.ensures.number.0
    c.in-Some.ensures.number.1

pub returns-in-None : goal.returns-in-None
returns-in-None c = rank_unnumbered c.args.name.now c.in-None.ensures.number
