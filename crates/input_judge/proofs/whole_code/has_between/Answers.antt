use Rattle.std.specs.Prelude.{nat_lt}
use Rattle.std.proofs.lemmas.Bool.Decides.{Decides-ltb}
use Rattle.input_judge.proofs.WholeLaws.{counted_between}
use Rattle.input_judge.proofs.whole_code.has_between.Goals as goal

pub returns : goal.returns
returns c =
    counted_between c.args.points.now c.args.low c.args.high c.count_through.result c.count_before.result
    (nat_lt c.count_through.result c.count_before.result) c.count_before.ensures.within c.count_through.ensures.through
    c.count_through.ensures.behind c.count_before.ensures.before c.count_before.ensures.from
    (Decides-ltb c.count_through.result c.count_before.result)
