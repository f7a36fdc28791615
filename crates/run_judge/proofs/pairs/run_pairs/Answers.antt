use Rattle.std.proofs.Common.{◌∙◌, ap, arith, length}
use Rattle.std.specs.Global.{Vec}
use Rattle.std.proofs.lemmas.Result.{IfOk-weaker}
use Rattle.check_link.specs.Views.{placed_views}
use Rattle.run_judge.specs.Pairs.{ArePairsBelow, AreRunPairs}
use Rattle.run_judge.specs.declared.pairs.RunPair.{RunPair}
use Rattle.run_judge.proofs.PairSteps.{long, pairs_of_runs}
use Rattle.run_judge.proofs.pairs.run_pairs.Goals as goal

pub returns : goal.returns
returns c =
    let ordered = c.deref.result.now in
    let sections = placed_views c.args.sections.now in
    IfOk-weaker c.pairs_in.result (λ (v : Vec RunPair). ArePairsBelow (placed_views ordered) (length ordered) v.items) (λ v. AreRunPairs sections v.items)
    (λ v are.
    pairs_of_runs sections (placed_views ordered) (length ordered) v.items
    (ap placed_views c.deref.ensures.value ∙ c.in_ok-ordered.ensures) (let n = long ordered in omega (arith, n)) are)
    c.pairs_in.ensures
