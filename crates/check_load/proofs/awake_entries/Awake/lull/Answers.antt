use Rattle.std.proofs.Common.{◌∙◌, ◌≡◌, true, arith}
use Rattle.check_load.specs.Awake.{is_awake}
use Rattle.check_load.proofs.AwakeLaws.{lulled}
use Rattle.check_load.proofs.awake_entries.Awake.lull.Goals as goal

pub returns-clause-asleep : goal.returns-clause-asleep
returns-clause-asleep c = lulled c.args.self.now _ (c.args.item, c.args.entry) c.remove.ensures.updates

pub returns-clause-fewer : goal.returns-clause-fewer
unfolding is_awake
returns-clause-fewer c =
    let there : c.remove.result ≡ true = c.remove.ensures.test ∙ c.requires in
    let counted = rw there at c.remove.ensures.len in
    omega (arith, counted)
