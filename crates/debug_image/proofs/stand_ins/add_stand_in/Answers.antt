use Rattle.std.proofs.Common.{arith, sym}
use Rattle.std.proofs.lemmas.Grind.{common_steps}
use Rattle.search.specs.Views.{loaded_view}
use Rattle.debug_image.specs.KeptTables.{kept_found}
use Rattle.debug_image.proofs.StandInSteps.{added}
use Rattle.debug_image.proofs.stand_ins.add_stand_in.Goals as goal

pub returns : goal.returns
returns c = λ seen a m gone.
    added (loaded_view c.args.loaded.now) (kept_found a c.args.found.now) c.args.table.now c.insert.new.self c.args.n m c.member_for.result
    (sym c.if-contains_key.ensures) (c.member_for.ensures seen a) (grind (arith, common_steps, c.in_ok-insert.ensures.updates.0 m))
