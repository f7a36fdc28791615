use Rattle.std.proofs.lemmas.Result.{on_ok_weaker}
use Rattle.search.specs.Loaders.{loaded}
use Rattle.search.proofs.TurnLaws.{members_spent}
use Rattle.search.proofs.turns.take_whole.Goals as goal

pub returns-clause-spent : goal.returns-clause-spent
returns-clause-spent g c =
    on_ok_weaker c.take_all.result (members_spent (loaded c.args.loader.now) (loaded c.take_all.new.loader) c.args.input.now) c.take_all.ensures.loaded
