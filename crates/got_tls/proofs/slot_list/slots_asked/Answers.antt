use Rattle.std.proofs.Common.{◌∙◌}
use Rattle.std.proofs.lemmas.Result.{IfOk-weaker}
use Rattle.got_tls.proofs.AskedOnce.{size_is}
use Rattle.got_tls.proofs.slot_list.slots_asked.Goals as goal

pub returns-clause-size : goal.returns-clause-size
returns-clause-size c =
    IfOk-weaker c.new.result _ _ (λ s is. is ∙ size_is c.args.loaded.now.objects c.args.asked c.requires) c.new.ensures.got
