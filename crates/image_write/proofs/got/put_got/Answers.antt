use Rattle.std.proofs.Common.{replicate, refl}
use Rattle.image_write.proofs.StreamSteps.{towards_fault, towards_last, towards_more, towards_nothing}
use Rattle.image_write.proofs.got.put_got.Goals as goal

pub returns-in_err-put : goal.returns-in_err-put
returns-in_err-put g c =
    towards_fault _ _ _ _ _ (replicate 8 0) _ _ (towards_nothing _ _) refl c.from_residual.ensures.0 c.in_err-put.ensures.breaks

pub returns : goal.returns
returns g c =
    towards_last _ _ _ _ _ _ (towards_more _ _ _ _ _ (replicate 8 0) _ (towards_nothing _ _) refl c.in_ok-put.ensures.grows) c.put_values.ensures
