use Rattle.std.proofs.Common.{◌∙◌, ℕ, List, Option, ap, refl, sym}
use Rattle.std.specs.Borrow.{Bor}
use Rattle.std.specs.Prelude.{option_copied}
use Rattle.search.proofs.WaitLaws.{covers_step}
use Rattle.search.proofs.waits.Waits.catch_up.Goals as goal

pub loop-self-preserved : goal.loop-self-preserved
loop-self-preserved g c = λ os covers.
    covers_step c.args.loader.now os c.loop-self.self _ c.in-Some.name.now (c.loop-self.invariant os covers)
    (sym c.request.ensures ∙ ap (λ (o : Option (Bor (List ℕ))). option_copied o) c.in-Some.is) refl refl c.in_ok-wake.ensures
