-- What is known of what the symbols of an object mean.
use Rattle.std.specs.Prelude.{List, Option}
use Rattle.check_relocs.specs.Bindings.{IsTargetOf}
use Rattle.check_relocs.specs.Known.{AreKnown}
use Rattle.check_relocs.specs.Referrers.{symbol_here}
use Rattle.check_relocs.specs.declared.referrer.Referrer.{Referrer}
use Rattle.check_relocs.specs.declared.targets.Target.{Target}

-- what is known of the symbols of the object whose relocations are gone through is what they mean
abbrev pub AreTargetsKnown : Referrer → List (Option Target) → Type 0
AreTargetsKnown r ts = AreKnown (λ j t. IsTargetOf r.bindings.now (symbol_here r j) t) ts
