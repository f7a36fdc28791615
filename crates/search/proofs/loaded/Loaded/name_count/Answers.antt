use Rattle.std.proofs.Common.{subst}
use Rattle.search.specs.Loads.{LoadedPlan}
use Rattle.search.specs.Numbers.{AreNamed}
use Rattle.search.proofs.NumberedSymbols.{all_named}
use Rattle.search.proofs.loaded.Loaded.name_count.Goals as goal

pub returns-clause-named : goal.returns-clause-named
returns-clause-named c =
    subst (λ (l : LoadedPlan). AreNamed l) c.self.view_is
    (all_named c.self.inside.contents.value.names c.self.inside.contents.value.objects.items c.self.invariant.numbered)
