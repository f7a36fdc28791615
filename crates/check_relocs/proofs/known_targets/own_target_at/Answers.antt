use Rattle.std.proofs.Common.{◌∙◌, List, Option, ap, subst, sym}
use Rattle.std.specs.Prelude.{IfSome}
use Rattle.check_relocs.specs.Bindings.{IsTargetOf}
use Rattle.check_relocs.specs.Known.{known_at}
use Rattle.check_relocs.specs.Referrers.{symbol_here}
use Rattle.check_relocs.specs.declared.targets.Target.{Target}
use Rattle.check_relocs.proofs.KnownSteps.{known_more}
use Rattle.check_relocs.proofs.known_targets.own_target_at.Goals as goal

pub returns-in-Some-clause-target : goal.returns-in-Some-clause-target
returns-in-Some-clause-target c =
    let h = c.args.here.now in
    let j = c.args.j in
    let at = ap (λ (l : List (Option Target)). known_at l j) (sym c.deref.ensures.value) ∙ (sym c.known_answer.ensures ∙ c.in-Some.is) in
    subst (λ (o : Option Target). IfSome o (λ t. IsTargetOf h.bindings.now (symbol_here h j) t)) at (c.requires j)

pub returns-clause-kept : goal.returns-clause-kept
returns-clause-kept c =
    let h = c.args.here.now in
    known_more (λ j (t : Target). IsTargetOf h.bindings.now (symbol_here h j) t) c.args.targets.now.items c.keep_answer.new.answers.items c.args.j
    c.own_target_of-found.result c.keep_answer.ensures c.requires c.own_target_of-found.ensures
