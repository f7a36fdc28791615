use Rattle.std.proofs.Common.{List, subst}
use Rattle.wrong_references.specs.declared.flaw.ReferenceFlaw.{ReferenceFlaw}
use Rattle.explain.specs.Flawed.{AreTold, reference_of}
use Rattle.explain.proofs.link.add_unlinked.Goals as goal

pub returns-clause-references : goal.returns-clause-references
returns-clause-references c = λ bad.
    let found = c.tell_references.new.found in (
      c.in_ok-flaws.flaws.items,
      c.in_ok-flaws.ensures.all,
      subst (λ (fs : List ReferenceFlaw). AreTold reference_of fs c.args.found.now.most found.places.items found.more) c.deref.ensures.value
          c.in_ok-tell_references.ensures.told,
    )
