use Rattle.std.proofs.Common.{◌⊎◌, List, subst}
use Rattle.std.specs.Prelude.{◌↔◌, Any}
use Rattle.elf_model.specs.Link.Placement.{Covers}
use Rattle.elf_model.specs.declared.thing.Thing.{Thing}
use Rattle.run_judge.specs.Clear.{IsInGap}
use Rattle.run_judge.proofs.GapLaws.{taken_told}
use Rattle.run_judge.proofs.gaps.taken_of.Goals as goal

pub returns : goal.returns
returns c = λ l is are.
    let pairs = c.args.pairs.now in
    let taken = c.add_gaps.new.things.items in
    taken_told l pairs c.args.things.now taken are is
    (λ a.
    subst (λ (ts : List Thing). Any (λ t. Covers t a) taken ↔ (Any (λ t. Covers t a) ts ⊎ Any (IsInGap a) pairs)) c.in_ok-taken.ensures.items
    (c.in_ok-add_gaps.ensures a))
