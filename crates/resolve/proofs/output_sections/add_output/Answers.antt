use Rattle.std.proofs.Common.{ℕ, List, ◌∷◌, [], ◌++◌, subst, sym}
use Rattle.resolve.specs.OutputSections.{AreOutputsOf}
use Rattle.resolve.proofs.OutputKeys.{key_eq, key_eq-compares}
use Rattle.resolve.proofs.OutputSteps.{outputs_step}
use Rattle.resolve.proofs.output_sections.add_output.Goals as goal

pub returns : goal.returns
returns c = λ p done of_p are.
    let s = c.in_ok-number.ensures.stored in
    subst (λ (ns : List ℕ). AreOutputsOf (done ++ p ∷ []) c.insert_full.new.self.keys ns) (sym c.in_ok-push.ensures.items)
    (outputs_step key_eq key_eq-compares c.args.index.now.keys c.insert_full.new.self.keys c.args.numbers.now.items c.args.section s.0 c.in_ok-number.number done p
    of_p c.in_ok-number.ensures.keys s.1 s.2 are)
