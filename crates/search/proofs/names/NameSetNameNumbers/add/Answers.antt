use Rattle.std.proofs.Common.{ap, ◌∙◌, List, ℕ, map}
use Rattle.elf_model.specs.declared.name.Name.{Name}
use Rattle.search.specs.Names.{number_of, with_name}
use Rattle.search.proofs.NameSets.{inserted}
use Rattle.search.proofs.Numbering.{number_map}
use Rattle.search.proofs.names.NameSetNameNumbers.add.Goals as goal

pub returns-clause-added : goal.returns-clause-added
returns-clause-added c =
    ap (λ (ks : List Name). map (λ k. k.0.now) ks) c.in_ok-number.ensures.keys
    ∙ (inserted c.self.inside.names.keys (record { 0 = c.args.name }) ∙ ap (λ (ns : List (List ℕ)). with_name ns c.args.name.now) c.self.view_is)

pub returns-clause-number : goal.returns-clause-number
returns-clause-number c =
    c.in_ok-number.ensures.index
    ∙ (number_map c.self.inside.names.keys c.args.name.now ∙ ap (λ (ns : List (List ℕ)). number_of ns c.args.name.now) c.self.view_is)
