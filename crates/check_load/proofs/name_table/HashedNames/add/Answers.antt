use Rattle.std.proofs.Common.{ap, ◌∙◌, List, ℕ, map, not}
use Rattle.elf_model.specs.declared.name.Name.{Name}
use Rattle.check_load.specs.NameNumbers.{is_among, number_of, with_name}
use Rattle.check_load.proofs.Numbering.{name_inserted, not_among, number_map}
use Rattle.check_load.proofs.name_table.HashedNames.add.Goals as goal

pub returns-clause-added : goal.returns-clause-added
returns-clause-added c =
    ap (λ (ks : List Name). map (λ k. k.0.now) ks) c.in_ok-found.ensures.keys
    ∙ (name_inserted c.self.inside.names.keys (record { 0 = c.args.name }) ∙ ap (λ (ns : List (List ℕ)). with_name ns c.args.name.now) c.self.view_is)

pub returns-clause-number : goal.returns-clause-number
returns-clause-number c =
    c.in_ok-found.ensures.index
    ∙ (number_map c.self.inside.names.keys c.args.name.now ∙ ap (λ (ns : List (List ℕ)). number_of ns c.args.name.now) c.self.view_is)

pub returns-clause-fresh : goal.returns-clause-fresh
returns-clause-fresh c =
    c.in_ok-found.ensures.added
    ∙ (not_among c.self.inside.names.keys c.args.name.now ∙ ap (λ (ns : List (List ℕ)). not (is_among ns c.args.name.now)) c.self.view_is)
