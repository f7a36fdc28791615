use Rattle.std.proofs.Common.{◌≤◌, ◌∙◌, ◌&&◌, ◌||◌, List, ℕ, ap, sym, subst, refl, length, arith}
use Rattle.std.specs.Prelude.{set}
use Rattle.std.specs.Str.{bytes_eq}
use Rattle.std.proofs.lemmas.List.{length-set}
use Rattle.check_load.specs.Names.{Names, requests_name, defines_name}
use Rattle.check_load.specs.declared.known_names.NameState.{NameState}
use Rattle.check_load.proofs.Numbering.{size_with}
use Rattle.check_load.specs.NameNumbers.{KeepNumbers}
use Rattle.check_load.proofs.NotedNames.{field_put, read_state}
use Rattle.check_load.proofs.NumberedNames.{kept_by, numbered_with}
use Rattle.check_load.proofs.known_names.KnownNames.note.Goals as goal

pub invariant_of-self : goal.invariant_of-self
invariant_of-self c =
    subst (λ (ns : List (List ℕ)). length c.self.inside.states.items ≤ length ns) (sym c.in_err-number.ensures.same) c.self.invariant

pub invariant_of-self-in_err-reach : goal.invariant_of-self-in_err-reach
invariant_of-self-in_err-reach c =
    size_with c.self.inside.names c.add.new.self c.args.name.now c.in_ok-number.number (length c.self.inside.states.items) (length c.reach.new.states.items)
    c.in_ok-number.ensures.added c.in_ok-number.ensures.number c.self.invariant c.in_err-reach.ensures.size

pub invariant_of-self-2 : goal.invariant_of-self-2
invariant_of-self-2 c =
    let size =
    size_with c.self.inside.names c.add.new.self c.args.name.now c.in_ok-number.number (length c.self.inside.states.items) (length c.reach.new.states.items)
    c.in_ok-number.ensures.added c.in_ok-number.ensures.number c.self.invariant c.in_ok-reach.ensures.size in
    let kept = length-set c.reach.new.states.items c.in_ok-number.number c.take_in-before.new.state in
    omega (arith, size, kept)

pub returns-clause-before : goal.returns-clause-before
unfolding requests_name
returns-clause-before c =
    c.take_in-before.ensures.before
    ∙ (ap (λ (s : NameState). s.requested)
    (read_state c.self.inside.names c.add.new.self c.self.inside.states.items c.reach.new.states.items
    (set c.reach.new.states.items c.in_ok-number.number c.take_in-before.new.state) c.args.name.now c.in_ok-number.number c.index_mut.result.now c.take_in-before.new.state
    c.self.invariant c.in_ok-number.ensures.added c.in_ok-number.ensures.number c.in_ok-reach.ensures.same c.in_ok-reach.ensures.there c.index_mut.ensures.value refl)
    ∙ ap (λ (names : Names). requests_name names c.args.name.now) c.self.view_is)

pub returns-clause-requested : goal.returns-clause-requested
unfolding requests_name
returns-clause-requested c = λ n.
    field_put c.self.inside.names c.add.new.self c.self.inside.states.items c.reach.new.states.items
    (set c.reach.new.states.items c.in_ok-number.number c.take_in-before.new.state) c.args.name.now c.in_ok-number.number c.index_mut.result.now c.take_in-before.new.state
    c.self.invariant c.in_ok-number.ensures.added c.in_ok-number.ensures.number c.in_ok-reach.ensures.same c.in_ok-reach.ensures.there c.index_mut.ensures.value refl
    (λ s. s.requested) c.args.said.requested c.take_in-before.ensures.requested n
    ∙ ap (λ (names : Names). bytes_eq c.args.name.now n && c.args.said.requested || requests_name names n) c.self.view_is

pub returns-clause-defined : goal.returns-clause-defined
unfolding defines_name
returns-clause-defined c = λ n.
    field_put c.self.inside.names c.add.new.self c.self.inside.states.items c.reach.new.states.items
    (set c.reach.new.states.items c.in_ok-number.number c.take_in-before.new.state) c.args.name.now c.in_ok-number.number c.index_mut.result.now c.take_in-before.new.state
    c.self.invariant c.in_ok-number.ensures.added c.in_ok-number.ensures.number c.in_ok-reach.ensures.same c.in_ok-reach.ensures.there c.index_mut.ensures.value refl
    (λ s. s.defined) c.args.said.defined c.take_in-before.ensures.defined n
    ∙ ap (λ (names : Names). bytes_eq c.args.name.now n && c.args.said.defined || defines_name names n) c.self.view_is

pub returns-clause-number : goal.returns-clause-number
returns-clause-number c =
    numbered_with c.self.inside.names c.add.new.self c.args.name.now c.in_ok-number.number c.in_ok-number.ensures.added c.in_ok-number.ensures.number

pub returns-clause-kept : goal.returns-clause-kept
returns-clause-kept c =
    subst (λ (n : Names). KeepNumbers n.names c.add.new.self) c.self.view_is
    (kept_by c.self.inside.names c.add.new.self c.args.name.now c.in_ok-number.ensures.added)
