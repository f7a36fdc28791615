use Rattle.std.proofs.Common.{◌≡◌, ◌∙◌, ℕ, List, [], Option, None, Some, ap, cond, get_or, set, sym}
use Rattle.std.specs.Option.{option_map_or, option_or}
use Rattle.elf_model.specs.Link.Resolution.{symbol_of}
use Rattle.search.specs.Numbers.{name_number}
use Rattle.search.specs.Views.{loaded_view}
use Rattle.resolve.specs.Offered.{candidate_of}
use Rattle.symbols.specs.Owners.{is_second, owner_after}
use Rattle.resolve.specs.Taken.{taken_at, taken_view}
use Rattle.symbols.specs.declared.owner.Owner.{Owner}
use Rattle.symbols.specs.declared.owner.Owner.TheVariants as owner
use Rattle.resolve.proofs.NamedNumbers.{name_told}
use Rattle.resolve.proofs.taken.Taken.take.Goals as goal
use Rattle.symbols.specs.declared.candidate.Candidate.{Candidate}

pub returns-in-Some-clause-taken : goal.returns-in-Some-clause-taken
returns-in-Some-clause-taken c =
    let l = c.args.loaded.now in
    let number = c.args.number in
    let j = c.args.j in
    let t = taken_view c.args.self.now in
    let s = symbol_of number (loaded_view c.args.own.now) j c.args.entry.now in
    let n = c.in-Some.named in
    let told : name_number l number j ≡ Some n =
    sym (ap (λ (k : ℕ). name_number l k c.symbol_ref.result.symbol) c.symbol_ref.ensures.object ∙ ap (λ (i : ℕ). name_number l number i) c.symbol_ref.ensures.symbol)
    ∙ (sym c.name_number.ensures.number ∙ c.in-Some.is) in
    let named = name_told l number j (loaded_view c.args.own.now) n c.name_count-named.ensures.named c.requires.here told in
    let before = get_or t.owners n owner.Nobody in
    ap (λ (os : List Owner). record { owners = os; twin = (taken_view c.take_named.new.self).twin })
    (c.take_named.ensures.owners ∙ ap (λ (k : Candidate). set t.owners n (owner_after before k)) c.candidate_in.ensures)
    ∙ (ap (λ (q : Option (List ℕ)). record { owners = (taken_at t n s).owners; twin = q })
    (c.take_named.ensures.twin
    ∙ (ap (λ (k : Candidate). option_or t.twin (cond (is_second before k) (Some (get_or l.names n [])) None)) c.candidate_in.ensures
    ∙ ap (λ (m : List ℕ). option_or t.twin (cond (is_second before (candidate_of s)) (Some m) None)) named))
    ∙ sym (ap (λ (r : Option ℕ). option_map_or (λ i. taken_at t i s) r t) told))
