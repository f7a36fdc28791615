use Rattle.std.proofs.Common.{◌≡◌, ◌∙◌, List, ap, subst, sym}
use Rattle.std.specs.Prelude.{IfSome, Option}
use Rattle.elf_model.specs.Link.Slots.{requested_address}
use Rattle.check_relocs.specs.Known.{known_at}
use Rattle.check_relocs.specs.KnownSlots.{request_here}
use Rattle.check_relocs.specs.declared.slots.SymbolSlot.{SymbolSlot}
use Rattle.check_relocs.proofs.KnownSteps.{known_more}
use Rattle.check_relocs.proofs.slots.address_at.Goals as goal

pub returns-in-Some-clause-address : goal.returns-in-Some-clause-address
returns-in-Some-clause-address c =
    let h = c.args.here.now in
    let j = c.args.j in
    let at = ap (λ (l : List (Option SymbolSlot)). known_at l j) (sym c.deref.ensures.value) ∙ rw c.in-Some.is at c.known_address.ensures in
    subst
    (λ (s : Option SymbolSlot). IfSome s (λ x. x.address ≡ requested_address h.bindings.now.places.slots (request_here h j x.thread)))
    at (c.requires j)

pub returns-clause-kept : goal.returns-clause-kept
returns-clause-kept c =
    let h = c.args.here.now in
    known_more (λ j (s : SymbolSlot). s.address ≡ requested_address h.bindings.now.places.slots (request_here h j s.thread)) c.args.slots.now.items
    c.keep_answer.new.answers.items c.args.j _ c.keep_answer.ensures c.requires c.found_address-address.ensures
