use Rattle.std.proofs.Common.{◌≡◌}
use Rattle.elf_model.specs.Link.Slots.{requested_address}
use Rattle.check_relocs.specs.Bindings.{IsTargetOf}
use Rattle.check_relocs.specs.KnownSlots.{request_here}
use Rattle.check_relocs.specs.Referrers.{symbol_here}
use Rattle.check_relocs.proofs.KnownSteps.{known_nothing}
use Rattle.check_relocs.proofs.known_symbols.unknown_symbols.Goals as goal

pub returns : goal.returns
returns c =
    let h = c.args.here.now in
    record {
      targets = known_nothing (λ j t. IsTargetOf h.bindings.now (symbol_here h j) t) c.in_ok-targets.targets.items c.in_ok-targets.ensures;
      slots = known_nothing (λ j s. s.address ≡ requested_address h.bindings.now.places.slots (request_here h j s.thread)) c.in_ok-slots.slots.items
          c.in_ok-slots.ensures;
    }
