use Rattle.std.proofs.Common.{◌∙◌, ℕ, List, ap, option_map}
use Rattle.std.specs.Global.{Vec}
use Rattle.elf_model.specs.Own.OwnLayout.{got_number, own_got}
use Rattle.layout.specs.Addresses.{entry}
use Rattle.layout.specs.Placements.{Basis}
use Rattle.layout.proofs.OwnAddresses.{got_address}
use Rattle.layout.proofs.placement.Placement.got.Goals as goal

pub returns : goal.returns
returns c =
    let objects = c.self.inside.loaded.objects in
    c.address_in.ensures
    ∙ (ap (λ (t : List (Vec ℕ)). entry t c.got_number.result 0) c.deref.ensures.value
    ∙ (ap (λ (n : ℕ). entry c.self.inside.tables.addresses.items n 0) (c.got_number.ensures ∙ ap got_number c.objects.ensures.exact)
    ∙ (c.self.invariant.0.addresses_are _ 0
    ∙ (got_address c.self.inside.base objects ∙ ap (λ (b : Basis). option_map (λ g. g.address) (own_got b.base b.objects)) c.self.view_is))))
