use Rattle.std.proofs.Common.{◌∙◌, ℕ, List, ap, option_map, sym}
use Rattle.std.specs.Prelude.{find}
use Rattle.std.specs.Global.{Vec}
use Rattle.elf_model.specs.Own.OwnLayout.{own_placed}
use Rattle.elf_model.specs.Link.Placement.{is_of_section}
use Rattle.layout.specs.Addresses.{entry}
use Rattle.layout.specs.Placements.{Basis}
use Rattle.layout.proofs.OwnAddresses.{address_either}
use Rattle.layout.proofs.placement.Placement.piece_address.Goals as goal

pub returns : goal.returns
returns c =
    let objects = c.self.inside.loaded.objects in
    c.address_in.ensures
    ∙ (ap (λ (t : List (Vec ℕ)). entry t c.args.section.object.0 c.args.section.section) c.deref.ensures.value
    ∙ (c.self.invariant.0.addresses_are c.args.section.object.0 c.args.section.section
    ∙ (sym (address_either c.self.inside.base objects c.args.section.object.0 c.args.section.section)
    ∙ ap (λ (b : Basis). option_map (λ q. q.at) (find (is_of_section c.args.section.object.0 c.args.section.section) (own_placed b.base b.objects))) c.self.view_is)))
