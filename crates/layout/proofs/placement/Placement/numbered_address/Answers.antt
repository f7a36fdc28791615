use Rattle.std.proofs.Common.{◌∙◌, ℕ, ◌<◌, ◌≤◌, List, ap, arith, length, option_map, sym}
use Rattle.std.specs.Prelude.{find}
use Rattle.std.specs.Global.{Vec}
use Rattle.std.proofs.lemmas.List.{length-map}
use Rattle.elf_model.specs.Link.Loading.{LoadedObject}
use Rattle.elf_model.specs.Own.OwnLayout.{own_in_load_order}
use Rattle.elf_model.specs.Link.Placement.{is_of_section}
use Rattle.search.specs.Views.{loaded_view}
use Rattle.layout.specs.Addresses.{entry}
use Rattle.layout.specs.Placements.{Basis}
use Rattle.layout.proofs.OwnAddresses.{no_address, object_address}
use Rattle.layout.proofs.placement.Placement.numbered_address.Goals as goal

pub returns-then-object-objects : goal.returns-then-object-objects
returns-then-object-objects c =
    let objects = c.self.inside.loaded.objects in
    let count = ap (λ (os : List LoadedObject). length os) (sym c.objects.ensures.exact) ∙ length-map c.objects.result.now loaded_view in
    let above = c.if-object-objects.true in
    let high : length objects < c.args.section.object.0 = omega (arith, count, above) in
    no_address c.self.inside.base objects c.args.section.object.0 c.args.section.section high
    ∙ ap (λ (b : Basis). option_map (λ q. q.at) (find (is_of_section c.args.section.object.0 c.args.section.section) (own_in_load_order b.base b.objects))) c.self.view_is

pub returns : goal.returns
returns c =
    let objects = c.self.inside.loaded.objects in
    let count = ap (λ (os : List LoadedObject). length os) (sym c.objects.ensures.exact) ∙ length-map c.objects.result.now loaded_view in
    let within = c.if-object-objects.false in
    let low : c.args.section.object.0 ≤ length objects = omega (arith, count, within) in
    c.address_in.ensures
    ∙ (ap (λ (t : List (Vec ℕ)). entry t c.args.section.object.0 c.args.section.section) c.deref.ensures.value
    ∙ (c.self.invariant.0.addresses_are c.args.section.object.0 c.args.section.section
    ∙ (object_address c.self.inside.base objects c.args.section.object.0 c.args.section.section low
    ∙ ap (λ (b : Basis). option_map (λ q. q.at) (find (is_of_section c.args.section.object.0 c.args.section.section) (own_in_load_order b.base b.objects))) c.self.view_is)))
