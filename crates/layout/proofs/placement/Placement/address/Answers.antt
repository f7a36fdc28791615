use Rattle.std.proofs.Common.{◌∙◌, ◌<◌, ◌≤◌, List, ap, arith, length, option_map, subst, sym}
use Rattle.std.specs.Prelude.{find}
use Rattle.std.proofs.lemmas.List.{length-map}
use Rattle.elf_model.specs.Link.Loading.{LoadedObject}
use Rattle.elf_model.specs.Own.OwnLayout.{own_places}
use Rattle.elf_model.specs.Link.Pieces.{kept_sections}
use Rattle.elf_model.specs.Link.Placement.{is_of_section}
use Rattle.search.specs.Views.{loaded_view}
use Rattle.layout.specs.Placements.{Basis}
use Rattle.layout.proofs.OwnAddresses.{kept_address, no_section}
use Rattle.layout.proofs.placement.Placement.address.Goals as goal

pub returns-then-section-objects : goal.returns-then-section-objects
returns-then-section-objects c =
    let objects = c.self.inside.loaded.objects in
    let count = ap (λ (os : List LoadedObject). length os) (sym c.objects.ensures.exact) ∙ length-map c.objects.result.now loaded_view in
    let above = c.if-section-objects.true in
    let high : length objects ≤ c.args.section.object.0 = omega (arith, count, above) in
    no_section c.self.inside.base objects c.args.section.object.0 c.args.section.section high
    ∙ ap
    (λ (b : Basis). option_map (λ q. q.at) (find (is_of_section c.args.section.object.0 c.args.section.section) (own_places b.base b.objects (kept_sections b.objects))))
    c.self.view_is

pub returns : goal.returns
returns c =
    let b = c.args.self.now in
    let objects = c.self.inside.loaded.objects in
    let count = ap (λ (os : List LoadedObject). length os) (sym c.objects.ensures.exact) ∙ length-map c.objects.result.now loaded_view in
    let below = c.if-section-objects.false in
    let low : c.args.section.object.0 < length objects = omega (arith, count, below) in
    c.numbered_address.ensures
    ∙ kept_address b.base b.objects c.args.section.object.0 c.args.section.section
    (subst (λ (x : Basis). c.args.section.object.0 < length x.objects) c.self.view_is low)
