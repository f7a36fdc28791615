use Rattle.std.proofs.Common.{◌≡◌, ◌∙◌, ◌<◌, ◌^◌, ℕ, List, ap, arith, get_or, length, rules, subst, sym}
use Rattle.std.specs.Global.{Vec}
use Rattle.std.specs.Prelude.{Some, replicate}
use Rattle.std.proofs.lemmas.List.{get_or-map, length-map, length-replicate}
use Rattle.std.proofs.lemmas.Option.{none-some, same_Some}
use Rattle.elf_model.specs.Link.ChosenSymbols.{chosen_symbols}
use Rattle.elf_model.specs.declared.references.SymbolRef.{SymbolRef}
use Rattle.search.specs.Names.{number_of}
use Rattle.search.specs.Numbers.{name_number}
use Rattle.resolve.specs.Offered.{ref_of}
use Rattle.resolve.specs.declared.places.TheConstants.{NO_PLACE}
use Rattle.resolve.proofs.NamedNumbers.{chosen_numbered}
use Rattle.resolve.proofs.PlacesByNumber.{AreFirstPlaces, no_symbol, places_more, places_none, places_told}
use Rattle.resolve.proofs.places.places_of.Goals as goal
use Rattle.resolve.proofs.places.places_of.Goals.{in-Some, in_default}
use Rattle.resolve.proofs.places.places_of.Goals.{in-Some, in_default}

-- what a list of numbers answers past its end
abbrev no_ref : SymbolRef
no_ref = record { object = record { 0 = 0 }; symbol = 0 }

pub loop-index-init : goal.loop-index-init
loop-index-init c =
    let names = c.args.loaded.now.names in
    let is : c.in_ok-places.places.items ≡ replicate (length names) NO_PLACE =
    c.in_ok-places.ensures.items_if_clones_equal (λ y k. search rules) ∙ ap (λ (n : ℕ). replicate n NO_PLACE) c.name_count.ensures.count in
    places_none names (chosen_symbols c.args.loaded.now.objects) c.in_ok-places.places.items is (ap (λ (os : List ℕ). length os) is ∙ length-replicate (length names) NO_PLACE)

pub loop-index-preserved : goal.loop-index-preserved
loop-index-preserved c =
    let l = c.args.loaded.now in
    let names = l.names in
    let ss = chosen_symbols l.objects in
    let at = c.loop-index.index in
    let same : length c.args.chosen.now ≡ length ss = ap (λ (rs : List SymbolRef). length rs) c.requires ∙ length-map ss ref_of in
    let few : length c.args.chosen.now < 2 ^ 64 = search rules in
    let within : at < length ss = omega (arith, same, c.loop-index-test.true) in
    let s = get_or ss at no_symbol in
    let numbered = chosen_numbered l at no_symbol within in
    let told : c.name_number.result ≡ Some (number_of names s.name) =
    c.name_number.ensures.number
    ∙ (ap (λ (r : SymbolRef). name_number l r.object.0 r.symbol)
    (ap (λ (rs : List SymbolRef). get_or rs at no_ref) c.requires ∙ get_or-map ref_of ss at no_symbol no_ref within)
    ∙ numbered.number) in
    elim c.match-name_number.branch [
      | in-Some w ↦
          places_more names ss at w.in-Some.number c.loop-index.places.items c.match-name_number.places.items no_symbol c.loop-index.invariant within (omega (arith, same, few))
          (numbered.among c.name_count.ensures.named) (same_Some w.in-Some.number (number_of names s.name) (sym w.in-Some.is ∙ told))
          (ap (λ (v : Vec ℕ). v.items) w.places-is ∙ w.put.ensures)
      | in_default w ↦ absurd (none-some (number_of names s.name) (sym w.in_default.is ∙ told))
    ]

pub returns : goal.returns
returns c =
    let ss = chosen_symbols c.args.loaded.now.objects in
    let few : length c.args.chosen.now < 2 ^ 64 = search rules in
    let same : length c.args.chosen.now ≡ length ss = ap (λ (rs : List SymbolRef). length rs) c.requires ∙ length-map ss ref_of in
    let all : c.loop-index.index ≡ length ss = omega (arith, same, c.loop-index-test.false, c.loop-index.auto.index-end) in
    places_told c.args.loaded.now c.loop-index.places.items
    (subst (λ (n : ℕ). AreFirstPlaces c.args.loaded.now.names ss n c.loop-index.places.items) all c.loop-index.invariant)
    (omega (arith, same, few)) c.name_count.ensures.named c.objects-objects.ensures.objects
