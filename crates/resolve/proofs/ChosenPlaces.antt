-- Places among the chosen definitions.
use Rattle.std.proofs.Common.{◌≡◌, ◌∙◌, ℕ, List, [], Option, None, Some, ap, get_or, map, option_map, refl, subst, sym}
use Rattle.std.specs.Prelude.{slice_get}
use Rattle.std.specs.Option.{option_map_or}
use Rattle.std.proofs.lemmas.List.{get_or_past}
use Rattle.std.proofs.lemmas.Option.{get_or_from_slice_get, none-some, same_Some, slice_get-map}
use Rattle.std.proofs.lemmas.List.Elements.{All-filter}
use Rattle.elf_model.specs.Link.ChosenSymbols.{chosen_symbols, definitions, is_chosen, is_definition}
use Rattle.elf_model.specs.Link.Loading.{LoadedObject}
use Rattle.elf_model.specs.Link.Resolution.{SymbolOf, all_symbols}
use Rattle.elf_model.specs.declared.references.SymbolRef.{SymbolRef}
use Rattle.search.specs.Loads.{LoadedPlan}
use Rattle.search.specs.Numbers.{AreNamed, name_number}
use Rattle.search.proofs.Numbering.{number_at}
use Rattle.resolve.specs.Defined.{AreChosen}
use Rattle.resolve.specs.Offered.{ref_of}
use Rattle.resolve.specs.Places.{symbol_numbered}
use Rattle.resolve.proofs.Located.{All-at, IsAt, located}
use Rattle.resolve.proofs.NamedNumbers.{IsNumbered, chosen_numbered}
use Rattle.resolve.proofs.PlacesByNumber.{past_none}

-- the numbers at a place are those of the chosen symbol there
pub numbers_at :
    (L : List LoadedObject) (chosen : List SymbolRef) (place : ℕ) → AreChosen L chosen →
    slice_get chosen place ≡ option_map ref_of (slice_get (chosen_symbols L) place)
numbers_at L chosen place are = ap (λ (rs : List SymbolRef). slice_get rs place) are ∙ slice_get-map ref_of (chosen_symbols L) place

-- that symbol is found by them
pub found_by :
    (L : List LoadedObject) (chosen : List SymbolRef) (place : ℕ) (r : SymbolRef) → AreChosen L chosen → slice_get chosen place ≡ Some r →
    symbol_numbered L r.object.0 r.symbol ≡ slice_get (chosen_symbols L) place
found_by L chosen place r are at = by (slice_get (chosen_symbols L) place) refl (sym at ∙ numbers_at L chosen place are)
  where
    placed : (s : SymbolOf) → slice_get (chosen_symbols L) place ≡ Some s → IsAt L s
    placed s is =
        All-at (IsAt L) (chosen_symbols L) place s
        (All-filter (is_chosen L) (IsAt L) (definitions L) (All-filter is_definition (IsAt L) (all_symbols L) (located L))) is

    by : (o : Option SymbolOf) → slice_get (chosen_symbols L) place ≡ o → Some r ≡ option_map ref_of o → symbol_numbered L r.object.0 r.symbol ≡ o
    by None is e = absurd (none-some r (sym e))
    by (Some s) is e = subst (λ (x : SymbolRef). symbol_numbered L x.object.0 x.symbol ≡ Some s) (sym (same_Some r (ref_of s) e)) (placed s is).is

-- so is its name, by the number of that
pub name_by :
    (l : LoadedPlan) (chosen : List SymbolRef) (place : ℕ) (r : SymbolRef) → AreNamed l → AreChosen l.objects chosen → slice_get chosen place ≡ Some r →
    option_map_or (λ n. get_or l.names n []) (name_number l r.object.0 r.symbol) [] ≡ get_or (map (λ s. s.name) (chosen_symbols l.objects)) place []
name_by l chosen place r named are at = by (slice_get (chosen_symbols l.objects) place) refl (sym at ∙ numbers_at l.objects chosen place are)
  where
    by :
        (o : Option SymbolOf) → slice_get (chosen_symbols l.objects) place ≡ o → Some r ≡ option_map ref_of o →
        option_map_or (λ n. get_or l.names n []) (name_number l r.object.0 r.symbol) [] ≡ get_or (map (λ s. s.name) (chosen_symbols l.objects)) place []
    by None is e = absurd (none-some r (sym e))
    by (Some s) is e =
        let numbered = All-at (IsNumbered l) (chosen_symbols l.objects) place s (chosen_numbered l) is in
        ap (λ (x : SymbolRef). option_map_or (λ n. get_or l.names n []) (name_number l x.object.0 x.symbol) []) (same_Some r (ref_of s) e)
        ∙ (ap (λ (n : Option ℕ). option_map_or (λ i. get_or l.names i []) n []) numbered.number
        ∙ (number_at l.names s.name [] (numbered.among named)
        ∙ sym (get_or_from_slice_get (map (λ t. t.name) (chosen_symbols l.objects)) place s.name []
        (slice_get-map (λ t. t.name) (chosen_symbols l.objects) place ∙ ap (option_map (λ t. t.name)) is))))

-- past the end
pub none_by :
    (L : List LoadedObject) (chosen : List SymbolRef) (place : ℕ) → AreChosen L chosen → slice_get chosen place ≡ None →
    [] ≡ get_or (map (λ s. s.name) (chosen_symbols L)) place []
none_by L chosen place are none = by (slice_get (chosen_symbols L) place) refl (sym none ∙ numbers_at L chosen place are)
  where
    by : (o : Option SymbolOf) → slice_get (chosen_symbols L) place ≡ o → None ≡ option_map ref_of o → [] ≡ get_or (map (λ s. s.name) (chosen_symbols L)) place []
    by None is e =
        let past = past_none (map (λ t. t.name) (chosen_symbols L)) place (slice_get-map (λ t. t.name) (chosen_symbols L) place ∙ ap (option_map (λ t. t.name)) is) in
        sym (get_or_past (map (λ t. t.name) (chosen_symbols L)) place [] past)
    by (Some s) is e = absurd (none-some (ref_of s) e)
