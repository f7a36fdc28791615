-- The numbers that are kept for the names of symbols: those of loaded objects' symbols are right.
use Rattle.std.proofs.Common.{◌≡◌, ℕ, zero, suc, List, [], ◌∷◌, Option, Some, None, refl, sym, ap, subst, ◌∙◌}
use Rattle.std.specs.Prelude.{All, IfSome, IsSomeAnd, filter, option_map, slice_get, unwrap_or}
use Rattle.std.specs.Option.{option_and_then}
use Rattle.std.proofs.lemmas.List.Elements.{All-filter}
use Rattle.std.proofs.lemmas.Option.{get_or_from_slice_get, none-some, same_Some, slice_get_within}
use Rattle.elf_model.specs.Link.ChosenSymbols.{is_definition}
use Rattle.elf_model.specs.Link.Loading.{LoadedObject}
use Rattle.elf_model.specs.Link.Resolution.{SymbolOf, all_symbols, chosen}
use Rattle.check_load.specs.NameNumbers.{IsNumberOf, KeepNumbers, number_of}
use Rattle.check_load.specs.Numbered.{AreNumbered, IsNumbered, name_at, number_in}
use Rattle.check_load.specs.Views.{loaded_view, loaded_views}
use Rattle.check_load.specs.declared.loaded.Loaded.{Loaded}
use Rattle.check_load.proofs.Numbering.{known_with}
use Rattle.check_link.specs.Chosen.{AreHinted, IsHinted, hint_at}
use Rattle.check_link.specs.Views.{symbol_view}
use Rattle.check_link.specs.declared.things.SymbolOf as code
use Rattle.check_link.proofs.AtNumbers.{each_symbol}
use Rattle.check_link.specs.DefinitionList.{name_in, ref_of, unnamed}
use Rattle.elf_model.specs.declared.references.SymbolRef.{SymbolRef}

-- what is kept stays right as names come
pub still_hinted : (old new : List (List ℕ)) (objects : List Loaded) (ss : List SymbolOf) → KeepNumbers old new → AreHinted old objects ss → AreHinted new objects ss
still_hinted old new objects ss kept are = record { each = λ i s at. record { hint = λ k is. kept.keep s.name k ((are.each i s at).hint k is) } }

-- what is kept for the symbols of numbered objects
hinted : (names : List (List ℕ)) (objects : List Loaded) → AreNumbered names objects → All (IsHinted names objects) (all_symbols (loaded_views objects))
hinted names objects are =
    each_symbol objects (IsHinted names objects)
    (λ k l j e at got.
    let is : IsNumbered names l = subst (IsNumbered names) (get_or_from_slice_get objects k l l at) (are k l (slice_get_within objects k l at)) in
    record { hint = λ n told. is.each j n (sym (ap (option_and_then (λ (x : Loaded). number_in x.numbers j)) at) ∙ told) })

each_of : (names : List (List ℕ)) (objects : List Loaded) (ss : List SymbolOf) → All (IsHinted names objects) ss → AreHinted names objects ss
each_of names objects ss all = record {
  each = λ i s at. subst (IsHinted names objects) (get_or_from_slice_get ss i s s at) (all i s (slice_get_within ss i s at));
}

-- the number that is told for the definition at a position
pub told_at :
    (objects : List Loaded) (ss : List SymbolOf) (i : ℕ) (r : Option ℕ) (k : ℕ) → r ≡ Some k →
    IfSome r (λ n. IsSomeAnd (slice_get ss i) (λ s. hint_at objects s.object s.number ≡ Some n)) →
    IsSomeAnd (slice_get ss i) (λ s. hint_at objects s.object s.number ≡ Some k)
told_at objects ss i r k is told =
    subst (λ (o : Option ℕ). IfSome o (λ n. IsSomeAnd (slice_get ss i) (λ s. hint_at objects s.object s.number ≡ Some n))) is told

-- a number that is kept for the definition at a position is that of its name
pub hinted_at :
    (names : List (List ℕ)) (objects : List Loaded) (ss : List SymbolOf) (i k : ℕ) → AreHinted names objects ss →
    IsSomeAnd (slice_get ss i) (λ s. hint_at objects s.object s.number ≡ Some k) → IsNumberOf names (name_in ss i) k
hinted_at names objects ss i k are told = by (slice_get ss i) refl told
  where
    by :
        (o : Option SymbolOf) → slice_get ss i ≡ o → IsSomeAnd o (λ s. hint_at objects s.object s.number ≡ Some k) →
        IsNumberOf names (unwrap_or (option_map (λ (s : SymbolOf). s.name) o) []) k
    by None e t = absurd t
    by (Some s) e t = (are.each i s e).hint k t

-- what is kept is told of the one whose numbers stand at a position
pub noted_at :
    (objects : List Loaded) (ss : List SymbolOf) (i : ℕ) (ref : SymbolRef) (r : Option ℕ) → Some ref ≡ option_map ref_of (slice_get ss i) →
    r ≡ hint_at objects ref.object.0 ref.symbol →
    IfSome r (λ n. IsSomeAnd (slice_get ss i) (λ s. hint_at objects s.object s.number ≡ Some n))
noted_at objects ss i ref None at is = tt
noted_at objects ss i ref (Some n) at is = by (slice_get ss i) at
  where
    by : (o : Option SymbolOf) → Some ref ≡ option_map ref_of o → IsSomeAnd o (λ s. hint_at objects s.object s.number ≡ Some n)
    by None e = absurd (none-some ref (sym e))
    by (Some s) e = ap (λ (x : SymbolRef). hint_at objects x.object.0 x.symbol) (sym (same_Some ref (ref_of s) e)) ∙ sym is

pub definitions_hinted :
    (names : List (List ℕ)) (objects : List Loaded) (ss : List SymbolOf) → ss ≡ filter is_definition (all_symbols (loaded_views objects)) → AreNumbered names objects →
    AreHinted names objects ss
definitions_hinted names objects ss is are =
    subst (AreHinted names objects) (sym is)
    (each_of names objects (filter is_definition (all_symbols (loaded_views objects)))
    (All-filter is_definition (IsHinted names objects) (all_symbols (loaded_views objects)) (hinted names objects are)))

-- a number that is kept for a symbol is that of its name
found_view : (objects : List Loaded) (k : ℕ) (o : LoadedObject) → slice_get (loaded_views objects) k ≡ Some o → (l : Loaded) → slice_get objects k ≡ Some l → loaded_view l ≡ o
found_view [] k o at l there = absurd (none-some o at)
found_view (x ∷ xs) zero o at l there = ap loaded_view (sym (same_Some x l there)) ∙ same_Some (loaded_view x) o at
found_view (x ∷ xs) (suc k) o at l there = found_view xs k o at l there

pub hinted_name :
    (names : List (List ℕ)) (objects : List Loaded) (k j n : ℕ) (o : LoadedObject) → AreNumbered names objects → slice_get (loaded_views objects) k ≡ Some o →
    hint_at objects k j ≡ Some n → IsNumberOf names (name_at o.bytes j) n
hinted_name names objects k j n o are at told = by (slice_get objects k) refl
  where
    by : (x : Option Loaded) → slice_get objects k ≡ x → IsNumberOf names (name_at o.bytes j) n
    by None e = absurd (none-some n (sym (ap (option_and_then (λ (l : Loaded). number_in l.numbers j)) e) ∙ told))
    by (Some l) e =
        let is : IsNumbered names l = subst (IsNumbered names) (get_or_from_slice_get objects k l l e) (are k l (slice_get_within objects k l e)) in
        let known : IsNumberOf names (name_at l.object j) n = is.each j n (sym (ap (option_and_then (λ (x : Loaded). number_in x.numbers j)) e) ∙ told) in
        let same : loaded_view l ≡ o = found_view objects k o at l e in
        subst (λ (x : LoadedObject). IsNumberOf names (name_at x.bytes j) n) same known

pub hinted_number :
    (names : List (List ℕ)) (objects : List Loaded) (k j n : ℕ) (o : LoadedObject) → AreNumbered names objects → slice_get (loaded_views objects) k ≡ Some o →
    hint_at objects k j ≡ Some n → n ≡ number_of names (name_at o.bytes j)
hinted_number names objects k j n o are at told = (known_with names (name_at o.bytes j) n (hinted_name names objects k j n o are at told).found).1

pub hint_told :
    (names : List (List ℕ)) (objects : List Loaded) (k j : ℕ) (r : Option ℕ) → AreNumbered names objects → r ≡ hint_at objects k j →
    IfSome r (λ n. (o : LoadedObject) → slice_get (loaded_views objects) k ≡ Some o → IsNumberOf names (name_at o.bytes j) n)
hint_told names objects k j None are is = tt
hint_told names objects k j (Some n) are is = λ o at. hinted_name names objects k j n o are at (sym is)

-- the definition of the symbol's name is told, without the name
pub choice_told :
    (L : List LoadedObject) (k j : ℕ) (r : Option code.SymbolOf) →
    ((o : LoadedObject) → slice_get L k ≡ Some o → option_map symbol_view r ≡ option_map unnamed (chosen L (name_at o.bytes j))) →
    IfSome r (λ s. (o : LoadedObject) → slice_get L k ≡ Some o → option_map unnamed (chosen L (name_at o.bytes j)) ≡ Some (symbol_view s))
choice_told L k j None is = tt
choice_told L k j (Some s) is = λ o at. sym (is o at)
