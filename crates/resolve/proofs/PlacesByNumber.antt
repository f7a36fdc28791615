-- The indices of names' definitions, written one after the other, and what they say of a symbol.
use Rattle.std.proofs.Common.{◌≡◌, ℕ, ◌+◌, ◌<◌, ◌≤◌, ◌^◌, ◌⊎◌, inl, inr, Bool, true, false, cond, List, [], ◌∷◌, length, get_or, refl, sym, ◌∙◌, ap, subst, arith, true≢false}
use Rattle.std.specs.Prelude.{◌==◌, ◌/◌, find, nat_lt, None, Option, Some, option_map, replicate, set, slice_get, unwrap_or}
use Rattle.std.specs.Option.{option_and_then}
use Rattle.std.specs.Str.{bytes_eq}
use Rattle.std.proofs.lemmas.Bool.{cases_lt}
use Rattle.std.proofs.lemmas.Bool.Decides.{nat_tests}
use Rattle.std.proofs.lemmas.List.{get_or_past, get_or-replicate, get_or-set_other, get_or-set_same, get_or_default, length-set}
use Rattle.std.proofs.lemmas.Option.{get_or_from_slice_get, none-some, slice_get-get_or, slice_get_past, slice_get_within}
use Rattle.std.proofs.lemmas.Slice.Eq.{bytes_eq-Decides}
use Rattle.elf_model.proofs.ChosenSymbols.{chosen_listed}
use Rattle.elf_model.proofs.Finding.{find-none}
use Rattle.elf_model.proofs.LoadingBounds.{by_case}
use Rattle.elf_model.specs.Link.ChosenSymbols.{chosen_symbols}
use Rattle.elf_model.specs.Link.Loading.{AreObjects, LoadedObject, is_global_or_weak}
use Rattle.elf_model.specs.Inputs.ObjectFile.{IsObject, name_of_symbol, null_symbol, symbol_name, symbols}
use Rattle.elf_model.specs.Link.Relocation.{is_local, symbol_at}
use Rattle.elf_model.specs.Link.Resolution.{SymbolOf, chosen, has_name, symbol_of}
use Rattle.elf_model.specs.declared.records.Symbol.{Symbol}
use Rattle.search.specs.Loads.{LoadedPlan}
use Rattle.search.specs.Names.{is_among, number_of}
use Rattle.search.specs.Numbers.{AreNamed}
use Rattle.search.proofs.Numbering.{number_below, number_once, number_past}
use Rattle.resolve.specs.Meaning.{named_at, named_of}
use Rattle.resolve.specs.Places.{ArePlaces, at_some, place_at, place_named}
use Rattle.resolve.specs.declared.places.TheConstants.{NO_PLACE}
use Rattle.resolve.proofs.ChosenLaws.{named_once}
use Rattle.resolve.proofs.NamedNumbers.{chosen_numbered}
use Rattle.resolve.proofs.NamedOnce.{found_itself}

-- the symbol that stands past the end of a list
abbrev pub no_symbol : SymbolOf
no_symbol = record { object = 0; number = 0; name = []; entry = null_symbol; dropped = false }

-- the index of the definition that has a name, or none
abbrev pub IsHit : List SymbolOf → ℕ → List ℕ → ℕ → Type 0
IsHit ss index n p = (p ≡ NO_PLACE) ⊎ ((p < index) × ((d : SymbolOf) → (get_or ss p d).name ≡ n))

-- the indices of the first definitions are written
pub record AreFirstPlaces (names : List (List ℕ)) (ss : List SymbolOf) (index : ℕ) (places : List ℕ) : Type 0 where
  pub sized : length places ≡ length names
  pub hit : (n : List ℕ) → is_among names n ≡ true → IsHit ss index n (get_or places (number_of names n) NO_PLACE)
  pub all : (k : ℕ) (d : SymbolOf) → k < index → get_or places (number_of names (get_or ss k d).name) NO_PLACE ≡ NO_PLACE → ⊥

pub places_none : (names : List (List ℕ)) (ss : List SymbolOf) (places : List ℕ) → places ≡ replicate (length names) NO_PLACE → length places ≡ length names → AreFirstPlaces names ss 0 places
places_none names ss places is sized = record {
  sized = sized;
  hit = λ n among. inl (ap (λ (l : List ℕ). get_or l (number_of names n) NO_PLACE) is ∙ get_or-replicate (length names) (number_of names n) NO_PLACE NO_PLACE (number_below names n among));
  all = λ k d below. absurd (omega (arith, below));
}

-- one more
pub places_more :
    (names : List (List ℕ)) (ss : List SymbolOf) (index i : ℕ) (places new : List ℕ) (e : SymbolOf) → AreFirstPlaces names ss index places → index < length ss → length ss < 2 ^ 64 →
    is_among names (get_or ss index e).name ≡ true → i ≡ number_of names (get_or ss index e).name → new ≡ set places i index → AreFirstPlaces names ss (index + 1) new
places_more names ss index i places new e h within few there is written = record {
  sized = ap (λ (l : List ℕ). length l) written ∙ (length-set _ _ _ ∙ h.sized);
  hit = λ n among. subst (λ (l : List ℕ). IsHit ss (index + 1) n (get_or l (number_of names n) NO_PLACE)) (sym written) (by n among (bytes_eq (get_or ss index e).name n) refl (h.hit n among));
  all = λ k d below none. every k d (cases_lt k index) below (sym (ap (λ (l : List ℕ). get_or l (number_of names (get_or ss k d).name) NO_PLACE) written) ∙ none);
}
  where
    own : (n : List ℕ) → bytes_eq (get_or ss index e).name n ≡ true → get_or (set places i index) (number_of names n) NO_PLACE ≡ index
    own n same =
        let at : number_of names n ≡ i = ap (number_of names) (sym ((bytes_eq-Decides (get_or ss index e).name n).0 same)) ∙ sym is in
        ap (λ (k : ℕ). get_or (set places i index) k NO_PLACE) at
        ∙ get_or-set_same places i index NO_PLACE (omega (arith, is, h.sized, number_below names (get_or ss index e).name there))

    other : (n : List ℕ) → bytes_eq (get_or ss index e).name n ≡ false → get_or (set places i index) (number_of names n) NO_PLACE ≡ get_or places (number_of names n) NO_PLACE
    other n differs =
        get_or-set_other places i (number_of names n) index NO_PLACE
        (λ same. true≢false (sym (number_once names (get_or ss index e).name n there (same ∙ is)) ∙ differs))

    wider : (n : List ℕ) (p : ℕ) → IsHit ss index n p → IsHit ss (index + 1) n p
    wider n p (inl none) = inl none
    wider n p (inr found) = inr (omega (arith, found.0), found.1)

    by : (n : List ℕ) → is_among names n ≡ true → (b : Bool) → bytes_eq (get_or ss index e).name n ≡ b → IsHit ss index n (get_or places (number_of names n) NO_PLACE) →
        IsHit ss (index + 1) n (get_or (set places i index) (number_of names n) NO_PLACE)
    by n among true same old =
        subst (IsHit ss (index + 1) n) (sym (own n same))
        (inr (omega arith, λ d. ap (λ (x : SymbolOf). x.name) (get_or_default ss index d e within) ∙ (bytes_eq-Decides (get_or ss index e).name n).0 same))
    by n among false differs old = subst (IsHit ss (index + 1) n) (sym (other n differs)) (wider n (get_or places (number_of names n) NO_PLACE) old)

    every : (k : ℕ) (d : SymbolOf) → (k < index) ⊎ (index ≤ k) → k < index + 1 → get_or (set places i index) (number_of names (get_or ss k d).name) NO_PLACE ≡ NO_PLACE → ⊥
    every k d (inl before) below none =
        by_case (bytes_eq (get_or ss index e).name (get_or ss k d).name)
        (λ same. let at : index ≡ NO_PLACE = sym (own (get_or ss k d).name same) ∙ none in absurd (omega (arith, at, within, few)))
        (λ differs. h.all k d before (sym (other (get_or ss k d).name differs) ∙ none))
    every k d (inr past) below none =
        let here : k ≡ index = omega (arith, past, below) in
        let same : (get_or ss index e).name ≡ (get_or ss k d).name =
        ap (λ (x : SymbolOf). x.name) (get_or_default ss index e d within) ∙ ap (λ (m : ℕ). (get_or ss m d).name) (sym here) in
        let at : index ≡ NO_PLACE = sym (own (get_or ss k d).name ((bytes_eq-Decides (get_or ss index e).name (get_or ss k d).name).1 same)) ∙ none in
        absurd (omega (arith, at, within, few))

pub past_none : {X : Type 0} (xs : List X) (i : ℕ) → slice_get xs i ≡ None → length xs ≤ i
past_none {X} xs i none = by (cases_lt i (length xs))
  where
    by : (i < length xs) ⊎ (length xs ≤ i) → length xs ≤ i
    by (inl within) = absurd (there xs refl within)
      where
        there : (ys : List X) → ys ≡ xs → i < length xs → ⊥
        there [] e within_ = let none_ = ap (λ (zs : List X). length zs) e in omega (arith, none_, within_)
        there (y ∷ ys) e within_ = none-some (get_or xs i y) (sym none ∙ slice_get-get_or xs i y within_)
    by (inr past) = past

-- a symbol that is GLOBAL or WEAK isn't LOCAL, and one of an object that is neither is
pub shared_global : (e : Symbol) → is_global_or_weak e ≡ true → (e.st_info / 16 == 0) ≡ false
shared_global e shared = grind (arith, nat_tests)

pub unshared_local : (e : Symbol) → e.st_info / 16 ≤ 2 → is_global_or_weak e ≡ false → (e.st_info / 16 == 0) ≡ true
unshared_local e low local = grind (arith, nat_tests)

pub lt_is : (a b : ℕ) → a < b → nat_lt a b ≡ true
lt_is a b less = grind (arith, nat_tests)

not_lt : (a b : ℕ) → a ≡ b → nat_lt a b ≡ false
not_lt a b same = grind (arith, nat_tests)

-- What they say of a symbol, once all are written.
module _ (l : LoadedPlan) (places : List ℕ) (h : AreFirstPlaces l.names (chosen_symbols l.objects) (length (chosen_symbols l.objects)) places) (few : length (chosen_symbols l.objects) < 2 ^ 64) where
  abbrev ss : List SymbolOf
  ss = chosen_symbols l.objects

  stands : (n : List ℕ) → is_among l.names n ≡ true → slice_get ss (get_or places (number_of l.names n) NO_PLACE) ≡ chosen l.objects n
  stands n among = by (get_or places (number_of l.names n) NO_PLACE) refl (h.hit n among) ∙ chosen_listed l.objects n
    where
      by : (p : ℕ) → get_or places (number_of l.names n) NO_PLACE ≡ p → IsHit ss (length ss) n p → slice_get ss p ≡ find (has_name n) ss
      by p at (inl none) =
          slice_get_past ss p (omega (arith, none, few))
          ∙ sym (find-none (has_name n) ss (λ k e within.
          by_case (bytes_eq (get_or ss k e).name n)
          (λ same. absurd (h.all k e within (ap (λ (m : List ℕ). get_or places (number_of l.names m) NO_PLACE) ((bytes_eq-Decides (get_or ss k e).name n).0 same) ∙ (at ∙ none))))
          (λ differs. differs)))
      by p at (inr found) = first ss refl
        where
          first : (ys : List SymbolOf) → ys ≡ ss → slice_get ss p ≡ find (has_name n) ss
          first [] e = absurd (let none = ap (λ (zs : List SymbolOf). length zs) e in omega (arith, none, found.0))
          first (x ∷ ys) e =
              slice_get-get_or ss p x found.0
              ∙ sym (found_itself (has_name n) ss p x (named_once l.objects n) found.0 ((bytes_eq-Decides (get_or ss p x).name n).1 (found.1 x)))

  module _ (named : AreNamed l) (objects : AreObjects l.objects) (k j : ℕ) (o : LoadedObject) (at : slice_get l.objects k ≡ Some o) where
    abbrev told : Option ℕ
    told = option_and_then (λ x. cond (is_global_or_weak x) (Some (number_of l.names (name_of_symbol o.bytes x))) None) (slice_get (symbols o.bytes) j)

    abbrev placed : Option ℕ → Option ℕ
    placed r = option_and_then (λ n. slice_get places n) r

    none_there : slice_get (symbols o.bytes) j ≡ None → length (symbols o.bytes) ≤ j → at_some l.objects (placed told) ≡ named_of l.objects (symbol_at k o j)
    none_there got past =
        ap (λ (r : Option Symbol). at_some l.objects (placed (option_and_then (λ x. cond {A = Option ℕ} (is_global_or_weak x) (Some (number_of l.names (name_of_symbol o.bytes x))) None) r))) got
        ∙ sym (ap (λ (e : Symbol). named_of l.objects (symbol_of k o j e)) (get_or_past (symbols o.bytes) j null_symbol past))

    symbol_there : (e : Symbol) → slice_get (symbols o.bytes) j ≡ Some e → (b : Bool) → is_global_or_weak e ≡ b → at_some l.objects (placed told) ≡ named_of l.objects (symbol_at k o j)
    symbol_there e got true shared =
        let entry : get_or (symbols o.bytes) j null_symbol ≡ e = get_or_from_slice_get (symbols o.bytes) j e null_symbol got in
        let among = named k j o e at got shared in
        let called : unwrap_or (symbol_name o.bytes j) [] ≡ name_of_symbol o.bytes e = ap (λ (r : Option Symbol). unwrap_or (option_map (name_of_symbol o.bytes) r) []) got in
        let global : is_local (symbol_of k o j e) ≡ false = shared_global e shared in
        ap (λ (r : Option Symbol). at_some l.objects (placed (option_and_then (λ x. cond {A = Option ℕ} (is_global_or_weak x) (Some (number_of l.names (name_of_symbol o.bytes x))) None) r))) got
        ∙ (ap (λ (b : Bool). at_some l.objects (placed (cond {A = Option ℕ} b (Some (number_of l.names (name_of_symbol o.bytes e))) None))) shared
        ∙ (ap (at_some l.objects) (slice_get-get_or places (number_of l.names (name_of_symbol o.bytes e)) NO_PLACE (omega (arith, h.sized, number_below l.names (name_of_symbol o.bytes e) among)))
        ∙ (stands (name_of_symbol o.bytes e) among
        ∙ sym (ap (λ (x : Symbol). named_of l.objects (symbol_of k o j x)) entry
        ∙ (ap (λ (b : Bool). cond b None (chosen l.objects (unwrap_or (symbol_name o.bytes j) []))) global
        ∙ ap (chosen l.objects) called)))))
    symbol_there e got false local =
        let entry : get_or (symbols o.bytes) j null_symbol ≡ e = get_or_from_slice_get (symbols o.bytes) j e null_symbol got in
        let good : IsObject o.bytes = subst (λ (x : LoadedObject). IsObject x.bytes) (get_or_from_slice_get l.objects k o o at) (objects k o (slice_get_within l.objects k o at)) in
        let bound = subst (λ (x : Symbol). x.st_info / 16 ≤ 2) (get_or_from_slice_get (symbols o.bytes) j e e got) (good.symbols.symbols.each j e (slice_get_within (symbols o.bytes) j e got)).binding in
        let own : is_local (symbol_of k o j e) ≡ true = unshared_local e bound local in
        ap (λ (r : Option Symbol). at_some l.objects (placed (option_and_then (λ x. cond {A = Option ℕ} (is_global_or_weak x) (Some (number_of l.names (name_of_symbol o.bytes x))) None) r))) got
        ∙ (ap (λ (b : Bool). at_some l.objects (placed (cond {A = Option ℕ} b (Some (number_of l.names (name_of_symbol o.bytes e))) None))) local
        ∙ sym (ap (λ (x : Symbol). named_of l.objects (symbol_of k o j x)) entry
        ∙ ap (λ (b : Bool). cond b None (chosen l.objects (unwrap_or (symbol_name o.bytes j) []))) own))

    there : (r : Option Symbol) → slice_get (symbols o.bytes) j ≡ r → at_some l.objects (placed told) ≡ named_of l.objects (symbol_at k o j)
    there None got = none_there got (past_none (symbols o.bytes) j got)
    there (Some e) got = symbol_there e got (is_global_or_weak e) refl

  -- a name that isn't among those that have numbers is that of no definition
  unnamed : AreNamed l → (n : List ℕ) → is_among l.names n ≡ false → chosen l.objects n ≡ None
  unnamed named n past =
      sym (chosen_listed l.objects n)
      ∙ find-none (has_name n) ss (λ k e within.
      by_case (bytes_eq (get_or ss k e).name n)
      (λ same. absurd (true≢false (sym ((chosen_numbered l k e within).among named)
      ∙ (ap (is_among l.names) ((bytes_eq-Decides (get_or ss k e).name n).0 same) ∙ past))))
      (λ differs. differs))

  by_name : AreNamed l → (n : List ℕ) → at_some l.objects (place_named l places n) ≡ chosen l.objects n
  by_name named n = by (is_among l.names n) refl
    where
      by : (b : Bool) → is_among l.names n ≡ b → at_some l.objects (place_named l places n) ≡ chosen l.objects n
      by true among =
          ap (λ (b : Bool). at_some l.objects (option_and_then (λ p. slice_get places p) (cond {A = Option ℕ} b (Some (number_of l.names n)) None)))
          (lt_is (number_of l.names n) (length l.names) (number_below l.names n among))
          ∙ (ap (at_some l.objects) (slice_get-get_or places (number_of l.names n) NO_PLACE (omega (arith, h.sized, number_below l.names n among)))
          ∙ stands n among)
      by false past =
          ap (λ (b : Bool). at_some l.objects (option_and_then (λ p. slice_get places p) (cond {A = Option ℕ} b (Some (number_of l.names n)) None)))
          (not_lt (number_of l.names n) (length l.names) (number_past l.names n past))
          ∙ sym (unnamed named n past)

  pub places_told : AreNamed l → AreObjects l.objects → ArePlaces l places
  places_told named objects = record { named = by_name named; each = λ k j. by k j (slice_get l.objects k) refl }
    where
      by :
          (k j : ℕ) (r : Option LoadedObject) → slice_get l.objects k ≡ r → at_some l.objects (place_at l places k j) ≡ named_at l.objects k j
      by k j None at =
          ap (λ (r : Option LoadedObject). at_some l.objects (option_and_then (λ n. slice_get places n) (option_and_then (λ o. option_and_then (λ x. cond {A = Option ℕ} (is_global_or_weak x) (Some (number_of l.names (name_of_symbol o.bytes x))) None) (slice_get (symbols o.bytes) j)) r))) at
          ∙ sym (ap (λ (r : Option LoadedObject). option_and_then (λ o. named_of l.objects (symbol_at k o j)) r) at)
      by k j (Some o) at =
          ap (λ (r : Option LoadedObject). at_some l.objects (option_and_then (λ n. slice_get places n) (option_and_then (λ o. option_and_then (λ x. cond {A = Option ℕ} (is_global_or_weak x) (Some (number_of l.names (name_of_symbol o.bytes x))) None) (slice_get (symbols o.bytes) j)) r))) at
          ∙ (there named objects k j o at (slice_get (symbols o.bytes) j) refl
          ∙ sym (ap (λ (r : Option LoadedObject). option_and_then (λ o. named_of l.objects (symbol_at k o j)) r) at))
