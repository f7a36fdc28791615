-- Names that no object defines: no symbol has one that has no number, or that an object defines.
use Rattle.std.proofs.Common.{◌≡◌, ℕ, ◌<◌, ◌&&◌, Bool, true, false, cond, not, List, [], Option, None, Some, get_or, length, refl, sym, ◌∙◌, ap, subst}
use Rattle.std.specs.BTreeSet.{BTreeSet}
use Rattle.std.specs.Borrow.{Bor}
use Rattle.std.specs.Option.{option_and_then, option_or}
use Rattle.std.specs.Prelude.{is_some, ◌/◌, ◌≤◌, is_none, option_map, unwrap_or}
use Rattle.std.specs.List.{position, slice_get}
use Rattle.std.specs.Str.{bytes_eq}
use Rattle.std.proofs.lemmas.Bool.{false≢true}
use Rattle.std.proofs.lemmas.List.{get_or_past}
use Rattle.std.proofs.lemmas.Option.{get_or_from_slice_get, none-some, slice_get_within}
use Rattle.std.proofs.lemmas.Slice.Eq.{bytes_eq-Decides}
use Rattle.elf_model.specs.Link.LinkerNames.{bound_of, fixed_bound, named_output, output_bound}
use Rattle.elf_model.specs.declared.bound.Bound.{Bound}
use Rattle.elf_model.specs.Link.ChosenSymbols.{chosen_symbols}
use Rattle.elf_model.specs.Link.Loading.{AreObjects, LoadedObject, is_global_or_weak}
use Rattle.elf_model.specs.Inputs.ObjectFile.{IsObject, name_of_symbol, null_symbol, symbols}
use Rattle.elf_model.specs.Link.Relocation.{is_local, symbol_at}
use Rattle.elf_model.specs.Link.Resolution.{SymbolOf, chosen, symbol_of}
use Rattle.elf_model.specs.declared.records.Symbol.{Symbol}
use Rattle.search.specs.Loads.{LoadedPlan}
use Rattle.search.specs.Names.{is_among, number_of}
use Rattle.search.specs.Numbers.{AreNamed}
use Rattle.search.proofs.Numbering.{number_at, number_below}
use Rattle.elf_model.specs.declared.references.SymbolRef.{SymbolRef}
use Rattle.resolve.specs.Defined.{AreChosen}
use Rattle.resolve.specs.Left.{HasNoLinkerNames, HasNoneLeft, is_linkers}
use Rattle.resolve.specs.Offered.{ref_of}
use Rattle.resolve.specs.Outputs.{AreOutputs, bound_among}
use Rattle.resolve.specs.Places.{ArePlaces, at_some, is_unplaced}
use Rattle.resolve.proofs.ChosenPlaces.{numbers_at}
use Rattle.resolve.proofs.PlacesByNumber.{lt_is, past_none, unshared_local}

-- the third of three, where the others hold
third : (a b c : Bool) → (a ≡ true → b ≡ true → c ≡ false) → (a && (b && c)) ≡ false
third true true c fails = fails refl refl
third true false c fails = refl
third false b c fails = refl

-- a name without a number isn't among those that have one
unnumbered : (names : List (List ℕ)) (n : List ℕ) → position (bytes_eq n) names ≡ None → is_among names n ≡ true → ⊥
unnumbered names n none among =
    none-some (number_of names n)
    (sym none ∙ ap (λ (b : Bool). cond {A = Option ℕ} b (Some (number_of names n)) None) (lt_is (number_of names n) (length names) (number_below names n among)))

module _ (l : LoadedPlan) (named : AreNamed l) (objects : AreObjects l.objects) where
  -- the name of a symbol that isn't LOCAL has a number
  among : (k j : ℕ) (o : LoadedObject) → slice_get l.objects k ≡ Some o → not (is_local (symbol_at k o j)) ≡ true → is_among l.names (symbol_at k o j).name ≡ true
  among k j o at shared = by (slice_get (symbols o.bytes) j) refl
    where
      entry : (e : Symbol) → slice_get (symbols o.bytes) j ≡ Some e → get_or (symbols o.bytes) j null_symbol ≡ e
      entry e got = get_or_from_slice_get (symbols o.bytes) j e null_symbol got

      there : (e : Symbol) → slice_get (symbols o.bytes) j ≡ Some e → (b : Bool) → is_global_or_weak e ≡ b → is_among l.names (symbol_at k o j).name ≡ true
      there e got true is =
          ap (λ (r : Option Symbol). is_among l.names (unwrap_or (option_map (name_of_symbol o.bytes) r) [])) got ∙ named k j o e at got is
      there e got false is =
          let good : IsObject o.bytes = subst (λ (x : LoadedObject). IsObject x.bytes) (get_or_from_slice_get l.objects k o o at) (objects k o (slice_get_within l.objects k o at)) in
          let bound = subst (λ (x : Symbol). x.st_info / 16 ≤ 2) (get_or_from_slice_get (symbols o.bytes) j e e got) (good.symbols.symbols.each j e (slice_get_within (symbols o.bytes) j e got)).binding in
          let own : is_local (symbol_of k o j e) ≡ true = unshared_local e bound is in
          absurd (false≢true (sym (ap (λ (x : Symbol). not (is_local (symbol_of k o j x))) (entry e got) ∙ ap not own) ∙ shared))

      by : (r : Option Symbol) → slice_get (symbols o.bytes) j ≡ r → is_among l.names (symbol_at k o j).name ≡ true
      by None got =
          absurd (false≢true (sym (ap (λ (x : Symbol). not (is_local (symbol_of k o j x))) (get_or_past (symbols o.bytes) j null_symbol (past_none (symbols o.bytes) j got))) ∙ shared))
      by (Some e) got = there e got (is_global_or_weak e) refl

  -- where a name has no number
  pub none_numbered : (n : List ℕ) → position (bytes_eq n) l.names ≡ None → HasNoneLeft l.objects n
  none_numbered n none k o at j =
      third (not (is_local (symbol_at k o j))) (bytes_eq (symbol_at k o j).name n) (is_none (chosen l.objects (symbol_at k o j).name)) (λ shared same.
      absurd (unnumbered l.names n none (ap (is_among l.names) (sym ((bytes_eq-Decides (symbol_at k o j).name n).0 same)) ∙ among k j o at shared)))

  -- where no name that has a number is the linker's and undefined
  pub none_linkers :
      (chosen_ : List SymbolRef) (places : List ℕ) (outputs : BTreeSet (Bor (List ℕ))) → AreChosen l.objects chosen_ → ArePlaces l places → AreOutputs l.objects outputs →
      ((n : ℕ) → n < length l.names → is_linkers chosen_ places outputs l.names n ≡ false) → HasNoLinkerNames l.objects
  none_linkers chosen_ places outputs are placed named_ none k o at j =
      third (not (is_local (symbol_at k o j))) (is_some (bound_of l.objects m)) (not (is_some (chosen l.objects m))) (λ shared bound. told (among k j o at shared) bound)
    where
      m : List ℕ
      m = (symbol_at k o j).name

      n : ℕ
      n = number_of l.names m

      found : (p : Option ℕ) → is_none (option_and_then (λ i. slice_get chosen_ i) p) ≡ false → not (is_some (at_some l.objects p)) ≡ false
      found None missing = absurd (false≢true (sym missing))
      found (Some i) missing = by_symbol (slice_get (chosen_symbols l.objects) i) (sym (ap (λ (r : Option SymbolRef). is_none r) (numbers_at l.objects chosen_ i are)) ∙ missing)
        where
          by_symbol : (s : Option SymbolOf) → is_none (option_map ref_of s) ≡ false → not (is_some s) ≡ false
          by_symbol None missing_ = absurd (false≢true (sym missing_))
          by_symbol (Some s) missing_ = refl

      first : (a b : Bool) → (a && b) ≡ false → b ≡ true → a ≡ false
      first true true both is = both
      first true false both is = absurd (false≢true is)
      first false b both is = refl

      told : is_among l.names m ≡ true → is_some (bound_of l.objects m) ≡ true → not (is_some (chosen l.objects m)) ≡ false
      told there bound =
          let within = number_below l.names m there in
          let bounds : bound_among outputs m ≡ bound_of l.objects m =
          ap (λ (b : Bool). option_or (fixed_bound m) (cond {A = Option Bound} b (output_bound m) None)) (named_.each (named_output m)) in
          let defined : is_some (bound_among outputs (get_or l.names n [])) ≡ true =
          ap (λ (x : List ℕ). is_some (bound_among outputs x)) (number_at l.names m [] there) ∙ (ap is_some bounds ∙ bound) in
          let kept = first (is_unplaced chosen_ places n) (is_some (bound_among outputs (get_or l.names n []))) (none n within) defined in
          let stands : at_some l.objects (slice_get places n) ≡ chosen l.objects m =
          ap (λ (b : Bool). at_some l.objects (option_and_then (λ p. slice_get places p) (cond {A = Option ℕ} b (Some n) None))) (sym (lt_is n (length l.names) within))
          ∙ placed.named m in
          sym (ap (λ (c : Option SymbolOf). not (is_some c)) stands)
          ∙ found (slice_get places n) kept
