-- The symbols of all objects, each at its object's and its own number.
use Rattle.std.proofs.Common.{◌≡◌, ℕ, ◌+◌, List, [], ◌∷◌, ◌++◌, append_assoc, length, length-append, Option, None, Some, refl, sym, ap, subst, ◌∙◌, arith}
use Rattle.std.specs.Prelude.{All, option_map, slice_get, unwrap_or}
use Rattle.std.specs.Option.{option_and_then}
use Rattle.std.proofs.lemmas.List.Elements.{All-append, All-cons, All-filter, All-nil}
use Rattle.std.proofs.lemmas.Option.{get_or_from_slice_get, none-some, same_Some, slice_get-map, slice_get_within}
use Rattle.elf_model.specs.Inputs.ObjectFile.{symbols}
use Rattle.elf_model.specs.Link.ChosenSymbols.{definitions, is_definition}
use Rattle.elf_model.specs.Link.Loading.{LoadedObject}
use Rattle.elf_model.specs.Link.Resolution.{SymbolOf, all_symbols, symbol_of, symbols_from, symbols_of}
use Rattle.elf_model.specs.declared.records.Symbol.{Symbol}
use Rattle.check_load.specs.Numbered.{name_at}
use Rattle.check_load.specs.Views.{loaded_view, loaded_views}
use Rattle.check_load.specs.declared.loaded.Loaded.{Loaded}
use Rattle.check_link.specs.DefinitionList.{name_in, name_there, ref_of, symbol_at}
use Rattle.elf_model.specs.declared.references.SymbolRef.{SymbolRef}

behind : {X : Type 0} (front : List X) (x : X) (xs : List X) → slice_get (front ++ x ∷ xs) (length front) ≡ Some x
behind [] x xs = refl
behind (y ∷ ys) x xs = behind ys x xs

-- what holds of each symbol that an object has at a number holds of all
module _ (objects : List Loaded) (P : SymbolOf → Type 0)
    (each : (k : ℕ) (l : Loaded) (j : ℕ) (e : Symbol) → slice_get objects k ≡ Some l → slice_get (symbols l.object) j ≡ Some e → P (symbol_of k (loaded_view l) j e)) where
  of_one :
      (k : ℕ) (l : Loaded) → slice_get objects k ≡ Some l → (front ss : List Symbol) (j : ℕ) → symbols l.object ≡ front ++ ss → j ≡ length front →
      All P (symbols_from k (loaded_view l) j ss)
  of_one k l at front [] j is same = All-nil P
  of_one k l at front (s ∷ ss) j is same =
      let long = length-append front (s ∷ []) in
      All-cons P (symbol_of k (loaded_view l) j s) (symbols_from k (loaded_view l) (j + 1) ss)
      (each k l j s at (ap (λ (xs : List Symbol). slice_get xs j) is ∙ (ap (slice_get (front ++ s ∷ ss)) same ∙ behind front s ss)))
      (of_one k l at (front ++ s ∷ []) ss (j + 1) (is ∙ sym (append_assoc front (s ∷ []) ss)) (omega (arith, long, same)))

  of_rest : (front ls : List Loaded) (k : ℕ) → objects ≡ front ++ ls → k ≡ length front → All P (symbols_of k (loaded_views ls))
  of_rest front [] k is same = All-nil P
  of_rest front (l ∷ ls) k is same =
      let long = length-append front (l ∷ []) in
      All-append P (symbols_from k (loaded_view l) 0 (symbols (loaded_view l).bytes)) (symbols_of (k + 1) (loaded_views ls))
      (of_one k l (ap (λ (xs : List Loaded). slice_get xs k) is ∙ (ap (slice_get (front ++ l ∷ ls)) same ∙ behind front l ls)) [] (symbols l.object) 0 refl refl)
      (of_rest (front ++ l ∷ []) ls (k + 1) (is ∙ sym (append_assoc front (l ∷ []) ls)) (omega (arith, long, same)))

  pub each_symbol : All P (all_symbols (loaded_views objects))
  each_symbol = of_rest [] objects 0 refl refl

-- each definition is the symbol at its numbers, with the name there
record IsThere (L : List LoadedObject) (s : SymbolOf) : Type 0 where
  pub symbol : symbol_at L s.object s.number ≡ Some s
  pub name : name_there L s.object s.number ≡ s.name

there : (objects : List Loaded) → All (IsThere (loaded_views objects)) (definitions (loaded_views objects))
there objects =
    let L = loaded_views objects in
    All-filter is_definition (IsThere L) (all_symbols L)
    (each_symbol objects (IsThere L)
    (λ k l j e at got.
    let here : slice_get L k ≡ Some (loaded_view l) = slice_get-map loaded_view objects k ∙ ap (option_map loaded_view) at in
    record {
      symbol =
          ap (option_and_then (λ (o : LoadedObject). option_map (symbol_of k o j) (slice_get (symbols o.bytes) j))) here
          ∙ ap (option_map (symbol_of k (loaded_view l) j)) got;
      name = ap (λ (o : Option LoadedObject). unwrap_or (option_map (λ (x : LoadedObject). name_at x.bytes j) o) []) here;
    }))

at_position :
    (L : List LoadedObject) (i : ℕ) (s : SymbolOf) → All (IsThere L) (definitions L) → slice_get (definitions L) i ≡ Some s → IsThere L s
at_position L i s all at = subst (IsThere L) (get_or_from_slice_get (definitions L) i s s at) (all i s (slice_get_within (definitions L) i s at))

-- what is read at the numbers of a position
module _ (objects : List Loaded) (i : ℕ) (r : Option SymbolRef) (is : r ≡ option_map ref_of (slice_get (definitions (loaded_views objects)) i)) where
  abbrev L : List LoadedObject
  L = loaded_views objects

  abbrev here : Option SymbolOf
  here = slice_get (definitions L) i

  pub at_none : r ≡ None → here ≡ None
  at_none none = by here refl
    where
      by : (o : Option SymbolOf) → here ≡ o → o ≡ None
      by None e = refl
      by (Some s) e = absurd (none-some (ref_of s) (sym none ∙ (is ∙ ap (option_map ref_of) e)))

  module _ (ref : SymbolRef) (some : r ≡ Some ref) where
    same : (s : SymbolOf) → here ≡ Some s → ref_of s ≡ ref
    same s e = same_Some (ref_of s) ref (sym (is ∙ ap (option_map ref_of) e) ∙ some)

    pub at_symbol : symbol_at L ref.object.0 ref.symbol ≡ here
    at_symbol = by here refl
      where
        by : (o : Option SymbolOf) → here ≡ o → symbol_at L ref.object.0 ref.symbol ≡ o
        by None e = absurd (none-some ref (sym (is ∙ ap (option_map ref_of) e) ∙ some))
        by (Some s) e = ap (λ (x : SymbolRef). symbol_at L x.object.0 x.symbol) (sym (same s e)) ∙ (at_position L i s (there objects) e).symbol

    pub at_name : name_there L ref.object.0 ref.symbol ≡ name_in (definitions L) i
    at_name = by here refl
      where
        by : (o : Option SymbolOf) → here ≡ o → name_there L ref.object.0 ref.symbol ≡ unwrap_or (option_map (λ (s : SymbolOf). s.name) o) []
        by None e = absurd (none-some ref (sym (is ∙ ap (option_map ref_of) e) ∙ some))
        by (Some s) e = ap (λ (x : SymbolRef). name_there L x.object.0 x.symbol) (sym (same s e)) ∙ (at_position L i s (there objects) e).name
