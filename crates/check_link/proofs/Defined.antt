-- The definitions among symbols: those of a kind are the same among all, and one object more.
use Rattle.std.proofs.Common.{◌≡◌, ℕ, ◌+◌, ◌<◌, Bool, true, false, cond, List, [], ◌∷◌, ◌++◌, length, get_or, drop, refl, sym, ◌∙◌, ap}
use Rattle.std.specs.Prelude.{filter, map}
use Rattle.std.proofs.lemmas.Bool.{false≢true, or_left, or_right}
use Rattle.std.proofs.lemmas.List.{drop-map, drop_more}
use Rattle.std.proofs.lemmas.List.Elements.{filter-append}
use Rattle.elf_model.proofs.Mapped.{append_mapped}
use Rattle.elf_model.specs.Link.ChosenSymbols.{is_definition}
use Rattle.elf_model.specs.Link.Loading.{LoadedObject}
use Rattle.elf_model.specs.Inputs.ObjectFile.{symbols}
use Rattle.elf_model.specs.Link.Resolution.{SymbolOf, is_common_definition, is_strong, is_weak_definition, symbols_from, symbols_of}
use Rattle.elf_model.specs.declared.references.SymbolRef.{SymbolRef}
use Rattle.check_load.specs.Views.{loaded_view, loaded_views}
use Rattle.check_load.specs.declared.loaded.Loaded.{Loaded}
use Rattle.check_link.specs.DefinitionList.{ref_of}

-- a filter by a weaker test in front of another one changes nothing
pub weaker_first :
    {X : Type 0} (p q : X → Bool) → ((x : X) → p x ≡ true → q x ≡ true) → (xs : List X) → filter p (filter q xs) ≡ filter p xs
weaker_first p q weaker [] = refl
weaker_first {X} p q weaker (x ∷ xs) = by (p x) (q x) refl refl (weaker_first p q weaker xs)
  where
    kept : List X
    kept = filter p (filter q xs)

    by :
        (b c : Bool) → p x ≡ b → q x ≡ c → kept ≡ filter p xs →
        filter p (cond c (x ∷ filter q xs) (filter q xs)) ≡ cond b (x ∷ filter p xs) (filter p xs)
    by true true e f rest = ap (λ (t : Bool). cond t (x ∷ kept) kept) e ∙ ap (λ (ys : List X). x ∷ ys) rest
    by false true e f rest = ap (λ (t : Bool). cond t (x ∷ kept) kept) e ∙ rest
    by true false e f rest = absurd (false≢true (sym f ∙ weaker x e))
    by false false e f rest = rest

pub strong_defined : (ss : List SymbolOf) → filter is_strong (filter is_definition ss) ≡ filter is_strong ss
strong_defined ss = weaker_first is_strong is_definition (λ s e. or_left (is_strong s) _ e) ss

pub common_defined : (ss : List SymbolOf) → filter is_common_definition (filter is_definition ss) ≡ filter is_common_definition ss
common_defined ss = weaker_first is_common_definition is_definition (λ s e. or_right (is_strong s) _ (or_left (is_common_definition s) _ e)) ss

pub weak_defined : (ss : List SymbolOf) → filter is_weak_definition (filter is_definition ss) ≡ filter is_weak_definition ss
weak_defined ss = weaker_first is_weak_definition is_definition (λ s e. or_right (is_strong s) _ (or_right (is_common_definition s) _ e)) ss

-- the objects from number k on
pub objects_at :
    (objects : List Loaded) (k : ℕ) (d : Loaded) → k < length objects → d ≡ get_or objects k d →
    drop k (loaded_views objects) ≡ loaded_view d ∷ drop (k + 1) (loaded_views objects)
objects_at objects k d within is =
    drop-map loaded_view k objects
    ∙ ap (map loaded_view) (drop_more objects k d within)
    ∙ ap (λ (x : Loaded). loaded_view x ∷ map loaded_view (drop (k + 1) objects)) (sym is)
    ∙ ap (λ (xs : List LoadedObject). loaded_view d ∷ xs) (sym (drop-map loaded_view (k + 1) objects))

-- the numbers of the definitions of one more object
pub definitions_more :
    (found more all : List SymbolRef) (objects : List Loaded) (k : ℕ) (d : Loaded) →
    k < length objects → d ≡ get_or objects k d →
    more ≡ found ++ map ref_of (filter is_definition (symbols_from k (loaded_view d) 0 (symbols (loaded_view d).bytes))) →
    found ++ map ref_of (filter is_definition (symbols_of k (drop k (loaded_views objects)))) ≡ all →
    more ++ map ref_of (filter is_definition (symbols_of (k + 1) (drop (k + 1) (loaded_views objects)))) ≡ all
definitions_more found more all objects k d within is added so_far =
    let here : List SymbolOf = symbols_from k (loaded_view d) 0 (symbols (loaded_view d).bytes) in
    let rest : List SymbolOf = symbols_of (k + 1) (drop (k + 1) (loaded_views objects)) in
    let parts : filter is_definition (symbols_of k (drop k (loaded_views objects))) ≡ filter is_definition here ++ filter is_definition rest =
    ap (λ (xs : List LoadedObject). filter is_definition (symbols_of k xs)) (objects_at objects k d within is) ∙ filter-append is_definition here rest in
    append_mapped ref_of found more (filter is_definition here) (filter is_definition (symbols_of k (drop k (loaded_views objects)))) (filter is_definition rest) all added parts so_far
