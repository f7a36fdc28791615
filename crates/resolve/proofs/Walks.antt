-- What is left of the symbols of an object, and of all objects, in a walk over them.
use Rattle.std.proofs.Common.{◌≡◌, ℕ, ◌+◌, ◌<◌, List, ◌∷◌, ◌++◌, length, get_or, drop, sym, ◌∙◌, ap}
use Rattle.std.specs.Prelude.{map}
use Rattle.std.proofs.lemmas.List.{at_drop_more, drop-map, drop_more}
use Rattle.elf_model.specs.Link.Loading.{LoadedObject}
use Rattle.elf_model.specs.Inputs.ObjectFile.{symbols}
use Rattle.elf_model.specs.Link.Resolution.{SymbolOf, symbol_of, symbols_from, symbols_of}
use Rattle.elf_model.specs.declared.records.Symbol.{Symbol}
use Rattle.search.specs.Views.{loaded_view, loaded_views}
use Rattle.search.specs.declared.loaded.LoadedObject as code

-- the next symbol of an object
pub next_symbol :
    (object : ℕ) (o : LoadedObject) (entries : List Symbol) (j : ℕ) (d : Symbol) → j < length entries →
    symbols_from object o j (drop j entries)
    ≡ symbol_of object o j (get_or entries j d) ∷ symbols_from object o (j + 1) (drop (j + 1) entries)
next_symbol object o entries j d within = at_drop_more (symbols_from object o j) entries j d within

-- the symbols of an object that is left
abbrev pub symbols_here : ℕ → code.LoadedObject → List SymbolOf
symbols_here k l = symbols_from k (loaded_view l) 0 (symbols l.object)

-- the symbols of the objects from number k on
abbrev pub symbols_left : ℕ → List code.LoadedObject → List SymbolOf
symbols_left k objects = symbols_of k (drop k (loaded_views objects))

-- the next object
pub next_loaded :
    (objects : List code.LoadedObject) (k : ℕ) (d : code.LoadedObject) → k < length objects → d ≡ get_or objects k d →
    drop k (loaded_views objects) ≡ loaded_view d ∷ drop (k + 1) (loaded_views objects)
next_loaded objects k d within is =
    drop-map loaded_view k objects
    ∙ ap (map loaded_view) (drop_more objects k d within)
    ∙ ap (λ (x : code.LoadedObject). loaded_view x ∷ map loaded_view (drop (k + 1) objects)) (sym is)
    ∙ ap (λ (xs : List LoadedObject). loaded_view d ∷ xs) (sym (drop-map loaded_view (k + 1) objects))

-- its symbols, and those of the objects behind it
pub next_object :
    (objects : List code.LoadedObject) (k : ℕ) (d : code.LoadedObject) → k < length objects → d ≡ get_or objects k d →
    symbols_left k objects ≡ symbols_here k d ++ symbols_left (k + 1) objects
next_object objects k d within is = ap (symbols_of k) (next_loaded objects k d within is)
