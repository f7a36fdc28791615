-- A claim on all symbols, as a claim on those that are left: the steps of a walk object by object.
use Rattle.std.proofs.Common.{◌≡◌, ℕ, ◌+◌, ◌<◌, List, ◌∷◌, ◌++◌, length, get_or, drop, subst}
use Rattle.std.specs.Prelude.{All}
use Rattle.std.proofs.lemmas.List.Elements.{All-append, All-cons, All-head, All-tail}
use Rattle.elf_model.proofs.Listed.{All-parts}
use Rattle.elf_model.proofs.Rests.{Left, rest_at}
use Rattle.elf_model.specs.Link.Loading.{LoadedObject}
use Rattle.elf_model.specs.Inputs.ObjectFile.{symbols}
use Rattle.elf_model.specs.Link.Resolution.{SymbolOf, symbol_of, symbols_from, symbols_of}
use Rattle.elf_model.specs.declared.records.Symbol.{Symbol}
use Rattle.check_load.specs.Views.{loaded_view, loaded_views}
use Rattle.check_load.specs.declared.loaded.Loaded.{Loaded}
use Rattle.check_link.proofs.Defined.{objects_at}

module _ (P : SymbolOf → Type 0) (Q : Type 0) where
  -- The symbols of object k from number j on.
  module _ (k : ℕ) (o : LoadedObject) (es : List Symbol) (j : ℕ) (d : Symbol) (within : j < length es)
      (left : Left Q (All P (symbols_from k o j (drop j es)))) where
    abbrev here : SymbolOf
    here = symbol_of k o j (get_or es j d)

    abbrev rest : List SymbolOf
    rest = symbols_from k o (j + 1) (drop (j + 1) es)

    split : Left Q (All P (here ∷ rest))
    split = subst (λ (xs : List Symbol). Left Q (All P (symbols_from k o j xs))) (rest_at es j d within) left

    pub symbol_more : P here → Left Q (All P rest)
    symbol_more holds = (λ q. All-tail P here rest (split.0 q), λ r. split.1 (All-cons P here rest holds r))

    pub symbol_stop : (P here → ⊥) → Q → ⊥
    symbol_stop never q = never (All-head P here rest (split.0 q))

  -- The objects from number k on.
  module _ (objects : List Loaded) (k : ℕ) (d : Loaded) (within : k < length objects) (is : d ≡ get_or objects k d)
      (left : Left Q (All P (symbols_of k (drop k (loaded_views objects))))) where
    abbrev of : List SymbolOf
    of = symbols_from k (loaded_view d) 0 (symbols (loaded_view d).bytes)

    abbrev others : List SymbolOf
    others = symbols_of (k + 1) (drop (k + 1) (loaded_views objects))

    parted : Left Q (All P (of ++ others))
    parted = subst (λ (xs : List LoadedObject). Left Q (All P (symbols_of k xs))) (objects_at objects k d within is) left

    pub object_more : All P of → Left Q (All P others)
    object_more all = (λ q. (All-parts P of others (parted.0 q)).1, λ r. parted.1 (All-append P of others all r))

    pub object_stop : (All P of → ⊥) → Q → ⊥
    object_stop never q = never (All-parts P of others (parted.0 q)).0
