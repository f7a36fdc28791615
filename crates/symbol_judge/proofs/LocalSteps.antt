-- What is kept of the LOCAL symbols of objects, one symbol and one object more.
use Rattle.std.proofs.Common.{◌≡◌, ◌∙◌, ℕ, ◌+◌, ◌<◌, List, ◌++◌, length, get_or, drop, sym, ap}
use Rattle.std.proofs.lemmas.Grind.{flat_map-append}
use Rattle.std.proofs.lemmas.List.{append_assoc}
use Rattle.elf_model.proofs.Rests.{rest_at}
use Rattle.elf_model.specs.Inputs.ObjectFile.{symbols}
use Rattle.elf_model.specs.Link.Loading.{LoadedObject}
use Rattle.elf_model.specs.Link.Resolution.{SymbolOf, symbol_of, symbols_from, symbols_of}
use Rattle.elf_model.specs.declared.records.Symbol.{Symbol}
use Rattle.check_load.specs.Views.{loaded_view, loaded_views}
use Rattle.check_load.specs.declared.loaded.Loaded.{Loaded}
use Rattle.check_link.proofs.Defined.{objects_at}
use Rattle.link_fields.specs.Parts.{Parts}
use Rattle.symbol_judge.specs.Locals.{listed, local_in, locals_in}
use Rattle.symbol_judge.specs.declared.locals.Local.{Local}

-- a list in parts, of which the first one is taken
shifted : (found more first rest all : List Local) → more ≡ found ++ first → found ++ (first ++ rest) ≡ all → more ++ rest ≡ all
shifted found more first rest all added so_far = ap (λ (xs : List Local). xs ++ rest) added ∙ (append_assoc found first rest ∙ so_far)

module _ (p : Parts) (names : List (List ℕ)) where
  pub symbol_kept :
      (found more all : List Local) (k : ℕ) (o : LoadedObject) (es : List Symbol) (j : ℕ) (d : Symbol) → j < length es →
      more ≡ found ++ listed (local_in p names (symbol_of k o j (get_or es j d))) →
      found ++ locals_in p names (symbols_from k o j (drop j es)) ≡ all →
      more ++ locals_in p names (symbols_from k o (j + 1) (drop (j + 1) es)) ≡ all
  symbol_kept found more all k o es j d within added so_far =
      shifted found more (listed (local_in p names (symbol_of k o j (get_or es j d))))
      (locals_in p names (symbols_from k o (j + 1) (drop (j + 1) es))) all added
      (ap (λ (xs : List Symbol). found ++ locals_in p names (symbols_from k o j xs)) (sym (rest_at es j d within)) ∙ so_far)

  pub object_kept :
      (found more all : List Local) (objects : List Loaded) (k : ℕ) (d : Loaded) → k < length objects → d ≡ get_or objects k d →
      more ≡ found ++ locals_in p names (symbols_from k (loaded_view d) 0 (symbols (loaded_view d).bytes)) →
      found ++ locals_in p names (symbols_of k (drop k (loaded_views objects))) ≡ all →
      more ++ locals_in p names (symbols_of (k + 1) (drop (k + 1) (loaded_views objects))) ≡ all
  object_kept found more all objects k d within is added so_far =
      let here : List SymbolOf = symbols_from k (loaded_view d) 0 (symbols (loaded_view d).bytes) in
      let rest : List SymbolOf = symbols_of (k + 1) (drop (k + 1) (loaded_views objects)) in
      let parts : locals_in p names (symbols_of k (drop k (loaded_views objects))) ≡ locals_in p names here ++ locals_in p names rest =
      ap (λ (xs : List LoadedObject). locals_in p names (symbols_of k xs)) (objects_at objects k d within is)
      ∙ flat_map-append (λ s. listed (local_in p names s)) here rest in
      shifted found more (locals_in p names here) (locals_in p names rest) all added (ap (λ (xs : List Local). found ++ xs) (sym parts) ∙ so_far)
