-- Each of the flaws that are told is one.
use Rattle.std.proofs.Common.{◌≡◌, ◌⊎◌, inl, inr, ℕ, List, [], ◌∷◌, ◌++◌, subst, sym}
use Rattle.std.specs.Prelude.{All}
use Rattle.std.proofs.lemmas.List.Elements.{All-append, All-cons, All-head, All-nil, All-tail}
use Rattle.elf_model.specs.Link.Loading.{LoadedObject}
use Rattle.elf_model.specs.Link.Pieces.{Piece, kept_sections}
use Rattle.elf_model.specs.Link.Resolution.{SymbolOf, all_symbols}
use Rattle.flaws.specs.Flaws.{Adds, AddsSection, AddsSymbol, AreAdded, AreResolutionFlaws, IsFlaw}
use Rattle.flaws.specs.declared.flaw.Flaw.{Flaw}
use Rattle.flaws.proofs.Located.{each_piece, each_symbol}

-- a step keeps what holds of all flaws
abbrev Keeps : (Flaw → Type 0) → (List Flaw → List Flaw → Type 0) → Type 0
Keeps F Step = (s t : List Flaw) → Step s t → All F s → All F t

adds_keep : (F : Flaw → Type 0) (W X : Type 0) (f : Flaw) → (X → F f) → Keeps F (Adds W X f)
adds_keep F W X f so s t a all = elim a as (λ _. All F t) [
  | inl same ↦ subst (λ (z : List Flaw). All F z) (sym same.1) all
  | inr more ↦ subst (λ (z : List Flaw). All F z) (sym more.1) (All-append F s (f ∷ []) all (All-cons F f [] (so more.0) (All-nil F)))
]

added_keep : {A : Type 0} (F : Flaw → Type 0) (Of : A → List Flaw → List Flaw → Type 0) (xs : List A) → All (λ x. Keeps F (Of x)) xs → Keeps F (AreAdded Of xs)
added_keep F Of [] each s t same all = subst (λ (z : List Flaw). All F z) (sym same) all
added_keep {A} F Of (x ∷ xs) each s t added all =
    added_keep F Of xs (All-tail (λ (y : A). Keeps F (Of y)) x xs each) added.0 t added.2
    (All-head (λ (y : A). Keeps F (Of y)) x xs each s added.0 added.1 all)

module _ (objects : List LoadedObject) where
  sections_keep : All (λ p. Keeps (IsFlaw objects) (AddsSection p)) (kept_sections objects)
  sections_keep =
      each_piece objects (λ p. Keeps (IsFlaw objects) (AddsSection p))
      (λ k i o h object section kept.
      adds_keep (IsFlaw objects) _ _ _ (λ wrong. record { o = o; h = h; object = object; section = section; kept = kept; wrong = wrong }))

  symbols_keep : All (λ s. Keeps (IsFlaw objects) (AddsSymbol objects s)) (all_symbols objects)
  symbols_keep =
      each_symbol objects (λ s. Keeps (IsFlaw objects) (AddsSymbol objects s))
      (λ k j o e object symbol s t a all.
      let common = adds_keep (IsFlaw objects) _ _ _ (λ wrong. record { o = o; s = e; object = object; symbol = symbol; wrong = wrong }) s a.0 a.2 all in
      let sound = adds_keep (IsFlaw objects) _ _ _ (λ wrong. record { o = o; s = e; object = object; symbol = symbol; wrong = wrong }) a.0 a.1 a.3 common in
      adds_keep (IsFlaw objects) _ _ _ (λ wrong. record { o = o; s = e; object = object; symbol = symbol; wrong = wrong }) a.1 t a.4 sound)

  pub resolution_each : (flaws : List Flaw) → AreResolutionFlaws objects flaws → All (IsFlaw objects) flaws
  resolution_each flaws are =
      added_keep (IsFlaw objects) (AddsSymbol objects) (all_symbols objects) symbols_keep are.0 flaws are.2
      (added_keep (IsFlaw objects) AddsSection (kept_sections objects) sections_keep [] are.0 are.1 (All-nil (IsFlaw objects)))
