-- Where a phase has no flaw, nothing in it is wrong.
use Rattle.std.proofs.Common.{◌≡◌, ◌∙◌, ◌⊎◌, inl, inr, ℕ, ◌+◌, ◌≤◌, ◌&&◌, Bool, true, false, List, [], ◌∷◌, ◌++◌, length, ap, refl, subst, sym, arith, length-append}
use Rattle.std.specs.Prelude.{All, count_by, filter, nat_lt}
use Rattle.std.proofs.lemmas.Bool.{ltb-false, ltb-true}
use Rattle.std.proofs.lemmas.List.Elements.{All-cons, All-nil, All-weaker}
use Rattle.std.proofs.lemmas.Slice.Eq.{bytes_eq-Decides}
use Rattle.elf_model.proofs.ChosenSymbols.{count_filter}
use Rattle.elf_model.proofs.RisingNames.{absent_count}
use Rattle.elf_model.specs.Link.Loading.{LoadedObject}
use Rattle.elf_model.specs.Link.Pieces.{IsLawfulKind, Piece, kept_sections}
use Rattle.elf_model.specs.Link.Resolution.{AreUnique, IsDuplicate, IsSoundCommon, IsSoundSymbol, SymbolOf, all_symbols, has_name, is_strong, strong_definitions}
use Rattle.resolve.specs.Defined.{is_strong_of}
use Rattle.flaws.specs.Flaws.{Adds, AddsCommon, AddsDefinition, AddsSection, AddsSymbol, AddsUnsound, AreAdded, AreResolutionFlaws, AreResolvable, IsTwin}
use Rattle.flaws.specs.declared.flaw.Flaw.{Flaw}

grown : (W X : Type 0) (f : Flaw) (s t : List Flaw) → Adds W X f s t → length s ≤ length t
grown W X f s t a = elim a as (λ _. length s ≤ length t) [
  | inl same ↦ (let e = ap length same.1 in omega (arith, e))
  | inr more ↦ (let e = ap length more.1 in omega (arith, e, length-append s (f ∷ [])))
]

well : (W X : Type 0) (f : Flaw) (s t : List Flaw) → Adds W X f s t → length t ≤ length s → W
well W X f s t a = elim a as (λ _. length t ≤ length s → W) [
  | inl same ↦ (λ few. same.0)
  | inr more ↦ (λ few. absurd (let e = ap length more.1 in omega (arith, e, few, length-append s (f ∷ []))))
]

module _ {A : Type 0} (Of : A → List Flaw → List Flaw → Type 0) (Well : A → Type 0) (grow : (x : A) (s t : List Flaw) → Of x s t → length s ≤ length t) (good : (x : A) (s t : List Flaw) → Of x s t → length t ≤ length s → Well x) where
  pub all_grown : (xs : List A) (s t : List Flaw) → AreAdded Of xs s t → length s ≤ length t
  all_grown [] s t same = let e = ap length same in omega (arith, e)
  all_grown (x ∷ xs) s t added =
      let first = grow x s added.0 added.1 in
      let rest = all_grown xs added.0 t added.2 in
      omega (arith, first, rest)

  pub all_well : (xs : List A) (s t : List Flaw) → AreAdded Of xs s t → length t ≤ length s → All Well xs
  all_well [] s t same few = All-nil Well
  all_well (x ∷ xs) s t added few =
      let first = grow x s added.0 added.1 in
      let rest = all_grown xs added.0 t added.2 in
      All-cons Well x xs (good x s added.0 added.1 (omega (arith, rest, few))) (all_well xs added.0 t added.2 (omega (arith, first, few)))

-- a kept section, and a symbol
abbrev IsPieceWell : Piece → Type 0
IsPieceWell p = IsLawfulKind p.header

abbrev IsSymbolWell : List LoadedObject → SymbolOf → Type 0
IsSymbolWell objects s = IsSoundCommon s × IsSoundSymbol objects s × (¬ IsTwin objects s)

section_grown : (p : Piece) (s t : List Flaw) → AddsSection p s t → length s ≤ length t
section_grown p s t = grown _ _ _ s t

section_well : (p : Piece) (s t : List Flaw) → AddsSection p s t → length t ≤ length s → IsPieceWell p
section_well p s t = well _ _ _ s t

module _ (objects : List LoadedObject) where
  symbol_grown : (x : SymbolOf) (s t : List Flaw) → AddsSymbol objects x s t → length s ≤ length t
  symbol_grown x s t a =
      let first = grown _ _ _ s a.0 a.2 in
      let second = grown _ _ _ a.0 a.1 a.3 in
      let third = grown _ _ _ a.1 t a.4 in
      omega (arith, first, second, third)

  symbol_well : (x : SymbolOf) (s t : List Flaw) → AddsSymbol objects x s t → length t ≤ length s → IsSymbolWell objects x
  symbol_well x s t a few =
      let first = grown _ _ _ s a.0 a.2 in
      let second = grown _ _ _ a.0 a.1 a.3 in
      let third = grown _ _ _ a.1 t a.4 in (
        well _ _ _ s a.0 a.2 (omega (arith, second, third, few)),
        well _ _ _ a.0 a.1 a.3 (omega (arith, first, third, few)),
        well _ _ _ a.1 t a.4 (omega (arith, first, second, few)),
      )

  -- no symbol is one of two strong definitions of its name: no name has two
  unique : All (λ s. ¬ IsTwin objects s) (all_symbols objects) → AreUnique objects
  unique single name = by (nat_lt 1 (count_by (has_name name) (strong_definitions objects))) refl
    where
      none_named : IsDuplicate objects name → (s : SymbolOf) → ¬ IsTwin objects s → is_strong_of name s ≡ false
      none_named two s not_twin = at (is_strong s) (has_name name s) refl refl
        where
          at : (a b : Bool) → is_strong s ≡ a → has_name name s ≡ b → (a && b) ≡ false
          at true true strong named =
              let same : name ≡ s.name = sym ((bytes_eq-Decides s.name name).0 named) in
              absurd (not_twin (strong, subst (IsDuplicate objects) same two))
          at true false strong named = refl
          at false b strong named = refl

      by : (b : Bool) → nat_lt 1 (count_by (has_name name) (strong_definitions objects)) ≡ b → count_by (has_name name) (strong_definitions objects) ≤ 1
      by false e = ltb-false 1 (count_by (has_name name) (strong_definitions objects)) e
      by true e =
          let two : IsDuplicate objects name = (let more = ltb-true 1 (count_by (has_name name) (strong_definitions objects)) e in omega (arith, more)) in
          let none = absent_count (is_strong_of name) (all_symbols objects) (All-weaker (λ s. ¬ IsTwin objects s) (λ s. is_strong_of name s ≡ false) (none_named two) (all_symbols objects) single) in
          let same = count_filter is_strong (has_name name) (all_symbols objects) in
          absurd (omega (arith, two, none, same))

  pub flawless : (flaws : List Flaw) → AreResolutionFlaws objects flaws → length flaws ≡ 0 → AreResolvable objects
  flawless flaws are none =
      let sections_few = all_grown AddsSection IsPieceWell section_grown section_well (kept_sections objects) [] are.0 are.1 in
      let symbols_few = all_grown (AddsSymbol objects) (IsSymbolWell objects) symbol_grown symbol_well (all_symbols objects) are.0 flaws are.2 in
      let kinds = all_well AddsSection IsPieceWell section_grown section_well (kept_sections objects) [] are.0 are.1 (omega (arith, symbols_few, none)) in
      let symbols = all_well (AddsSymbol objects) (IsSymbolWell objects) symbol_grown symbol_well (all_symbols objects) are.0 flaws are.2 (omega (arith, none)) in
      record {
        kinds = kinds;
        commons = All-weaker (IsSymbolWell objects) IsSoundCommon (λ s h. h.0) (all_symbols objects) symbols;
        sound = All-weaker (IsSymbolWell objects) (IsSoundSymbol objects) (λ s h. h.1) (all_symbols objects) symbols;
        unique = unique (All-weaker (IsSymbolWell objects) (λ s. ¬ IsTwin objects s) (λ s h. h.2) (all_symbols objects) symbols);
      }
