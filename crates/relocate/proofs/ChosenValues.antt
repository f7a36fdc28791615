-- What chosen definitions are worth, by their places.
use Rattle.std.proofs.Common.{◌≡◌, ℕ, List, Option, None, Some, subst, sym}
use Rattle.std.specs.Prelude.{IsSomeAnd, IfSome}
use Rattle.std.specs.List.{slice_get}
use Rattle.elf_model.specs.Link.ChosenSymbols.{chosen_symbols}
use Rattle.elf_model.specs.Link.Loading.{LoadedObject}
use Rattle.elf_model.specs.Link.Meaning.{meant}
use Rattle.elf_model.specs.Link.Placement.{Where}
use Rattle.elf_model.specs.Link.Resolution.{SymbolOf}
use Rattle.relocate.specs.SymbolTables.{AreChosenValues, IsWorth}
use Rattle.relocate.specs.declared.symbol_values.SymbolValue.{SymbolValue}

-- what the definition at a place is worth is told
abbrev pub Tells : List LoadedObject → Where → ℕ → SymbolValue → Type 0
Tells objects w p v = IsSomeAnd (slice_get (chosen_symbols objects) p) (λ d. IsWorth w (meant objects d) v)

pub told :
    (objects : List LoadedObject) (w : Where) (p : ℕ) (s : SymbolOf) (v : SymbolValue) → slice_get (chosen_symbols objects) p ≡ Some s →
    IsWorth w (meant objects s) v → Tells objects w p v
told objects w p s v stands worth = subst (λ (o : Option SymbolOf). IsSomeAnd o (λ d. IsWorth w (meant objects d) v)) (sym stands) worth

-- a row that is found
pub row_worth :
    (objects : List LoadedObject) (w : Where) (rows : List SymbolValue) (place : ℕ) (named : Option SymbolOf) (found : Option SymbolValue) →
    AreChosenValues objects w rows → slice_get (chosen_symbols objects) place ≡ named → found ≡ slice_get rows place →
    IfSome found (λ v. IsSomeAnd named (λ d. IsWorth w (meant objects d) v))
row_worth objects w rows place named None are is there = tt
row_worth objects w rows place named (Some v) are is there =
    subst (λ (o : Option SymbolOf). IsSomeAnd o (λ d. IsWorth w (meant objects d) v)) is (are place v (sym there))
