-- No symbol of an object passes a test where none of those that there are does, and a null symbol doesn't.
use Rattle.std.proofs.Common.{◌≡◌, ◌∙◌, ◌+◌, ◌<◌, ◌≤◌, ◌⊎◌, inl, inr, ℕ, Bool, false, ap, arith, length, subst}
use Rattle.std.proofs.lemmas.Bool.{cases_lt}
use Rattle.std.proofs.lemmas.List.{get_or_past}
use Rattle.elf_model.specs.Link.Loading.{LoadedObject}
use Rattle.elf_model.specs.Inputs.ObjectFile.{null_symbol, symbols}
use Rattle.elf_model.specs.Link.Relocation.{symbol_at}
use Rattle.elf_model.specs.Link.Resolution.{SymbolOf, symbol_of}
use Rattle.elf_model.specs.declared.records.Symbol.{Symbol}

module _ (test : SymbolOf → Bool) (k : ℕ) (o : LoadedObject) where
  -- none of the symbols below a number
  abbrev pub NoneBelow : ℕ → Type 0
  NoneBelow n = (i : ℕ) → i < n → test (symbol_at k o i) ≡ false

  pub none_more : (j : ℕ) → NoneBelow j → test (symbol_at k o j) ≡ false → NoneBelow (j + 1)
  none_more j before here i low = by (cases_lt i j)
    where
      by : (i < j) ⊎ (j ≤ i) → test (symbol_at k o i) ≡ false
      by (inl l) = before i l
      by (inr g) = let e : j ≡ i = omega (arith, low, g) in subst (λ (n : ℕ). test (symbol_at k o n) ≡ false) e here

  pub none_at_all :
      ((j : ℕ) → test (symbol_of k o j null_symbol) ≡ false) → (n : ℕ) → length (symbols o.bytes) ≤ n → NoneBelow n → (j : ℕ) →
      test (symbol_at k o j) ≡ false
  none_at_all null n whole before j = by (cases_lt j n)
    where
      by : (j < n) ⊎ (n ≤ j) → test (symbol_at k o j) ≡ false
      by (inl l) = before j l
      by (inr g) =
          ap (λ (s : Symbol). test (symbol_of k o j s)) (get_or_past (symbols o.bytes) j null_symbol (omega (arith, whole, g)))
          ∙ null j
