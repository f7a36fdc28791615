-- What is asked of each of an object's symbols, told one after the other.
use Rattle.std.proofs.Common.{◌≡◌, ℕ, ◌+◌, ◌<◌, Bool, true, false, List, [], ◌∷◌, length, get_or, drop}
use Rattle.std.specs.Prelude.{◌↔◌, All, IsTrue}
use Rattle.elf_model.specs.Link.Loading.{LoadedObject}
use Rattle.elf_model.specs.Link.Resolution.{SymbolOf, symbol_of, symbols_from}
use Rattle.elf_model.specs.declared.records.Symbol.{Symbol}
use Rattle.resolve.proofs.Rests.{rest_more, rest_stop, told_one}
use Rattle.resolve.proofs.Walks.{next_symbol}

module _ (P : SymbolOf → Type 0) (object : ℕ) (o : LoadedObject) (entries : List Symbol) (j : ℕ) (d : Symbol) (within : j < length entries) (b : Bool) (told : IsTrue b ↔ P (symbol_of object o j (get_or entries j d))) (Q : Type 0) (claim : Q ↔ All P (symbols_from object o j (drop j entries))) where
  abbrev front : List SymbolOf
  front = symbol_of object o j (get_or entries j d) ∷ []

  abbrev rest : List SymbolOf
  rest = symbols_from object o (j + 1) (drop (j + 1) entries)

  -- the symbol passes: the claim is one on those behind it
  pub sound_more : b ≡ true → Q ↔ All P rest
  sound_more =
      rest_more P Q (symbols_from object o j (drop j entries)) front rest (next_symbol object o entries j d within) b
      (told_one P (symbol_of object o j (get_or entries j d)) b told) claim

  -- it doesn't: nor do all
  pub sound_stop : b ≡ false → IsTrue false ↔ Q
  sound_stop =
      rest_stop P Q (symbols_from object o j (drop j entries)) front rest (next_symbol object o entries j d within) b
      (told_one P (symbol_of object o j (get_or entries j d)) b told) claim
