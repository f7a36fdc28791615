-- Kept sections and symbols of the loaded objects, by their numbers.
use Rattle.std.proofs.Common.{◌≡◌, ◌∙◌, ℕ, zero, suc, ◌+◌, Bool, true, false, cond, List, [], ◌∷◌, ◌++◌, Some, arith, refl, subst}
use Rattle.std.specs.Prelude.{All, Contains}
use Rattle.std.specs.List.{slice_get}
use Rattle.std.proofs.lemmas.List.Elements.{All-append, All-cons, All-nil, Contains-append_left, Contains-append_right}
use Rattle.std.proofs.lemmas.Option.{none-some, same_Some}
use Rattle.elf_model.proofs.Listed.{Contains-here}
use Rattle.elf_model.specs.Inputs.ObjectFile.{sections, symbols}
use Rattle.elf_model.specs.Link.Loading.{LoadedObject}
use Rattle.elf_model.specs.Link.Pieces.{Piece, is_kept, kept_sections, piece_of, pieces_from, pieces_of}
use Rattle.elf_model.specs.Link.Resolution.{SymbolOf, all_symbols, symbol_of, symbols_from, symbols_of}
use Rattle.elf_model.specs.declared.records.SectionHeader.{SectionHeader}
use Rattle.elf_model.specs.declared.records.Symbol.{Symbol}

-- what holds of all that the elements of a list have, each by its number, holds of what they have together
pub of_each :
    {X Y : Type 0} (P : Y → Type 0) (f : ℕ → X → List Y) (all : ℕ → List X → List Y) → ((k : ℕ) → all k [] ≡ []) →
    ((k : ℕ) (x : X) (xs : List X) → all k (x ∷ xs) ≡ f k x ++ all (k + 1) xs) →
    (xs : List X) (k : ℕ) → ((n i : ℕ) (x : X) → n ≡ k + i → slice_get xs i ≡ Some x → All P (f n x)) → All P (all k xs)
of_each P f all nil more [] k each = rw (nil k) (All-nil P)
of_each P f all nil more (x ∷ xs) k each =
    rw (more k x xs)
    (All-append P (f k x) (all (k + 1) xs) (each k zero x (omega arith) refl)
    (of_each P f all nil more xs (k + 1) (λ n i y is there. each n (suc i) y (omega (arith, is)) there)))

-- the piece of section i, where it is kept
abbrev piece_here : ℕ → LoadedObject → ℕ → SectionHeader → List Piece
piece_here k o i h = cond (is_kept o i h) (piece_of k o.bytes i h ∷ []) []

one_in_front : (b : Bool) (p : Piece) (ps : List Piece) → cond b (p ∷ ps) ps ≡ cond b (p ∷ []) [] ++ ps
one_in_front b p ps = elim b as (λ x. cond x (p ∷ ps) ps ≡ cond x (p ∷ []) [] ++ ps) [ true ↦ refl | false ↦ refl ]

pieces_more : (k : ℕ) (o : LoadedObject) (i : ℕ) (h : SectionHeader) (hs : List SectionHeader) → pieces_from k o i (h ∷ hs) ≡ piece_here k o i h ++ pieces_from k o (i + 1) hs
pieces_more k o i h hs = one_in_front (is_kept o i h) (piece_of k o.bytes i h) (pieces_from k o (i + 1) hs)

abbrev symbol_here : ℕ → LoadedObject → ℕ → Symbol → List SymbolOf
symbol_here k o j s = symbol_of k o j s ∷ []

abbrev pieces_here : ℕ → LoadedObject → List Piece
pieces_here k o = pieces_from k o 0 (sections o.bytes)

abbrev symbols_here : ℕ → LoadedObject → List SymbolOf
symbols_here k o = symbols_from k o 0 (symbols o.bytes)

module _ (objects : List LoadedObject) where
  -- what holds of a kept section, by its numbers
  pub each_piece :
      (P : Piece → Type 0) →
      ((k i : ℕ) (o : LoadedObject) (h : SectionHeader) → slice_get objects k ≡ Some o → slice_get (sections o.bytes) i ≡ Some h → is_kept o i h ≡ true → P (piece_of k o.bytes i h))
      → All P (kept_sections objects)
  each_piece P each =
      of_each P pieces_here pieces_of (λ k. refl) (λ k x xs. refl) objects 0
      (λ n k o is there.
      let at : n ≡ k = omega (arith, is) in
      rw at
      (of_each P (piece_here k o) (pieces_from k o) (λ i. refl) (pieces_more k o) (sections o.bytes) 0
      (λ m i h is_ there_. let at_ : m ≡ i = omega (arith, is_) in rw at_ (kept_one k i o h (each k i o h there there_) (is_kept o i h) refl))))
    where
      kept_one : (k i : ℕ) (o : LoadedObject) (h : SectionHeader) → (is_kept o i h ≡ true → P (piece_of k o.bytes i h)) → (b : Bool) → is_kept o i h ≡ b → All P (cond b (piece_of k o.bytes i h ∷ []) [])
      kept_one k i o h so true is = All-cons P (piece_of k o.bytes i h) [] (so is) (All-nil P)
      kept_one k i o h so false is = All-nil P

  -- what holds of a symbol
  pub each_symbol :
      (P : SymbolOf → Type 0) →
      ((k j : ℕ) (o : LoadedObject) (s : Symbol) → slice_get objects k ≡ Some o → slice_get (symbols o.bytes) j ≡ Some s → P (symbol_of k o j s))
      → All P (all_symbols objects)
  each_symbol P each =
      of_each P symbols_here symbols_of (λ k. refl) (λ k x xs. refl) objects 0
      (λ n k o is there.
      let at : n ≡ k = omega (arith, is) in
      rw at
      (of_each P (symbol_here k o) (symbols_from k o) (λ i. refl) (λ i x xs. refl) (symbols o.bytes) 0
      (λ m j s is_ there_. let at_ : j ≡ m = omega (arith, is_) in subst (λ (i : ℕ). All P (symbol_here k o i s)) at_ (All-cons P (symbol_of k o j s) [] (each k j o s there there_) (All-nil P)))))

-- what one of a list has, by its number, is among what all of them have
pub among :
    {X Y : Type 0} (f : ℕ → X → List Y) (all : ℕ → List X → List Y) → ((k : ℕ) (x : X) (xs : List X) → all k (x ∷ xs) ≡ f k x ++ all (k + 1) xs) →
    (xs : List X) (k i n : ℕ) (x : X) (y : Y) → slice_get xs i ≡ Some x → n ≡ k + i → Contains (f n x) y → Contains (all k xs) y
among f all more [] k i n x y there number listed = absurd (none-some x there)
among f all more (z ∷ zs) k zero n x y there number listed =
    let at : k ≡ n = omega (arith, number) in
    rw (more k z zs) (Contains-append_left (f k z) (all (k + 1) zs) y (rw (same_Some z x there, at) listed))
among f all more (z ∷ zs) k (suc i) n x y there number listed =
    rw (more k z zs) (Contains-append_right (f k z) (all (k + 1) zs) y (among f all more zs (k + 1) i n x y there (omega (arith, number)) listed))

module _ (objects : List LoadedObject) (k i : ℕ) (o : LoadedObject) (object : slice_get objects k ≡ Some o) where
  -- a kept section of an object is a piece, and a symbol of it one of all
  pub piece_listed : (h : SectionHeader) → slice_get (sections o.bytes) i ≡ Some h → is_kept o i h ≡ true → Contains (kept_sections objects) (piece_of k o.bytes i h)
  piece_listed h section kept =
      among pieces_here pieces_of (λ n x xs. refl) objects 0 k k o (piece_of k o.bytes i h) object (omega arith)
      (among (piece_here k o) (pieces_from k o) (pieces_more k o) (sections o.bytes) 0 i i h (piece_of k o.bytes i h) section (omega arith)
      (rw kept (Contains-here [] (piece_of k o.bytes i h))))

  pub symbol_listed : (s : Symbol) → slice_get (symbols o.bytes) i ≡ Some s → Contains (all_symbols objects) (symbol_of k o i s)
  symbol_listed s symbol =
      among symbols_here symbols_of (λ n x xs. refl) objects 0 k k o (symbol_of k o i s) object (omega arith)
      (among (symbol_here k o) (symbols_from k o) (λ n x xs. refl) (symbols o.bytes) 0 i i s (symbol_of k o i s) symbol (omega arith)
      (Contains-here [] (symbol_of k o i s)))
