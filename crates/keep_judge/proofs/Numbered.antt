-- What is among all that the elements of a list have, each by its number, is among what one of them has; so with kept sections and relocations.
use Rattle.std.proofs.Common.{◌≡◌, ◌⊎◌, inl, inr, ℕ, zero, suc, ◌+◌, Bool, true, false, cond, List, [], ◌∷◌, ◌++◌, Some, arith, refl, subst, sym}
use Rattle.std.specs.Prelude.{Contains}
use Rattle.std.specs.List.{slice_get}
use Rattle.std.proofs.lemmas.List.Elements.{Contains-append_cases, Contains-append_left, Contains-append_right}
use Rattle.std.proofs.lemmas.Option.{none-some, same_Some}
use Rattle.elf_model.proofs.Listed.{Contains-cons_cases, Contains-here, Contains-nil}
use Rattle.elf_model.specs.Inputs.ObjectFile.{sections}
use Rattle.elf_model.specs.Link.Loading.{LoadedObject}
use Rattle.elf_model.specs.Link.Pieces.{Piece, is_kept, kept_sections, piece_of, pieces_from, pieces_of}
use Rattle.elf_model.specs.Link.Relocation.{Relocation, relocations, relocations_from, relocations_of}
use Rattle.elf_model.specs.declared.records.SectionHeader.{SectionHeader}

-- the element with a number of which something is
pub record Found {X Y : Type 0} (f : ℕ → X → List Y) (k : ℕ) (xs : List X) (y : Y) : Type 0 where
  pub n : ℕ
  pub i : ℕ
  pub x : X
  pub number : n ≡ k + i
  pub there : slice_get xs i ≡ Some x
  pub has : Contains (f n x) y

module _ {X Y : Type 0} (f : ℕ → X → List Y) (all : ℕ → List X → List Y) (nil : (k : ℕ) → all k [] ≡ []) (more : (k : ℕ) (x : X) (xs : List X) → all k (x ∷ xs) ≡ f k x ++ all (k + 1) xs) where
  found : (xs : List X) (k : ℕ) (y : Y) → Contains (all k xs) y → Found f k xs y
  found [] k y c = absurd (Contains-nil y (subst (λ (ys : List Y). Contains ys y) (nil k) c))
  found (x ∷ xs) k y c = by (found xs (k + 1) y) (Contains-append_cases (f k x) (all (k + 1) xs) y (subst (λ (ys : List Y). Contains ys y) (more k x xs) c))
    where
      by : (Contains (all (k + 1) xs) y → Found f (k + 1) xs y) → Contains (f k x) y ⊎ Contains (all (k + 1) xs) y → Found f k (x ∷ xs) y
      by rest (inl here) = record { n = k; i = zero; x = x; number = omega arith; there = refl; has = here }
      by rest (inr later) =
          let w = rest later in
          let e = w.number in record { n = w.n; i = suc w.i; x = w.x; number = omega (arith, e); there = w.there; has = w.has }

  put : (xs : List X) (k i n : ℕ) (x : X) (y : Y) → slice_get xs i ≡ Some x → n ≡ k + i → Contains (f n x) y → Contains (all k xs) y
  put [] k i n x y there number listed = absurd (none-some x there)
  put (z ∷ zs) k zero n x y there number listed =
      let at : k ≡ n = omega (arith, number) in
      rw (more k z zs) (Contains-append_left (f k z) (all (k + 1) zs) y (rw (same_Some z x there, at) listed))
  put (z ∷ zs) k (suc i) n x y there number listed =
      rw (more k z zs) (Contains-append_right (f k z) (all (k + 1) zs) y (put zs (k + 1) i n x y there (omega (arith, number)) listed))

-- the piece of section i, where it is kept
abbrev piece_here : ℕ → LoadedObject → ℕ → SectionHeader → List Piece
piece_here k o i h = cond (is_kept o i h) (piece_of k o.bytes i h ∷ []) []

one_in_front : (b : Bool) (p : Piece) (ps : List Piece) → cond b (p ∷ ps) ps ≡ cond b (p ∷ []) [] ++ ps
one_in_front b p ps = elim b as (λ x. cond x (p ∷ ps) ps ≡ cond x (p ∷ []) [] ++ ps) [ true ↦ refl | false ↦ refl ]

pieces_more : (k : ℕ) (o : LoadedObject) (i : ℕ) (h : SectionHeader) (hs : List SectionHeader) → pieces_from k o i (h ∷ hs) ≡ piece_here k o i h ++ pieces_from k o (i + 1) hs
pieces_more k o i h hs = one_in_front (is_kept o i h) (piece_of k o.bytes i h) (pieces_from k o (i + 1) hs)

abbrev pieces_here : ℕ → LoadedObject → List Piece
pieces_here k o = pieces_from k o 0 (sections o.bytes)

-- a kept section of an object: its numbers, its header, and that it is kept
pub record IsPieceOf (k : ℕ) (o : LoadedObject) (p : Piece) : Type 0 where
  pub object : p.object ≡ k
  pub there : slice_get (sections o.bytes) p.section ≡ Some p.header
  pub kept : is_kept o p.section p.header ≡ true

pub piece_is : (k : ℕ) (o : LoadedObject) (p : Piece) → Contains (pieces_here k o) p → IsPieceOf k o p
piece_is k o p c = by (is_kept o w.n w.x) refl w.has
  where
    w : Found (piece_here k o) 0 (sections o.bytes) p
    w = found (piece_here k o) (pieces_from k o) (λ i. refl) (pieces_more k o) (sections o.bytes) 0 p c

    at : w.i ≡ w.n
    at = let e = w.number in omega (arith, e)

    one : is_kept o w.n w.x ≡ true → p ≡ piece_of k o.bytes w.n w.x → IsPieceOf k o p
    one kept e = subst (IsPieceOf k o) (sym e) (record { object = refl; there = subst (λ (j : ℕ). slice_get (sections o.bytes) j ≡ Some w.x) at w.there; kept = kept })

    only : piece_of k o.bytes w.n w.x ≡ p ⊎ Contains [] p → is_kept o w.n w.x ≡ true → IsPieceOf k o p
    only (inl e) kept = one kept (sym e)
    only (inr none) kept = absurd (Contains-nil p none)

    by : (b : Bool) → is_kept o w.n w.x ≡ b → Contains (cond b (piece_of k o.bytes w.n w.x ∷ []) []) p → IsPieceOf k o p
    by true kept here = only (Contains-cons_cases (piece_of k o.bytes w.n w.x) [] p here) kept
    by false kept here = absurd (Contains-nil p here)

-- the object of which a kept section is, or a relocation
pub record OfObject (P : ℕ → LoadedObject → Type 0) (objects : List LoadedObject) : Type 0 where
  pub k : ℕ
  pub o : LoadedObject
  pub there : slice_get objects k ≡ Some o
  pub is : P k o

module _ (objects : List LoadedObject) where
  pub piece_object : (p : Piece) → Contains (kept_sections objects) p → OfObject (λ k o. Contains (pieces_here k o) p × IsPieceOf k o p) objects
  piece_object p c =
      let w = found pieces_here pieces_of (λ k. refl) (λ k x xs. refl) objects 0 p c in
      let e = w.number in
      let at : w.i ≡ w.n = omega (arith, e) in record {
        k = w.n;
        o = w.x;
        there = subst (λ (j : ℕ). slice_get objects j ≡ Some w.x) at w.there;
        is = (w.has, piece_is w.n w.x p w.has);
      }

  pub relocation_object : (r : Relocation) → Contains (relocations objects) r → OfObject (λ k o. Contains (relocations_from k o) r) objects
  relocation_object r c =
      let w = found relocations_from relocations_of (λ k. refl) (λ k x xs. refl) objects 0 r c in
      let e = w.number in
      let at : w.i ≡ w.n = omega (arith, e) in record {
        k = w.n;
        o = w.x;
        there = subst (λ (j : ℕ). slice_get objects j ≡ Some w.x) at w.there;
        is = w.has;
      }

  module _ (k : ℕ) (o : LoadedObject) (object : slice_get objects k ≡ Some o) where
    pub piece_among : (p : Piece) → Contains (pieces_here k o) p → Contains (kept_sections objects) p
    piece_among p c = put pieces_here pieces_of (λ n. refl) (λ n x xs. refl) objects 0 k k o p object (omega arith) c

    pub piece_listed : (i : ℕ) (h : SectionHeader) → slice_get (sections o.bytes) i ≡ Some h → is_kept o i h ≡ true → Contains (pieces_here k o) (piece_of k o.bytes i h)
    piece_listed i h section kept =
        put (piece_here k o) (pieces_from k o) (λ n. refl) (pieces_more k o) (sections o.bytes) 0 i i h (piece_of k o.bytes i h) section (omega arith)
        (rw kept (Contains-here [] (piece_of k o.bytes i h)))

    pub relocation_among : (r : Relocation) → Contains (relocations_from k o) r → Contains (relocations objects) r
    relocation_among r c = put relocations_from relocations_of (λ n. refl) (λ n x xs. refl) objects 0 k k o r object (omega arith) c
