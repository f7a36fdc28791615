-- The common blocks: what each has, and that they are numbered as sections of an object past the last one.
use Rattle.std.proofs.Common.{◌≡◌, ℕ, ◌+◌, ◌<◌, ◌≤◌, Bool, true, false, cond, List, [], ◌∷◌, length, refl, sym, arith}
use Rattle.std.specs.Prelude.{All, AllPairs, Contains, Some, find, is_some}
use Rattle.std.specs.Str.{bytes_eq}
use Rattle.std.proofs.lemmas.List.Elements.{All-cons, All-map, All-nil, All-weaker}
use Rattle.std.proofs.lemmas.List.Kept.{AllPairs-cons}
use Rattle.elf_model.specs.Link.Commons.{Block, block_header, block_of, block_piece, block_pieces, block_symbols, blocks, blocks_from, is_block_of}
use Rattle.elf_model.specs.Link.Loading.{LoadedObject}
use Rattle.elf_model.specs.Link.Pieces.{IsLawfulKind, Piece, has_bytes, is_executable, is_writable}
use Rattle.elf_model.specs.Link.Resolution.{SymbolOf, has_name}
use Rattle.elf_model.proofs.Listed.{Contains-here, Contains-there}
use Rattle.elf_model.proofs.Pairs.{AllPairs-map, AllPairs-nil}

module _ (objects : List LoadedObject) where
  -- what holds of the block of each common symbol that is chosen, whatever its number
  module _ (P : Block → Type 0) (each : (k : ℕ) (s : SymbolOf) → Contains (block_symbols objects) s → P (block_of objects k s)) where
    blocks_from-each : (k : ℕ) (ss : List SymbolOf) → ((s : SymbolOf) → Contains ss s → Contains (block_symbols objects) s) → All P (blocks_from objects k ss)
    blocks_from-each k [] from = All-nil P
    blocks_from-each k (s ∷ ss) from =
        All-cons P (block_of objects k s) (blocks_from objects (k + 1) ss) (each k s (from s (Contains-here ss s)))
        (blocks_from-each (k + 1) ss (λ t c. from t (Contains-there s ss t c)))

    pub blocks-each : All P (blocks objects)
    blocks-each = blocks_from-each 0 (block_symbols objects) (λ s c. c)

  pub block_pieces-each :
      (P : Piece → Type 0) → ((k : ℕ) (s : SymbolOf) → Contains (block_symbols objects) s → P (block_piece (block_of objects k s))) →
      All P (block_pieces objects)
  block_pieces-each P each = All-map P block_piece (blocks objects) (blocks-each (λ b. P (block_piece b)) each)

  -- a block of the pseudo object, from a number on
  abbrev IsFrom : ℕ → Block → Type 0
  IsFrom k b = (b.object ≡ length objects) × (k ≤ b.number)

  blocks_from-numbers : (k : ℕ) (ss : List SymbolOf) → All (IsFrom k) (blocks_from objects k ss)
  blocks_from-numbers k [] = All-nil (IsFrom k)
  blocks_from-numbers k (s ∷ ss) =
      All-cons (IsFrom k) (block_of objects k s) (blocks_from objects (k + 1) ss) (refl, omega arith)
      (All-weaker (IsFrom (k + 1)) (IsFrom k) (λ b n. (n.0, omega (arith, n))) (blocks_from objects (k + 1) ss) (blocks_from-numbers (k + 1) ss))

  -- the blocks of the symbols are numbered below how many they are
  blocks_from-below : (k : ℕ) (ss : List SymbolOf) → All (λ b. (b.object ≡ length objects) × (b.number < k + length ss)) (blocks_from objects k ss)
  blocks_from-below k [] = All-nil (λ b. (b.object ≡ length objects) × (b.number < k + 0))
  blocks_from-below k (s ∷ ss) =
      All-cons (λ b. (b.object ≡ length objects) × (b.number < k + length (s ∷ ss))) (block_of objects k s) (blocks_from objects (k + 1) ss) (refl, omega arith)
      (All-weaker (λ b. (b.object ≡ length objects) × (b.number < (k + 1) + length ss))
      (λ b. (b.object ≡ length objects) × (b.number < k + length (s ∷ ss))) (λ b n. (n.0, omega (arith, n))) (blocks_from objects (k + 1) ss)
      (blocks_from-below (k + 1) ss))

  blocks_from-length : (k : ℕ) (ss : List SymbolOf) → length (blocks_from objects k ss) ≡ length ss
  blocks_from-length k [] = refl
  blocks_from-length k (s ∷ ss) = let rest = blocks_from-length (k + 1) ss in omega (arith, rest)

  pub blocks_numbered : All (λ b. (b.object ≡ length objects) × (b.number < length (blocks objects))) (blocks objects)
  blocks_numbered =
      let same = blocks_from-length 0 (block_symbols objects) in
      All-weaker (λ b. (b.object ≡ length objects) × (b.number < 0 + length (block_symbols objects)))
      (λ b. (b.object ≡ length objects) × (b.number < length (blocks objects))) (λ b n. (n.0, omega (arith, n, same))) (blocks objects)
      (blocks_from-below 0 (block_symbols objects))

  -- each has an alignment
  pub blocks_aligned : All (λ b. 1 ≤ b.align) (blocks objects)
  blocks_aligned = blocks-each (λ b. 1 ≤ b.align) (λ k s c. omega arith)

  abbrev AreNumbered : Block → Block → Type 0
  AreNumbered b c = (b.object ≡ c.object) × (b.number < c.number)

  blocks_from-ascend : (k : ℕ) (ss : List SymbolOf) → AllPairs AreNumbered (blocks_from objects k ss)
  blocks_from-ascend k [] = AllPairs-nil AreNumbered
  blocks_from-ascend k (s ∷ ss) =
      AllPairs-cons AreNumbered (block_of objects k s) (blocks_from objects (k + 1) ss)
      (All-weaker (IsFrom (k + 1)) (AreNumbered (block_of objects k s)) (λ b n. (sym n.0, omega (arith, n))) (blocks_from objects (k + 1) ss) (blocks_from-numbers (k + 1) ss))
      (blocks_from-ascend (k + 1) ss)

  -- the pieces of blocks are of the object past the last one, and ascend by their numbers
  pub block_pieces-object : All (λ p. p.object ≡ length objects) (block_pieces objects)
  block_pieces-object = block_pieces-each (λ p. p.object ≡ length objects) (λ k s c. refl)

  pub block_pieces-ascend : AllPairs (λ p q. (p.object ≡ q.object) × (p.section < q.section)) (block_pieces objects)
  block_pieces-ascend =
      AllPairs-map (λ p q. (p.object ≡ q.object) × (p.section < q.section)) block_piece (blocks objects)
      (blocks_from-ascend 0 (block_symbols objects))

  -- a search for a block by its name, and one for its symbol
  blocks_from-named : (n : List ℕ) (k : ℕ) (ss : List SymbolOf) → is_some (find (is_block_of n) (blocks_from objects k ss)) ≡ is_some (find (has_name n) ss)
  blocks_from-named n k [] = refl
  blocks_from-named n k (s ∷ ss) = by (bytes_eq s.name n) (blocks_from-named n (k + 1) ss)
    where
      by :
          (b : Bool) → is_some (find (is_block_of n) (blocks_from objects (k + 1) ss)) ≡ is_some (find (has_name n) ss) →
          is_some (cond b (Some (block_of objects k s)) (find (is_block_of n) (blocks_from objects (k + 1) ss)))
          ≡ is_some (cond b (Some s) (find (has_name n) ss))
      by true rest = refl
      by false rest = rest

  pub block_named-some : (n : List ℕ) → is_some (find (is_block_of n) (blocks objects)) ≡ is_some (find (has_name n) (block_symbols objects))
  block_named-some n = blocks_from-named n 0 (block_symbols objects)

-- what a block is as a piece: writable, without bytes, lawful as a section would be
pub block_writable : (b : Block) → is_writable (block_header b) ≡ true
block_writable b = refl

pub block_not_code : (b : Block) → is_executable (block_header b) ≡ false
block_not_code b = refl

pub block_bare : (b : Block) → has_bytes (block_piece b) ≡ false
block_bare b = refl

pub block_lawful : (b : Block) → IsLawfulKind (block_header b)
block_lawful b = record {
  type_ = (2, omega arith, refl);
  flags = refl;
  not_both = refl;
  thread_local = λ e. refl;
  nobits = λ e. refl;
}
