-- Each piece is of an object that is there and of a section of it, or a block that is there, or the GOT.
use Rattle.std.proofs.Common.{◌≡◌, ℕ, zero, suc, ◌+◌, ◌<◌, ◌++◌, List, [], ◌∷◌, get_or, length, refl, sym, ◌∙◌, ap, subst, arith}
use Rattle.std.specs.Prelude.{All}
use Rattle.std.proofs.lemmas.List.{get_or-map, length-append, length-map}
use Rattle.std.proofs.lemmas.List.Elements.{All-append, All-cons, All-map, All-nil, All-weaker}
use Rattle.std.proofs.lemmas.Option.{get_or_from_slice_get, slice_get_within}
use Rattle.elf_model.specs.Link.Commons.{Block, block_of, block_pieces, block_piece, block_symbols, blocks, blocks_from, pieces}
use Rattle.elf_model.specs.Link.Loading.{LoadedObject}
use Rattle.elf_model.specs.Inputs.ObjectFile.{sections}
use Rattle.elf_model.specs.Own.OwnLayout.{got_number, got_piece, got_pieces, laid_out, own_placed}
use Rattle.elf_model.specs.Link.Pieces.{Piece, kept_sections}
use Rattle.elf_model.specs.Link.Placement.{Placed}
use Rattle.elf_model.specs.Link.Resolution.{SymbolOf}
use Rattle.elf_model.proofs.Listed.{All-unmap}
use Rattle.elf_model.proofs.PieceNumbers.{got_pieces-each}
use Rattle.elf_model.proofs.Places.{All-ordered, own_placed_pieces}
use Rattle.elf_model.proofs.Sectioned.{kept-each}
use Rattle.layout.specs.Addresses.{HasEntry, HasPlace, piece_counts, section_counts}

abbrev HasPieceEntry : List ℕ → Piece → Type 0
HasPieceEntry counts p = HasEntry counts p.object p.section

-- more counts
in_front : (counts more : List ℕ) (i : ℕ) → i < length counts → get_or (counts ++ more) i 0 ≡ get_or counts i 0
in_front [] more i within = absurd (omega (arith, within))
in_front (c ∷ cs) more zero within = refl
in_front (c ∷ cs) more (suc i) within = in_front cs more i (omega (arith, within))

at_end : (counts : List ℕ) (n : ℕ) (more : List ℕ) → get_or (counts ++ n ∷ more) (length counts) 0 ≡ n
at_end [] n more = refl
at_end (c ∷ cs) n more = at_end cs n more

behind_end : (counts : List ℕ) (n m : ℕ) → get_or (counts ++ n ∷ m ∷ []) (suc (length counts)) 0 ≡ m
behind_end [] n m = refl
behind_end (c ∷ cs) n m = behind_end cs n m

module _ (objects : List LoadedObject) (n : ℕ) where
  kept_there : All (HasPieceEntry (piece_counts objects n)) (kept_sections objects)
  kept_there =
      kept-each (HasPieceEntry (piece_counts objects n)) objects (λ k o there i h here.
      let count : LoadedObject → ℕ = λ x. length (sections x.bytes) in
      let low = slice_get_within objects k o there in
      let long = length-map objects count in
      let more = length-append (section_counts objects) (n ∷ 1 ∷ []) in
      let same =
      in_front (section_counts objects) (n ∷ 1 ∷ []) k (omega (arith, low, long))
      ∙ get_or-map count objects k o 0 low ∙ ap count (get_or_from_slice_get objects k o o there) in
      record {
        object_there = omega (arith, low, long, more);
        section_there = subst (λ (m : ℕ). i < m) (sym same) (slice_get_within (sections o.bytes) i h here);
      })

  -- the blocks, of which there are so many
  abbrev IsBelow : ℕ → Block → Type 0
  IsBelow m b = (b.object ≡ length objects) × (b.number < m)

  blocks_below : (k : ℕ) (ss : List SymbolOf) → All (IsBelow (k + length ss)) (blocks_from objects k ss)
  blocks_below k [] = All-nil (IsBelow (k + 0))
  blocks_below k (s ∷ ss) =
      All-cons (IsBelow (k + length (s ∷ ss))) (block_of objects k s) (blocks_from objects (k + 1) ss) (refl, omega arith)
      (All-weaker (IsBelow ((k + 1) + length ss)) (IsBelow (k + length (s ∷ ss))) (λ b low. (low.0, omega (arith, low))) (blocks_from objects (k + 1) ss)
      (blocks_below (k + 1) ss))

  blocks_count : (k : ℕ) (ss : List SymbolOf) → length (blocks_from objects k ss) ≡ length ss
  blocks_count k [] = refl
  blocks_count k (s ∷ ss) = ap suc (blocks_count (k + 1) ss)

  block_there : (b : Block) → n ≡ length (blocks objects) → IsBelow (0 + length (block_symbols objects)) b → HasPieceEntry (piece_counts objects n) (block_piece b)
  block_there b many low =
      let count : LoadedObject → ℕ = λ x. length (sections x.bytes) in
      let long = length-map objects count in
      let more = length-append (section_counts objects) (n ∷ 1 ∷ []) in
      let all = blocks_count 0 (block_symbols objects) in
      let place : b.object ≡ length (section_counts objects) = low.0 ∙ sym long in
      let same : get_or (piece_counts objects n) b.object 0 ≡ n =
      ap (λ (i : ℕ). get_or (piece_counts objects n) i 0) place ∙ at_end (section_counts objects) n (1 ∷ []) in
      record {
        object_there = let here = low.0 in omega (arith, here, long, more);
        section_there = let under = low.1 in subst (λ (m : ℕ). b.number < m) (sym same) (omega (arith, under, many, all));
      }

  pieces_there : n ≡ length (blocks objects) → All (HasPieceEntry (piece_counts objects n)) (pieces objects)
  pieces_there many =
      All-append (HasPieceEntry (piece_counts objects n)) (kept_sections objects) (block_pieces objects) kept_there
      (All-map (HasPieceEntry (piece_counts objects n)) block_piece (blocks objects)
      (All-weaker (IsBelow (0 + length (block_symbols objects))) (λ (b : Block). HasPieceEntry (piece_counts objects n) (block_piece b)) (λ b low. block_there b many low)
      (blocks objects) (blocks_below 0 (block_symbols objects))))

  got_there : HasPieceEntry (piece_counts objects n) (got_piece objects)
  got_there =
      let count : LoadedObject → ℕ = λ x. length (sections x.bytes) in
      let long = length-map objects count in
      let more = length-append (section_counts objects) (n ∷ 1 ∷ []) in
      let place : got_number objects ≡ suc (length (section_counts objects)) = omega (arith, long) in
      let same : get_or (piece_counts objects n) (got_number objects) 0 ≡ 1 =
      ap (λ (i : ℕ). get_or (piece_counts objects n) i 0) place ∙ behind_end (section_counts objects) n 1 in
      record {
        object_there = omega (arith, long, more);
        section_there = subst (λ (m : ℕ). 0 < m) (sym same) (omega arith);
      }

  laid_out_there : n ≡ length (blocks objects) → All (HasPieceEntry (piece_counts objects n)) (laid_out objects)
  laid_out_there many =
      All-append (HasPieceEntry (piece_counts objects n)) (pieces objects) (got_pieces objects) (pieces_there many)
      (got_pieces-each objects (HasPieceEntry (piece_counts objects n)) got_there)

  -- and so is each place of the own layout
  pub places_there : (base : ℕ) → n ≡ length (blocks objects) → All (HasPlace (piece_counts objects n)) (own_placed base objects)
  places_there base many =
      All-unmap (HasPieceEntry (piece_counts objects n)) (λ (q : Placed). q.piece) (own_placed base objects)
      (subst (All (HasPieceEntry (piece_counts objects n))) (sym (own_placed_pieces base objects))
      (All-ordered (HasPieceEntry (piece_counts objects n)) objects (laid_out_there many)))
