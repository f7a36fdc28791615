-- The greatest alignment of pieces.
use Rattle.std.proofs.Common.{◌≡◌, ℕ, ◌<◌, ◌≤◌, Bool, true, false, cond, drop, get_or, length, map, max, List, [], ◌∷◌, ◌+◌, refl, sym, ap, ◌∙◌, arith}
use Rattle.elf_model.proofs.Rests.{rest_at}
use Rattle.elf_model.specs.Link.Pieces.{Piece}
use Rattle.elf_model.specs.Link.Placement.{Placed}
use Rattle.elf_model.specs.Link.ThreadStorage.{alignment_of}

pub alignment_some : (test : Piece → Bool) (ps : List Piece) → 1 ≤ alignment_of test ps
alignment_some test [] = omega arith
alignment_some test (p ∷ ps) = by (test p) (alignment_some test ps)
  where
    by : (b : Bool) → 1 ≤ alignment_of test ps → 1 ≤ cond b (max p.align (alignment_of test ps)) (alignment_of test ps)
    by true rest = omega (arith, rest)
    by false rest = rest

-- the alignment of a piece, where it is above another one, and those of the pieces that are left
pub greater_some : (b : Bool) (x a : ℕ) → 1 ≤ x → 1 ≤ cond b (max x a) x
greater_some true x a some = omega (arith, some)
greater_some false x a some = some

module _ {X : Type 0} (view : X → Placed) (test : Piece → Bool) (xs : List X) (i : ℕ) (d : X) where
  abbrev left : ℕ → List Piece
  left j = map (λ q. q.piece) (map view (drop j xs))

  abbrev here : Piece
  here = (view (get_or xs i d)).piece

  pub alignment_more :
      (x : ℕ) → i < length xs → max (cond (test here) (max x here.align) x) (alignment_of test (left (i + 1))) ≡ max x (alignment_of test (left i))
  alignment_more x within =
      by (test here)
      ∙ sym (ap (λ (ys : List X). max x (alignment_of test (map (λ q. q.piece) (map view ys)))) (rest_at xs i d within))
    where
      by :
          (b : Bool) →
          max (cond b (max x here.align) x) (alignment_of test (left (i + 1)))
          ≡ max x (cond b (max here.align (alignment_of test (left (i + 1)))) (alignment_of test (left (i + 1))))
      by true = omega arith
      by false = refl
