-- The pieces at the addresses of a map's lines, one by one.
use Rattle.std.proofs.Common.{◌≡◌, ℕ, ◌<◌, ◌≤◌, ◌⊎◌, inl, inr, List, [], ◌∷◌, ◌++◌, length, drop, take, refl, sym, ◌∙◌, ap, arith}
use Rattle.std.specs.Prelude.{map, min}
use Rattle.std.proofs.Math.Seq.{take-append_seam}
use Rattle.std.proofs.lemmas.List.{append-nil, drop_all, length-map, take-map}
use Rattle.linkmap.specs.Borrowed.{place_row}
use Rattle.elf_model.specs.Link.Placement.{placed_by}
use Rattle.elf_model.specs.Link.Placement as placement
use Rattle.linkmap.specs.declared.borrowed.BorrowedPlace.{BorrowedPlace}
use Rattle.check_link.specs.Views.{piece_views, placed_view, placed_views}
use Rattle.check_link.specs.declared.things.Piece.{Piece}
use Rattle.check_link.specs.declared.things.Placed.{Placed}
use Rattle.check_link.proofs.Padded.{below_or_not}

abbrev rest : List BorrowedPlace → List Piece → List placement.Placed
rest rows pieces = placed_by (map place_row rows) (piece_views pieces)

no_pieces : (rows : List BorrowedPlace) → rest rows [] ≡ []
no_pieces [] = refl
no_pieces (r ∷ rows) = refl

pub place_end :
    (done : List Placed) (all : List placement.Placed) (rows : List BorrowedPlace) (pieces : List Piece) (i : ℕ) →
    min (length rows) (length pieces) ≤ i → placed_views done ++ rest (drop i rows) (drop i pieces) ≡ all → placed_views done ≡ all
place_end done all rows pieces i behind h =
    sym (append-nil (placed_views done)) ∙ (ap (λ (v : List placement.Placed). placed_views done ++ v) (sym (by (below_or_not i (length rows)))) ∙ h)
  where
    by : (i < length rows) ⊎ (length rows ≤ i) → rest (drop i rows) (drop i pieces) ≡ []
    by (inr past) = ap (λ (rs : List BorrowedPlace). rest rs (drop i pieces)) (drop_all i rows past)
    by (inl within) =
        ap (λ (ps : List Piece). rest (drop i rows) ps) (drop_all i pieces (omega (arith, behind, within))) ∙ no_pieces (drop i rows)

-- what was placed first is the front of all
pub front_of :
    (first all : List Placed) (more : List placement.Placed) (n : ℕ) → n ≡ length first → placed_views all ≡ placed_views first ++ more →
    placed_views (take n all) ≡ placed_views first
front_of first all more n count grown =
    let len = length-map first placed_view in
    sym (take-map placed_view n all)
    ∙ (ap (λ (k : ℕ). take k (placed_views all)) (count ∙ sym len)
    ∙ (ap (take (length (placed_views first))) grown ∙ take-append_seam (placed_views first) more))
