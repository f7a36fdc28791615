-- Pieces placed one behind the other, one more piece at a time.
use Rattle.std.proofs.Common.{◌≡◌, ℕ, ◌+◌, ◌<◌, List, [], ◌∷◌, ◌++◌, get_or, drop, length, sym, ◌∙◌, ap, subst}
use Rattle.std.specs.Borrow.{Bor}
use Rattle.std.proofs.lemmas.List.{append_assoc, map-append}
use Rattle.std.proofs.lemmas.List.Elements.{All-cons, All-head, All-tail}
use Rattle.elf_model.specs.Inputs.ObjectFile.{null_section}
use Rattle.elf_model.specs.Own.OwnLayout.{end_of, place_at, placed_end, placed_from}
use Rattle.elf_model.specs.Link.Pieces as pieces
use Rattle.elf_model.specs.Link.Placement.{Placed}
use Rattle.placing.specs.Limits.{AreInLimit, IsInLimit}
use Rattle.placing.specs.PlaceViews.{place_view, place_views}
use Rattle.placing.specs.Views.{borrowed_view, borrowed_views, piece_view}
use Rattle.placing.specs.declared.piece.Piece.{Piece}
use Rattle.placing.specs.declared.runs.Place.{Place}
use Rattle.elf_model.proofs.Rests.{Left, rest_at}

-- what a list of pieces is read as past its end
abbrev pub no_piece : Piece
no_piece = record {
  object = 0;
  section = 0;
  header = null_section;
  name = record { ref_ptr = (0, 0); now = [] };
  bytes = record { ref_ptr = (0, 0); now = [] };
}

abbrev pub no_borrowed : Bor Piece
no_borrowed = record { ref_ptr = (0, 0); now = no_piece }

abbrev pub no_place : Place
no_place = record { at = 0; piece = no_piece }

pub first_left : (ps : List (Bor Piece)) (i : ℕ) (d : Bor Piece) → i < length ps → borrowed_views (drop i ps) ≡ borrowed_view (get_or ps i d) ∷ borrowed_views (drop (i + 1) ps)
first_left ps i d within = ap borrowed_views (rest_at ps i d within)

-- the address behind a piece that was placed
pub behind : (x at : ℕ) (p : pieces.Piece) → at ≡ (place_at x p).at → at + p.size ≡ placed_end (place_at x p)
behind x at p e = ap (λ (y : ℕ). y + p.size) e

pub placed_more :
    (out new : List Place) (q : Place) (x at : ℕ) (p : Piece) (rest : List pieces.Piece) (whole : List Placed) (left : List pieces.Piece) →
    new ≡ out ++ q ∷ [] → q.at ≡ at → q.piece ≡ p → at ≡ (place_at x (piece_view p)).at → left ≡ piece_view p ∷ rest →
    place_views out ++ placed_from x left ≡ whole → place_views new ++ placed_from (at + p.header.sh_size) rest ≡ whole
placed_more out new q x at p rest whole left grown is_at is_p e first so_far =
    let view : place_view q ≡ place_at x (piece_view p) = λ i. record { at = (is_at ∙ e) i; piece = piece_view (is_p i) } in
    let tail : List Placed = placed_from (placed_end (place_at x (piece_view p))) rest in
    ap (λ (y : ℕ). place_views new ++ placed_from y rest) (behind x at (piece_view p) e)
    ∙ (ap (λ (qs : List Place). place_views qs ++ tail) grown
    ∙ (ap (λ (qs : List Placed). qs ++ tail) (map-append place_view out (q ∷ []))
    ∙ (append_assoc (place_views out) (place_view q ∷ []) tail
    ∙ (ap (λ (r : Placed). place_views out ++ (r ∷ tail)) view
    ∙ (ap (λ (ps : List pieces.Piece). place_views out ++ placed_from x ps) (sym first) ∙ so_far)))))

pub end_more :
    (x at : ℕ) (p : Piece) (rest left : List pieces.Piece) (whole : ℕ) → at ≡ (place_at x (piece_view p)).at → left ≡ piece_view p ∷ rest →
    end_of x left ≡ whole → end_of (at + p.header.sh_size) rest ≡ whole
end_more x at p rest left whole e first so_far =
    ap (λ (y : ℕ). end_of y rest) (behind x at (piece_view p) e) ∙ (ap (end_of x) (sym first) ∙ so_far)

pub limit_more :
    (Q : Type 0) (x at : ℕ) (p : Piece) (rest left : List pieces.Piece) → at ≡ (place_at x (piece_view p)).at → left ≡ piece_view p ∷ rest →
    IsInLimit (place_at x (piece_view p)) → Left Q (AreInLimit (placed_from x left)) → Left Q (AreInLimit (placed_from (at + p.header.sh_size) rest))
limit_more Q x at p rest left e first here q =
    let r : Placed = place_at x (piece_view p) in
    let tail : List Placed = placed_from (placed_end r) rest in
    let is : placed_from (at + p.header.sh_size) rest ≡ tail = ap (λ (y : ℕ). placed_from y rest) (behind x at (piece_view p) e) in
    let split : placed_from x left ≡ r ∷ tail = ap (placed_from x) first in (
      λ h. subst AreInLimit (sym is) (All-tail IsInLimit r tail (subst AreInLimit split (q.0 h))),
      λ h. q.1 (subst AreInLimit (sym split) (All-cons IsInLimit r tail here (subst AreInLimit is h))),
    )

pub limit_stop :
    (Q : Type 0) (x : ℕ) (p : Piece) (rest left : List pieces.Piece) → left ≡ piece_view p ∷ rest →
    (IsInLimit (place_at x (piece_view p)) → ⊥) → Left Q (AreInLimit (placed_from x left)) → Q → ⊥
limit_stop Q x p rest left first never q h =
    never (All-head IsInLimit (place_at x (piece_view p)) (placed_from (placed_end (place_at x (piece_view p))) rest)
    (subst (λ (ps : List pieces.Piece). AreInLimit (placed_from x ps)) first (q.0 h)))
