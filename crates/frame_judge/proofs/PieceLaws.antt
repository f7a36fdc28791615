-- Sections of call frames as the judge reads them, one by one.
use Rattle.std.proofs.Common.{◌≡◌, ◌∙◌, ℕ, ◌+◌, ◌<◌, ◌≤◌, List, length, get_or, drop, ap, subst, sym, arith}
use Rattle.std.specs.Prelude.{All}
use Rattle.std.proofs.lemmas.List.{get_or-map, length-map}
use Rattle.check_link.specs.Views.{piece_view, piece_views}
use Rattle.check_link.specs.declared.things.Piece as things
use Rattle.elf_model.proofs.Rests.{Left, all_more, all_stop, all_end}
use Rattle.elf_model.specs.Link.Pieces.{Piece}
use Rattle.frame_judge.specs.Sections.{piece_bytes}

module _ (ps : List things.Piece) (fs : List Piece) (same : piece_views ps ≡ fs) where
  long : length fs ≡ length ps
  long = ap (length {A = Piece}) (sym same) ∙ length-map ps piece_view

  module _ (k : ℕ) (d : things.Piece) where
    abbrev One : Piece
    One = piece_view (get_or ps k d)

    at_place : k < length ps → One ≡ get_or fs k One
    at_place within = sym (get_or-map piece_view ps k d One within) ∙ ap (λ (xs : List Piece). get_or xs k One) same

    pub bytes_there : (bs : List (List ℕ)) (e : List ℕ) → bs ≡ piece_bytes fs → k < length ps → get_or bs k e ≡ One.bytes
    bytes_there bs e all within =
        let n = long in
        ap (λ (xs : List (List ℕ)). get_or xs k e) all
        ∙ (get_or-map (λ (p : Piece). p.bytes) fs k One e (omega (arith, n, within)) ∙ ap (λ (p : Piece). p.bytes) (sym (at_place within)))

    pub more : (Q : Type 0) (P : Piece → Type 0) → k < length ps → P One → Left Q (All P (drop k fs)) → Left Q (All P (drop (k + 1) fs))
    more Q P within here q = let n = long in all_more Q P fs k One (omega (arith, n, within)) (subst P (at_place within) here) q

    pub stop : (Q : Type 0) (P : Piece → Type 0) → k < length ps → (P One → ⊥) → Left Q (All P (drop k fs)) → Q → ⊥
    stop Q P within never q =
        let n = long in all_stop Q P fs k One (omega (arith, n, within)) (λ h. never (subst P (sym (at_place within)) h)) q

  pub end : (k : ℕ) (Q : Type 0) (P : Piece → Type 0) → length ps ≤ k → Left Q (All P (drop k fs)) → Q
  end k Q P behind q = let n = long in all_end Q P fs k (omega (arith, n, behind)) q
