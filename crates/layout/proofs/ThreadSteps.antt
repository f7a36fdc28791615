-- The greatest alignment of thread-local pieces, one more piece at a time, and in another order; and where pieces begin
-- and end.
use Rattle.std.proofs.Common.{◌≡◌, ◌∙◌, ℕ, ◌+◌, ◌<◌, ◌≤◌, ◌||◌, Bool, true, false, cond, max, min, List, [], ◌∷◌, get_or, drop, length, refl, sym, ap, arith}
use Rattle.std.specs.Prelude.{All, Option, Some, None}
use Rattle.std.specs.List.{list_any}
use Rattle.std.proofs.lemmas.List.Elements.{All-head, All-tail}
use Rattle.std.proofs.lemmas.Option.{none-some, same_Some}
use Rattle.elf_model.specs.Link.LinkerValues.{end_of_pieces, least_of, start_of_pieces}
use Rattle.elf_model.specs.Link.Pieces.{Piece, is_thread_piece}
use Rattle.elf_model.specs.Link.Placement.{Placed}
use Rattle.elf_model.specs.Link.ThreadStorage.{alignment_of}
use Rattle.elf_model.proofs.Rests.{rest_at}
use Rattle.layout.specs.Threads.{wider}
use Rattle.placing.specs.Views.{piece_view, piece_views}
use Rattle.placing.specs.declared.piece.Piece as code

or_assoc : (a b c : Bool) → ((a || b) || c) ≡ (a || (b || c))
or_assoc true b c = refl
or_assoc false b c = refl

-- one more piece
align_step : (a : ℕ) (p : Piece) (rest : List Piece) → max (wider a p) (alignment_of is_thread_piece rest) ≡ max a (alignment_of is_thread_piece (p ∷ rest))
align_step a p rest = by (is_thread_piece p) (alignment_of is_thread_piece rest)
  where
    by : (b : Bool) (n : ℕ) → max (cond b (max p.align a) a) n ≡ max a (cond b (max p.align n) n)
    by true n = omega arith
    by false n = refl

pub align_more :
    (ps : List code.Piece) (i : ℕ) (d : code.Piece) (a b whole : ℕ) → i < length ps → b ≡ wider a (piece_view (get_or ps i d)) →
    max a (alignment_of is_thread_piece (piece_views (drop i ps))) ≡ whole →
    max b (alignment_of is_thread_piece (piece_views (drop (i + 1) ps))) ≡ whole
align_more ps i d a b whole within is so_far =
    ap (λ n. max n (alignment_of is_thread_piece (piece_views (drop (i + 1) ps)))) is
    ∙ (align_step a (piece_view (get_or ps i d)) (piece_views (drop (i + 1) ps))
    ∙ (ap (λ (qs : List code.Piece). max a (alignment_of is_thread_piece (piece_views qs))) (sym (rest_at ps i d within)) ∙ so_far))

pub any_more :
    (ps : List code.Piece) (i : ℕ) (d : code.Piece) (a b whole : Bool) → i < length ps → b ≡ (a || is_thread_piece (piece_view (get_or ps i d))) →
    (a || list_any is_thread_piece (piece_views (drop i ps))) ≡ whole → (b || list_any is_thread_piece (piece_views (drop (i + 1) ps))) ≡ whole
any_more ps i d a b whole within is so_far =
    let rest = list_any is_thread_piece (piece_views (drop (i + 1) ps)) in
    ap (λ (x : Bool). x || rest) is
    ∙ (or_assoc a (is_thread_piece (piece_view (get_or ps i d))) rest
    ∙ (ap (λ (qs : List code.Piece). a || list_any is_thread_piece (piece_views qs)) (sym (rest_at ps i d within)) ∙ so_far))

-- where the pieces of a part begin: below none of their places, and not behind where they end
pub start_within :
    (test : Piece → Bool) (base start : ℕ) (qs : List Placed) → All (λ q. base ≤ q.at) qs → start_of_pieces test qs ≡ Some start →
    (base ≤ start) × (start ≤ end_of_pieces test qs)
start_within test base start [] above is = absurd (none-some start is)
start_within test base start (q ∷ qs) above is =
    by (test q.piece) (start_of_pieces test qs) refl is (All-head (λ r. base ≤ r.at) q qs above)
    (λ s e. start_within test base s qs (All-tail (λ r. base ≤ r.at) q qs above) e)
  where
    by :
        (b : Bool) (o : Option ℕ) → start_of_pieces test qs ≡ o → cond b (Some (least_of q.at o)) o ≡ Some start → base ≤ q.at →
        ((s : ℕ) → start_of_pieces test qs ≡ Some s → (base ≤ s) × (s ≤ end_of_pieces test qs)) →
        (base ≤ start) × (start ≤ cond b (max (q.at + q.piece.size) (end_of_pieces test qs)) (end_of_pieces test qs))
    by true None e s here rest =
        let at : q.at ≡ start = same_Some q.at start s in
        (omega (arith, at, here), omega (arith, at))
    by true (Some a) e s here rest =
        let at : min q.at a ≡ start = same_Some (min q.at a) start s in
        let r = rest a e in
        (omega (arith, at, here, r), omega (arith, at, r))
    by false None e s here rest = absurd (none-some start s)
    by false (Some a) e s here rest =
        let at : a ≡ start = same_Some a start s in
        let r = rest a e in
        (omega (arith, at, r), omega (arith, at, r))
