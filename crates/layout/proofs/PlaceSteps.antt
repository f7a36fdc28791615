-- The end and the beginning of a part of the pieces that places have, with one more place, and behind the last one.
use Rattle.std.proofs.Common.{◌≡◌, ◌∙◌, ◌+◌, ◌<◌, ◌≤◌, Bool, ℕ, List, ap, arith, drop, get_or, length, map, max, sym}
use Rattle.std.specs.Prelude.{Option}
use Rattle.std.proofs.lemmas.List.{drop_all}
use Rattle.elf_model.specs.Link.LinkerValues.{end_of_pieces, start_of_pieces}
use Rattle.elf_model.specs.Link.Pieces as pieces
use Rattle.elf_model.proofs.PieceBounds.{earlier, either_least, either_none, end_more, further, start_more}
use Rattle.placing.specs.PlaceViews.{place_view}
use Rattle.placing.specs.declared.runs.Place.{Place}

pub end_step :
    (test : pieces.Piece → Bool) (xs : List Place) (i : ℕ) (d : Place) (old new whole : ℕ) → i < length xs →
    new ≡ further test old (place_view (get_or xs i d)) → max old (end_of_pieces test (map place_view (drop i xs))) ≡ whole →
    max new (end_of_pieces test (map place_view (drop (i + 1) xs))) ≡ whole
end_step test xs i d old new whole within is so_far =
    ap (λ x. max x (end_of_pieces test (map place_view (drop (i + 1) xs)))) is ∙ end_more place_view test xs i d old within ∙ so_far

pub start_step :
    (test : pieces.Piece → Bool) (xs : List Place) (i : ℕ) (d : Place) (old new whole : Option ℕ) → i < length xs →
    new ≡ earlier test old (place_view (get_or xs i d)) → either_least old (start_of_pieces test (map place_view (drop i xs))) ≡ whole →
    either_least new (start_of_pieces test (map place_view (drop (i + 1) xs))) ≡ whole
start_step test xs i d old new whole within is so_far =
    ap (λ (o : Option ℕ). either_least o (start_of_pieces test (map place_view (drop (i + 1) xs)))) is ∙ start_more place_view test xs i d old within ∙ so_far

-- behind the last place
pub end_reached :
    (test : pieces.Piece → Bool) (x whole : ℕ) (xs : List Place) (i : ℕ) → length xs ≤ i →
    max x (end_of_pieces test (map place_view (drop i xs))) ≡ whole → x ≡ whole
end_reached test x whole xs i behind so_far =
    let none = ap (λ (ys : List Place). max x (end_of_pieces test (map place_view ys))) (drop_all i xs behind) in
    let zero : max x 0 ≡ x = omega arith in
    sym (none ∙ zero) ∙ so_far

pub start_reached :
    (test : pieces.Piece → Bool) (o whole : Option ℕ) (xs : List Place) (i : ℕ) → length xs ≤ i →
    either_least o (start_of_pieces test (map place_view (drop i xs))) ≡ whole → o ≡ whole
start_reached test o whole xs i behind so_far =
    sym (ap (λ (ys : List Place). either_least o (start_of_pieces test (map place_view ys))) (drop_all i xs behind) ∙ either_none o) ∙ so_far
