-- The greatest end and the least address of places without those of one object, one more place at a time.
use Rattle.std.proofs.Common.{◌≡◌, ◌∙◌, ℕ, ◌+◌, ◌<◌, Bool, true, false, cond, List, ◌∷◌, ap, arith, drop, get_or, length, max, min, refl, sym}
use Rattle.std.specs.Prelude.{None, Option, Some, filter}
use Rattle.elf_model.proofs.PieceBounds.{earlier, either_least, further}
use Rattle.elf_model.proofs.Rests.{rest_at}
use Rattle.elf_model.specs.Link.LinkerValues.{end_of_pieces, least_of, start_of_pieces}
use Rattle.elf_model.specs.Link.Pieces.{Piece}
use Rattle.elf_model.specs.Link.Placement.{Placed}
use Rattle.placing.specs.PlaceViews.{place_view, place_views}
use Rattle.placing.specs.declared.runs.Place.{Place}

-- the places that are left from a number on, and pass
abbrev pub passing : (Placed → Bool) → List Place → ℕ → List Placed
passing test places i = filter test (place_views (drop i places))

end_step : (test : Piece → Bool) (x : ℕ) (q : Placed) (rest : List Placed) → max (further test x q) (end_of_pieces test rest) ≡ max x (end_of_pieces test (q ∷ rest))
end_step test x q rest = by (test q.piece) (q.at + q.piece.size) (end_of_pieces test rest)
  where
    by : (b : Bool) (e r : ℕ) → max (cond b (max x e) x) r ≡ max x (cond b (max e r) r)
    by true e r = omega arith
    by false e r = refl

start_step :
    (test : Piece → Bool) (o : Option ℕ) (q : Placed) (rest : List Placed) →
    either_least (earlier test o q) (start_of_pieces test rest) ≡ either_least o (start_of_pieces test (q ∷ rest))
start_step test o q rest = by (test q.piece) o (start_of_pieces test rest)
  where
    by :
        (b : Bool) (a r : Option ℕ) →
        either_least (cond b (Some (least_of q.at a)) a) r ≡ either_least a (cond b (Some (least_of q.at r)) r)
    by true None r = refl
    by true (Some a) None = let e : min q.at a ≡ min a q.at = omega arith in ap Some e
    by true (Some a) (Some c) = let e : min (min q.at a) c ≡ min a (min q.at c) = omega arith in ap Some e
    by false a r = refl

module _ (passes : Placed → Bool) (places : List Place) (i : ℕ) (d : Place) (within : i < length places) where
  abbrev next : Placed
  next = place_view (get_or places i d)

  split : passing passes places i ≡ cond (passes next) (next ∷ passing passes places (i + 1)) (passing passes places (i + 1))
  split = ap (λ (ps : List Place). filter passes (place_views ps)) (rest_at places i d within)

  one_more : passes next ≡ true → passing passes places i ≡ next ∷ passing passes places (i + 1)
  one_more is = split ∙ ap (λ b. cond b (next ∷ passing passes places (i + 1)) (passing passes places (i + 1))) is

  pub none_more : passes next ≡ false → passing passes places i ≡ passing passes places (i + 1)
  none_more is = split ∙ ap (λ b. cond b (next ∷ passing passes places (i + 1)) (passing passes places (i + 1))) is

  pub start_more :
      (test : Piece → Bool) (old new whole : Option ℕ) → passes next ≡ true → new ≡ earlier test old next →
      either_least old (start_of_pieces test (passing passes places i)) ≡ whole →
      either_least new (start_of_pieces test (passing passes places (i + 1))) ≡ whole
  start_more test old new whole is taken so_far =
      ap (λ (o : Option ℕ). either_least o (start_of_pieces test (passing passes places (i + 1)))) taken
      ∙ (start_step test old next (passing passes places (i + 1))
      ∙ (ap (λ (qs : List Placed). either_least old (start_of_pieces test qs)) (sym (one_more is)) ∙ so_far))

  pub end_more :
      (test : Piece → Bool) (old new whole : ℕ) → passes next ≡ true → new ≡ further test old next →
      max old (end_of_pieces test (passing passes places i)) ≡ whole →
      max new (end_of_pieces test (passing passes places (i + 1))) ≡ whole
  end_more test old new whole is taken so_far =
      ap (λ x. max x (end_of_pieces test (passing passes places (i + 1)))) taken
      ∙ (end_step test old next (passing passes places (i + 1))
      ∙ (ap (λ (qs : List Placed). max old (end_of_pieces test qs)) (sym (one_more is)) ∙ so_far))
