-- The places of sections, by which their numbers find them.
use Rattle.std.proofs.Common.{◌≡◌, ℕ, Bool, true, false, ◌+◌, ◌<◌, ◌≤◌, List, ◌∷◌, Option, None, Some, cond, drop, get_or, length, refl, sym, ap, ◌∙◌}
use Rattle.std.proofs.lemmas.List.{drop_all}
use Rattle.std.proofs.lemmas.Option.{slice_get-get_or}
use Rattle.std.specs.Prelude.{find}
use Rattle.std.specs.List.{slice_get}
use Rattle.std.specs.Option.{option_map_or, option_or}
use Rattle.elf_model.proofs.Rests.{rest_at}
use Rattle.elf_model.specs.Link.Pieces.{Piece}
use Rattle.merge_judge.specs.Sections.{is_numbered, piece_at}

module _ (object section : ℕ) (ps : List Piece) where
  abbrev Test : Piece → Bool
  Test p = is_numbered object section p

  -- what an index of the first k sections finds, or else a search of those behind them
  abbrev pub found_at : Option ℕ → ℕ → Option Piece
  found_at place k = option_map_or (slice_get ps) place (find Test (drop k ps))

  -- one section more is in the index
  pub one_more :
      (k : ℕ) (p : Piece) → k < length ps → (get_or ps k p ≡ p) → (old new : Option ℕ) →
      new ≡ option_or old (cond (Test p) (Some k) None) → found_at old k ≡ find Test ps → found_at new (k + 1) ≡ find Test ps
  one_more k p low is old new e before = by old (Test p) refl e before
    where
      first : drop k ps ≡ p ∷ drop (k + 1) ps
      first = rest_at ps k p low ∙ ap (λ (x : Piece). x ∷ drop (k + 1) ps) is

      by : (o : Option ℕ) (b : Bool) → Test p ≡ b → new ≡ option_or o (cond (Test p) (Some k) None) → found_at o k ≡ find Test ps → found_at new (k + 1) ≡ find Test ps
      by (Some j) b at_p new_is found = ap (λ (o : Option ℕ). found_at o (k + 1)) new_is ∙ found
      by None true at_p new_is found =
          ap (λ (o : Option ℕ). found_at o (k + 1)) (new_is ∙ ap (λ (b : Bool). cond b (Some k) None) at_p)
          ∙ (slice_get-get_or ps k p low ∙ (ap Some is
          ∙ (sym (ap (λ (b : Bool). cond b (Some p) (find Test (drop (k + 1) ps))) at_p)
          ∙ (sym (ap (find Test) first) ∙ found))))
      by None false at_p new_is found =
          ap (λ (o : Option ℕ). found_at o (k + 1)) (new_is ∙ ap (λ (b : Bool). cond b (Some k) None) at_p)
          ∙ (sym (ap (λ (b : Bool). cond b (Some p) (find Test (drop (k + 1) ps))) at_p) ∙ (sym (ap (find Test) first) ∙ found))

  pub all_in : (k : ℕ) → length ps ≤ k → (place : Option ℕ) → found_at place k ≡ find Test ps → piece_at ps place ≡ find Test ps
  all_in k end None found = sym (ap (find Test) (drop_all k ps end)) ∙ found
  all_in k end (Some j) found = found
