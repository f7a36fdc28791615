-- A length of 0 ends none of the sections of a list's records.
use Rattle.std.proofs.Common.{◌≡◌, ℕ, List, subst, sym}
use Rattle.std.specs.Prelude.{All, Any}
use Rattle.std.proofs.lemmas.List.Elements.{All-contains}
use Rattle.elf_model.proofs.Finding.{Any-from_contains}
use Rattle.elf_model.proofs.Listed.{All-from_contains, Contains-from_map, Contains-map}
use Rattle.elf_model.specs.Link.Pieces.{Piece}
use Rattle.judge_model.specs.Frames.{IsEnded}
use Rattle.frame_judge.specs.Sections.{piece_bytes}

module _ (ps : List Piece) where
  pub open_of : All (λ b. ¬ IsEnded b) (piece_bytes ps) → Any (λ p. IsEnded p.bytes) ps → ⊥
  open_of all (i, p, low, is, e) =
      All-contains (λ (b : List ℕ). ¬ IsEnded b) (piece_bytes ps) p.bytes all (Contains-map (λ (q : Piece). q.bytes) ps p (i, low, is)) e

  pub open_in : (Any (λ p. IsEnded p.bytes) ps → ⊥) → All (λ b. ¬ IsEnded b) (piece_bytes ps)
  open_in never =
      All-from_contains (λ (b : List ℕ). ¬ IsEnded b) (piece_bytes ps)
      (λ b there e.
      let m = Contains-from_map (λ (q : Piece). q.bytes) ps b there in
      never (Any-from_contains (λ (p : Piece). IsEnded p.bytes) ps m.of m.there (subst IsEnded (sym m.is) e)))
