-- The leaders of output sections, as pieces come one by one.
use Rattle.std.proofs.Common.{◌≡◌, Bool, true, false, not, cond, ◌||◌, List, [], ◌∷◌, ◌++◌, refl, sym, ◌∙◌, ap}
use Rattle.std.specs.Prelude.{filter}
use Rattle.std.specs.List.{list_any}
use Rattle.std.proofs.lemmas.Bool.{false≢true}
use Rattle.std.proofs.lemmas.List.Elements.{filter-append}
use Rattle.elf_model.specs.Own.OwnLayout.{leaders}
use Rattle.elf_model.specs.Link.Pieces.{Piece, same_output}
use Rattle.elf_model.proofs.SameOutput.{same_output-trans}

-- a piece is of the output section of one of these
abbrev pub has_leader : List Piece → Piece → Bool
has_leader ls q = list_any (λ l. same_output l q) ls

-- a piece that comes behind the others leads its output section where none of them does
pub leaders_push : (ps : List Piece) (q : Piece) → leaders (ps ++ q ∷ []) ≡ leaders ps ++ cond (has_leader ps q) [] (q ∷ [])
leaders_push [] q = refl
leaders_push (p ∷ ps) q =
    let other : Piece → Bool = λ r. not (same_output p r) in
    ap (λ (ls : List Piece). p ∷ filter other ls) (leaders_push ps q)
    ∙ (ap (λ (ls : List Piece). p ∷ ls) (filter-append other (leaders ps) (cond (has_leader ps q) [] (q ∷ [])))
    ∙ ap (λ (ls : List Piece). p ∷ (filter other (leaders ps) ++ ls)) (by (same_output p q) (has_leader ps q) refl))
  where
    by : (b c : Bool) → same_output p q ≡ b → filter (λ r. not (same_output p r)) (cond c [] (q ∷ [])) ≡ cond (b || c) [] (q ∷ [])
    by true true e = refl
    by false true e = refl
    by true false e = rw e refl
    by false false e = rw e refl

-- a piece is of the output section of a leader where it is of one of any piece
pub leaders_lead : (ps : List Piece) (q : Piece) → has_leader (leaders ps) q ≡ has_leader ps q
leaders_lead [] q = refl
leaders_lead (p ∷ ps) q = by (same_output p q) refl (leaders_lead ps q)
  where
    other : Piece → Bool
    other r = not (same_output p r)

    -- what p leads isn't of the output section of q, where p isn't
    left_out : same_output p q ≡ false → (ls : List Piece) → has_leader (filter other ls) q ≡ has_leader ls q
    left_out e [] = refl
    left_out e (l ∷ ls) = at (same_output p l) refl (left_out e ls)
      where
        none : same_output p l ≡ true → (b : Bool) → same_output l q ≡ b → b ≡ false
        none s true t = absurd (false≢true (sym e ∙ same_output-trans p l q s t))
        none s false t = refl

        at :
            (b : Bool) → same_output p l ≡ b → has_leader (filter other ls) q ≡ has_leader ls q →
            has_leader (cond (not b) (l ∷ filter other ls) (filter other ls)) q ≡ (same_output l q || has_leader ls q)
        at false s ih = ap (λ (c : Bool). same_output l q || c) ih
        at true s ih = ih ∙ ap (λ (c : Bool). c || has_leader ls q) (sym (none s (same_output l q) refl))

    by : (b : Bool) → same_output p q ≡ b → has_leader (leaders ps) q ≡ has_leader ps q → (same_output p q || has_leader (filter other (leaders ps)) q) ≡ (same_output p q || has_leader ps q)
    by true e ih = rw e refl
    by false e ih = ap (λ (c : Bool). same_output p q || c) (left_out e (leaders ps) ∙ ih)
