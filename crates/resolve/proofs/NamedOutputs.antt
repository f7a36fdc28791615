-- An output section has an output name where a kept section has.
use Rattle.std.proofs.Common.{◌≡◌, ℕ, Bool, true, false, not, cond, ◌||◌, List, [], ◌∷◌, refl, sym, ◌∙◌, ap}
use Rattle.std.specs.Prelude.{filter, map}
use Rattle.std.specs.List.{list_any}
use Rattle.std.specs.Str.{bytes_eq}
use Rattle.elf_model.specs.Link.Loading.{LoadedObject}
use Rattle.elf_model.specs.Own.OwnLayout.{leaders}
use Rattle.elf_model.specs.Link.Pieces.{Piece, has_output, is_of_output, kept_sections, same_output}
use Rattle.elf_model.proofs.SameOutput.{alike}
use Rattle.resolve.specs.OutputSections.{AreOutputSections, Output, is_named, output_of, output_view}
use Rattle.resolve.specs.declared.output_sections.OutputSections.{OutputSections}

abbrev has_name : List ℕ → Output → Bool
has_name n o = bytes_eq o.name n

any_map : {X Y : Type 0} (test : Y → Bool) (f : X → Y) (xs : List X) → list_any test (map f xs) ≡ list_any (λ x. test (f x)) xs
any_map test f [] = refl
any_map test f (x ∷ xs) = ap (λ b. test (f x) || b) (any_map test f xs)

module _ (n : List ℕ) where
  -- what a piece that isn't of the name leads isn't either
  left_out : (p : Piece) → is_of_output n p ≡ false → (ls : List Piece) → list_any (is_of_output n) (filter (λ q. not (same_output p q)) ls) ≡ list_any (is_of_output n) ls
  left_out p none [] = refl
  left_out p none (l ∷ ls) = by (same_output p l) refl (left_out p none ls)
    where
      other : same_output p l ≡ true → is_of_output n l ≡ false
      other e = ap (λ (m : List ℕ). bytes_eq m n) (sym (alike p l e).name) ∙ none

      by :
          (b : Bool) → same_output p l ≡ b → list_any (is_of_output n) (filter (λ q. not (same_output p q)) ls) ≡ list_any (is_of_output n) ls →
          list_any (is_of_output n) (cond (not b) (l ∷ filter (λ q. not (same_output p q)) ls) (filter (λ q. not (same_output p q)) ls))
          ≡ (is_of_output n l || list_any (is_of_output n) ls)
      by true e rest = rest ∙ ap (λ b. b || list_any (is_of_output n) ls) (sym (other e))
      by false e rest = ap (λ b. is_of_output n l || b) rest

  pub any_leader : (ps : List Piece) → list_any (is_of_output n) (leaders ps) ≡ list_any (is_of_output n) ps
  any_leader [] = refl
  any_leader (p ∷ ps) = by (is_of_output n p) refl (any_leader ps)
    where
      by :
          (b : Bool) → is_of_output n p ≡ b → list_any (is_of_output n) (leaders ps) ≡ list_any (is_of_output n) ps →
          (is_of_output n p || list_any (is_of_output n) (filter (λ q. not (same_output p q)) (leaders ps))) ≡ (is_of_output n p || list_any (is_of_output n) ps)
      by true e rest = rw e refl
      by false e rest = ap (λ b. is_of_output n p || b) (left_out p e (leaders ps) ∙ rest)

  pub named_where : (objects : List LoadedObject) (o : OutputSections) → AreOutputSections objects o → list_any (is_named n) o.sections.items ≡ has_output objects n
  named_where objects o are =
      sym (any_map (has_name n) output_view o.sections.items)
      ∙ ap (list_any (has_name n)) are.sections_are
      ∙ any_map (has_name n) output_of (leaders (kept_sections objects))
      ∙ any_leader (kept_sections objects)

pub nothing_left : (b : Bool) → (b || false) ≡ b
nothing_left true = refl
nothing_left false = refl

-- a name more
pub name_more : (here old rest whole new : Bool) → new ≡ (here || old) → (old || (here || rest)) ≡ whole → (new || rest) ≡ whole
name_more true true rest whole new is so_far = ap (λ b. b || rest) is ∙ so_far
name_more true false rest whole new is so_far = ap (λ b. b || rest) is ∙ so_far
name_more false old rest whole new is so_far = ap (λ b. b || rest) is ∙ so_far
