-- One step of the rule on neighbours, at a piece as the checker has it.
use Rattle.std.proofs.Common.{◌≡◌, ℕ, ◌+◌, ◌<◌, Bool, true, Option, Some, None, List, length, get_or, sym, subst, arith}
use Rattle.std.specs.Prelude.{IfSome, IsTrue, slice_index_or}
use Rattle.std.proofs.lemmas.List.{get_or-map, length-map}
use Rattle.elf_model.specs.Link.Placement as placement
use Rattle.elf_model.specs.Link.Placement.{IsNear, IsNext}
use Rattle.check_link.specs.OutputSections.{IsOutputSection}
use Rattle.check_link.specs.Views.{placed_view, placed_views}
use Rattle.check_link.specs.declared.output_sections.OutputSection.{OutputSection}
use Rattle.check_link.specs.declared.things.Placed.{Placed}
use Rattle.check_places.specs.Neighbours.{over_last}
use Rattle.check_places.proofs.NextPieces.{IsLast, LastsAre, NearFrom, StandsAt, last_is_next, lasts_more, near_more, near_stop}
use Rattle.elf_model.proofs.Rests.{Left}

abbrev pub NearLast : List Placed → Placed → Option ℕ → Type 0
NearLast placed next o = IfSome o (λ i. IsNear (placed_view (get_or placed i next)) (placed_view next))

module _ (placed : List Placed) (j : ℕ) (d : Placed) (within : j < length placed) where
  abbrev next : Placed
  next = get_or placed j d

  abbrev all : List placement.Placed
  all = placed_views placed

  stands : (i : ℕ) (e : Placed) → i < length placed → StandsAt all i (placed_view (get_or placed i e))
  stands i e inside = λ f. get_or-map placed_view placed i e f inside

  there : j < length all
  there = let n = length-map placed placed_view in omega (arith, n, within)

  -- piece j is the last one of its output section
  pub placed_next :
      (s : OutputSection) (f g : OutputSection → Option ℕ) → IsOutputSection (placed_view next).piece s →
      ((t : OutputSection) → g t ≡ over_last s j f t) → LastsAre all j f → LastsAre all (j + 1) g
  placed_next s f g is more lasts = lasts_more all j (placed_view next) s f g (stands j d within) is more lasts

  module _ (s : OutputSection) (f : OutputSection → Option ℕ) (o : Option ℕ) (is : IsOutputSection (placed_view next).piece s) (lasts : LastsAre all j f) (old : o ≡ f s) where
    last : IsLast all j (placed_view next).piece o
    last = subst (IsLast all j (placed_view next).piece) (sym old) (lasts (placed_view next).piece s is)

    inside_of : (p : Option ℕ) → IsLast all j (placed_view next).piece p → IfSome p (λ i. i < length placed)
    inside_of None l = tt
    inside_of (Some i) l = let b = l.before in omega (arith, b, within)

    -- what is known of it is a piece
    pub last_within : IfSome o (λ i. i < length placed)
    last_within = inside_of o last

    next_after : (p : Option ℕ) → IsLast all j (placed_view next).piece p → IfSome p (λ i. (e : placement.Placed) → IsNext all i j e)
    next_after None l = tt
    next_after (Some i) l = λ e. last_is_next all j (placed_view next) (stands j d within) there i e l

    -- and piece j comes next after it
    pub is_next : IfSome o (λ i. (e : placement.Placed) → IsNext all i j e)
    is_next = next_after o last

    near_everywhere :
        (p : Option ℕ) → IfSome p (λ i. i < length placed) → NearLast placed next p →
        IfSome p (λ i. (e : placement.Placed) → IsNear (slice_index_or all i e) (placed_view next))
    near_everywhere None inside near = tt
    near_everywhere (Some i) inside near = λ e. subst (λ (p : placement.Placed). IsNear p (placed_view next)) (sym (stands i next inside e)) near

    stop :
        (Q : Type 0) (p : Option ℕ) → IsLast all j (placed_view next).piece p → IfSome p (λ i. i < length placed) →
        (NearLast placed next p → ⊥) → Left Q (NearFrom all j) → Q → ⊥
    stop Q None l inside never q h = never tt
    stop Q (Some i) l inside never q h =
        near_stop all j (placed_view next) (stands j d within) there Q i (placed_view next) l
        (λ near. never (subst (λ (p : placement.Placed). IsNear p (placed_view next)) (stands i next inside (placed_view next)) near)) q h

    module _ (b : Bool) (near : (IsTrue b → NearLast placed next o) × (NearLast placed next o → IsTrue b)) (Q : Type 0) where
      pub step_more : b ≡ true → Left Q (NearFrom all j) → Left Q (NearFrom all (j + 1))
      step_more yes_near q =
          near_more all j (placed_view next) (stands j d within) there Q o last (near_everywhere o last_within (near.0 yes_near)) q

      pub step_stop : (b ≡ true → ⊥) → Left Q (NearFrom all j) → Q → ⊥
      step_stop never q h = stop Q o last last_within (λ n. never (near.1 n)) q h
