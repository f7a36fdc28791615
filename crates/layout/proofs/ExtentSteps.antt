-- The extents of output names, once a piece is taken into the one of its name.
use Rattle.std.proofs.Common.{◌≡◌, ℕ, ◌+◌, Bool, true, false, cond, max, List, Option, None, Some, option_map, refl, sym, ◌∙◌, ap}
use Rattle.std.specs.BTreeMap.{BTreeMap}
use Rattle.std.specs.Borrow.{Bor}
use Rattle.std.specs.Option.{option_map_or}
use Rattle.std.specs.Str.{bytes_eq}
use Rattle.std.proofs.lemmas.Slice.Eq.{bytes_eq-Decides}
use Rattle.elf_model.specs.Link.LinkerValues.{least_of}
use Rattle.elf_model.specs.Link.Pieces.{is_of_output, output_name}
use Rattle.elf_model.specs.Link.Placement.{Placed}
use Rattle.elf_model.proofs.PieceBounds.{earlier, further}
use Rattle.layout.specs.PieceParts.{IsLast, extent_in, extent_with}
use Rattle.layout.specs.declared.bounds.Extent.{Extent}
use Rattle.layout.specs.declared.bounds.Last.{Last}

abbrev start_at : Option Extent → Option ℕ
start_at o = option_map (λ e. e.start) o

abbrev end_at : Option Extent → ℕ
end_at o = option_map_or (λ e. e.end) o 0

module _ (old new : List ℕ → Option Extent) (name : List ℕ) (v : Extent) (q : Placed) (is : name ≡ output_name q.piece.name) (got : (n : List ℕ) → new n ≡ cond (bytes_eq name n) (Some v) (old n)) where
  tested : (n : List ℕ) → is_of_output n q.piece ≡ bytes_eq name n
  tested n = ap (λ (m : List ℕ). bytes_eq m n) (sym is)

  pub taken_start : v.start ≡ least_of q.at (start_at (old name)) → (n : List ℕ) → start_at (new n) ≡ earlier (is_of_output n) (start_at (old n)) q
  taken_start start n =
      ap start_at (got n)
      ∙ by (bytes_eq name n) refl
      ∙ sym (ap (λ b. cond b (Some (least_of q.at (start_at (old n)))) (start_at (old n))) (tested n))
    where
      by : (b : Bool) → bytes_eq name n ≡ b →
          start_at (cond (bytes_eq name n) (Some v) (old n)) ≡ cond (bytes_eq name n) (Some (least_of q.at (start_at (old n)))) (start_at (old n))
      by true e =
          rw e (ap (λ (k : ℕ). Some k) (start ∙ ap (λ (m : List ℕ). least_of q.at (start_at (old m))) ((bytes_eq-Decides name n).0 e)))
      by false e = rw e refl

  pub taken_end : v.end ≡ max (end_at (old name)) (q.at + q.piece.size) → (n : List ℕ) → end_at (new n) ≡ further (is_of_output n) (end_at (old n)) q
  taken_end end n =
      ap end_at (got n)
      ∙ by (bytes_eq name n) refl
      ∙ sym (ap (λ b. cond b (max (end_at (old n)) (q.at + q.piece.size)) (end_at (old n))) (tested n))
    where
      by : (b : Bool) → bytes_eq name n ≡ b →
          end_at (cond (bytes_eq name n) (Some v) (old n)) ≡ cond (bytes_eq name n) (max (end_at (old n)) (q.at + q.piece.size)) (end_at (old n))
      by true e = rw e (end ∙ ap (λ (m : List ℕ). max (end_at (old m)) (q.at + q.piece.size)) ((bytes_eq-Decides name n).0 e))
      by false e = rw e refl

abbrev Extents : Type 0
Extents = BTreeMap (Bor (List ℕ)) Extent

-- the extent of the last name is that of the table and it
pub last_at : (last : Option Last) (extents : Extents) (name : List ℕ) (e : Extent) → IsLast last name e → extent_with last extents name ≡ Some e
last_at None extents name e is = absurd is
last_at (Some l) extents name e is =
    ap (λ b. cond b (Some l.extent) (extent_in extents name)) ((bytes_eq-Decides l.name.now name).1 is.0) ∙ ap (λ (x : Extent). Some x) is.1

-- another extent of the last name
pub last_more :
    (last : Option Last) (extents : Extents) (name : List ℕ) (e v : Extent) → IsLast last name e → (n : List ℕ) →
    cond (bytes_eq name n) (Some v) (extent_in extents n) ≡ cond (bytes_eq name n) (Some v) (extent_with last extents n)
last_more None extents name e v is n = absurd is
last_more (Some l) extents name e v is n = by (bytes_eq name n) refl
  where
    by : (b : Bool) → bytes_eq name n ≡ b → cond b (Some v) (extent_in extents n) ≡ cond b (Some v) (extent_with (Some l) extents n)
    by true t = refl
    by false t = sym (ap (λ b. cond b (Some l.extent) (extent_in extents n)) (ap (λ (m : List ℕ). bytes_eq m n) is.0 ∙ t))
