-- Two pieces that aren't near.
use Rattle.std.specs.Prelude.{◌≡◌, ℕ, List, Some}
use Rattle.std.specs.List.{slice_get}
use Rattle.elf_model.specs.Link.Placement.{IsNear, IsNext, Placed}
use Rattle.check_link.specs.Views.{placed_view}
use Rattle.check_link.specs.declared.things.Placed as code

-- two pieces of a list, the second one the next of an output section after the first one, that aren't near
pub record AreFar (ps : List Placed) (p q : code.Placed) : Type 0 where
  pub i : ℕ
  pub j : ℕ
  pub first : slice_get ps i ≡ Some (placed_view p)
  pub second : slice_get ps j ≡ Some (placed_view q)
  pub next : (d : Placed) → IsNext ps i j d
  pub wrong : ¬ IsNear (placed_view p) (placed_view q)
