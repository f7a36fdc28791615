-- Whether one of the objects, as the definitions see them, passes a test.
use Rattle.std.specs.Prelude.{◌≡◌, ◌||◌, Bool, List, [], ◌∷◌, map}
use Rattle.std.specs.List.{list_any}
use Rattle.std.proofs.Common.{ap, refl}

pub any_of_views : {X Y : Type 0} (p : X → Bool) (h : Y → X) (ys : List Y) → list_any p (map h ys) ≡ list_any (λ y. p (h y)) ys
any_of_views p h [] = refl
any_of_views p h (y ∷ ys) = ap (λ (b : Bool). p (h y) || b) (any_of_views p h ys)
