-- The images of a list's elements as they are listed one after the other.
use Rattle.std.proofs.Common.{◌≡◌, List, [], ◌∷◌, ◌++◌, map, sym, ap, ◌∙◌}
use Rattle.std.proofs.lemmas.List.{append_assoc, map-append}

-- the images of the front of what is left are put behind the others
pub append_mapped :
    {X Y : Type 0} (f : X → Y) (out new : List Y) (here rest more : List X) (whole : List Y) →
    new ≡ out ++ map f here → rest ≡ here ++ more → out ++ map f rest ≡ whole → new ++ map f more ≡ whole
append_mapped {X} {Y} f out new here rest more whole added parts so_far =
    ap (λ (ys : List Y). ys ++ map f more) added
    ∙ (append_assoc out (map f here) (map f more)
    ∙ (ap (λ (ys : List Y). out ++ ys) (sym (map-append f here more))
    ∙ (ap (λ (xs : List X). out ++ map f xs) (sym parts) ∙ so_far)))

-- the same of one image
pub push_mapped :
    {X Y : Type 0} (f : X → Y) (out new : List Y) (y : Y) (x : X) (rest more : List X) (whole : List Y) →
    new ≡ out ++ y ∷ [] → y ≡ f x → rest ≡ x ∷ more → out ++ map f rest ≡ whole → new ++ map f more ≡ whole
push_mapped {X} {Y} f out new y x rest more whole pushed is parts so_far =
    append_mapped f out new (x ∷ []) rest more whole (pushed ∙ ap (λ (z : Y). out ++ z ∷ []) is) parts so_far
