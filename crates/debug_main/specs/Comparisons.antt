-- Bytes that are compared with an image one after the other.
use Rattle.std.specs.Prelude.{ℕ, List, ◌∷◌, ◌++◌, Option, length, take}
use Rattle.std.specs.Option.{option_to_list}

-- what was taken: so many bytes of the image, and then one that isn't the image's
abbrev pub taken_of : List ℕ → ℕ → Option ℕ → List ℕ
taken_of image same wrong = take same image ++ option_to_list wrong

-- the same behind the image, so that it says of which image it is
abbrev pub marked : List ℕ → List ℕ → List ℕ
marked image bytes = length image ∷ (image ++ bytes)
