-- Lists of what there is.
use Rattle.std.specs.Prelude.{List, [], ◌∷◌, Option, None, Some}

abbrev pub some_list : {X : Type 0} → Option X → List X
some_list None = []
some_list (Some x) = x ∷ []
