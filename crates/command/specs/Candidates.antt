-- A list of texts without repeats, as it grows.
use Rattle.std.specs.Prelude.{◌≡◌, ℕ, Bool, if◌then◌else◌, List, [], ◌∷◌, ◌++◌, String}
use Rattle.std.specs.List.{list_any}
use Rattle.std.specs.Str.{bytes_eq}
use Rattle.std.specs.BTreeSet.{BTreeSet, contains_text}
use Rattle.std.specs.declared.alloc.Global.{Global}

-- a text is among some
abbrev pub is_in : List (List ℕ) → List ℕ → Bool
is_in xs x = list_any (bytes_eq x) xs

-- some texts with one more, or with more in turn, where they are new
abbrev pub with : List (List ℕ) → List ℕ → List (List ℕ)
with xs x = if is_in xs x then xs else xs ++ x ∷ []

abbrev pub with_all : List (List ℕ) → List (List ℕ) → List (List ℕ)
with_all xs [] = xs
with_all xs (y ∷ ys) = with_all (with xs y) ys

-- the set has just these texts
abbrev pub HasTexts : BTreeSet (String Global) → List (List ℕ) → Type 0
HasTexts seen xs = (x : List ℕ) → contains_text seen x ≡ is_in xs x
