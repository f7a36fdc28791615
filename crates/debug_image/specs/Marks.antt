-- How many fields a byte of a section lies in, counted up to two, as the code has it.
use Rattle.std.specs.Prelude.{ℕ, ◌==◌, Bool, cond, List, [], ◌∷◌, nat_le}
use Rattle.std.specs.List.{list_any}
use Rattle.debug_image.specs.DebugValues.{Field, covers}

abbrev pub one_more : ℕ → ℕ
one_more m = cond (m == 0) 1 2

-- the mark of byte k, which it had before some fields, behind them
abbrev pub mark_under : ℕ → ℕ → List Field → ℕ
mark_under k m [] = m
mark_under k m (f ∷ fs) = mark_under k (cond (covers k f) (one_more m) m) fs

-- a byte lies in two fields
abbrev pub is_twice : ℕ → Bool
is_twice m = nat_le 2 m

abbrev pub has_twice : List ℕ → Bool
has_twice marks = list_any is_twice marks
