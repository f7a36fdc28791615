-- The order of the pieces of an output section (profile; GNU ld's SORT_BY_INIT_PRIORITY sorts arrays of functions alike):
-- sections that are named .init_array.N or .fini_array.N come first, by the number N, then all others; those of one
-- number, and the others, in load order.
use Rattle.std.specs.Prelude.{ℕ, ◌&&◌, ◌||◌, Bool, cond, List, [], ◌∷◌, codes, drop, length, nat_eq, nat_le}
use Rattle.std.specs.Char.{is_ascii_digit}
use Rattle.std.specs.List.{list_all, starts_with}
use Rattle.std.specs.Str.Parse.{digits_value}
use Rattle.elf_model.specs.Link.Pieces.{Piece}
use Rattle.elf_model.specs.Link.Placement.{Placed}

-- 1 to 5 decimal digits
abbrev pub is_short_number : List ℕ → Bool
is_short_number digits = nat_le 1 (length digits) && nat_le (length digits) 5 && list_all is_ascii_digit digits

-- a name is .init_array. or .fini_array., both of 12 bytes, with such a number behind it
abbrev pub is_array_prefixed : List ℕ → Bool
is_array_prefixed name = starts_with nat_eq name (codes ".init_array.") || starts_with nat_eq name (codes ".fini_array.")

abbrev pub is_numbered : List ℕ → Bool
is_numbered name = is_array_prefixed name && is_short_number (drop 12 name)

-- the rank of a section by its name: its number, or what is above all numbers
unfoldable pub array_rank : List ℕ → ℕ
array_rank name = cond (is_numbered name) (digits_value 10 (drop 12 name)) 100000

-- an element in front of the first one whose rank is no lower
abbrev pub inserted : {X : Type 0} → (X → ℕ) → X → List X → List X
inserted rank x [] = x ∷ []
inserted rank x (y ∷ ys) = cond (nat_le (rank x) (rank y)) (x ∷ y ∷ ys) (y ∷ inserted rank x ys)

-- a list by rising ranks, the elements of one rank as they stood
abbrev pub by_rank : {X : Type 0} → (X → ℕ) → List X → List X
by_rank rank [] = []
by_rank rank (x ∷ xs) = inserted rank x (by_rank rank xs)

-- pieces, and pieces at addresses, in this order
abbrev pub piece_rank : Piece → ℕ
piece_rank p = array_rank p.name

abbrev pub in_array_order : List Piece → List Piece
in_array_order ps = by_rank piece_rank ps

abbrev pub placed_rank : Placed → ℕ
placed_rank q = piece_rank q.piece

abbrev pub placed_in_array_order : List Placed → List Placed
placed_in_array_order qs = by_rank placed_rank qs
