-- Which members of which items are loaded, as lists without repeats.
use Rattle.std.specs.Prelude.{ℕ, ◌==◌, ◌&&◌, Bool, cond, List, [], ◌∷◌, ◌++◌}
use Rattle.std.specs.List.{list_any}

pub record TakenMembers : Type 0 where
  pub members : List (ℕ × ℕ)
  pub items : List ℕ

abbrev pub has_member : TakenMembers → ℕ → ℕ → Bool
has_member t item offset = list_any (λ m. item == m.0 && offset == m.1) t.members

abbrev pub has_item : TakenMembers → ℕ → Bool
has_item t item = list_any (λ i. item == i) t.items

-- with one member more, unless it is there
abbrev pub with_member_taken : TakenMembers → ℕ → ℕ → TakenMembers
with_member_taken t item offset = record {
  members = cond (has_member t item offset) t.members (t.members ++ (item, offset) ∷ []);
  items = cond (has_item t item) t.items (t.items ++ item ∷ []);
}
