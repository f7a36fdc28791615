-- How far the pieces of a link are compared with memory, object by object.
use Rattle.std.specs.Prelude.{◌≡◌, ℕ, ◌<◌, ◌≤◌, ◌↔◌, Bool, true, List, [], All, AllPairs, Contains, length, slice_index_or}
use Rattle.elf_model.specs.Link.Loading.{LoadedObject}
use Rattle.elf_model.specs.Link.Placement.{Placed}
use Rattle.elf_model.specs.Image.RightLink.{HoldsPiece, Subject, objects_of, placed_of, where_of}
use Rattle.check_relocs.specs.Fields.{IsRowOf}
use Rattle.check_relocs.specs.declared.fields.Field.{Field}

-- the fields of the object that has a number, in order; none where there is no such object
pub record IsRowAt (s : Subject) (n : ℕ) (row : List Field) : Type 0 where
  pub there : (o : LoadedObject) → n < length (objects_of s) → IsRowOf (objects_of s) (where_of s) n (slice_index_or (objects_of s) n o) row
  pub past : length (objects_of s) ≤ n → row ≡ []

-- placed pieces of the object that has a number
pub record AreOwn (s : Subject) (n : ℕ) (qs : List Placed) : Type 0 where
  pub among : All (Contains (placed_of s)) qs
  pub own : All (λ q. q.piece.object ≡ n) qs

-- memory holds the wanted bytes of pieces
abbrev pub AreHeld : Subject → List Placed → Type 0
AreHeld s qs = All (HoldsPiece (objects_of s) (where_of s) s.image) qs

-- placed pieces, by objects, of which the first objects have none
pub record AreLeft (s : Subject) (n : ℕ) (qs : List Placed) : Type 0 where
  pub among : All (Contains (placed_of s)) qs
  pub from : All (λ q. n ≤ q.piece.object) qs
  pub rising : AllPairs (λ p q. p.piece.object ≤ q.piece.object) qs

-- memory holds the wanted bytes of all pieces just where it held those of the pieces of the first objects, and holds
-- those of the pieces that are left
pub record AreCompared (s : Subject) (n : ℕ) (held : Bool) (left : List Placed) : Type 0 where
  pub left_are : AreLeft s n left
  pub tells : AreHeld s (placed_of s) ↔ ((held ≡ true) × AreHeld s left)
