-- What the comparison of bytes may rest on, and what it finds.
use Rattle.std.specs.Prelude.{◌≡◌, ℕ, ◌+◌, ◌-◌, ◌<◌, ◌≤◌, ◌==◌, ◌&&◌, Bool, List, [], Any, AllPairs, All, Option, Some, None, filter, find, length, nat_le, nat_lt, option_map, slice_index, unwrap_or}
use Rattle.std.specs.List.{slice_get}
use Rattle.std.specs.Global.{Vec}
use Rattle.byteview.specs.Numbers.{le_bytes}
use Rattle.elf_model.specs.Image.MemoryImage.{Encloses, loads}
use Rattle.elf_model.specs.Link.Pieces.{load_size}
use Rattle.elf_model.specs.Link.Placement as placement
use Rattle.elf_model.specs.Image.RightLink.{byte_at}
use Rattle.check_relocs.specs.Fields.{IsBefore}
use Rattle.check_link.specs.Views.{piece_view}
use Rattle.check_relocs.specs.declared.fields.Field.{Field}
use Rattle.check_link.specs.declared.things.Placed.{Placed}

-- a piece that takes up memory lies whole in a segment of the image, and no piece has more input bytes than its size
pub record LiesWhole (image : List ℕ) (q : Placed) : Type 0 where
  pub encloses : 0 < load_size (piece_view q.piece) → Any (λ h. Encloses h q.at (load_size (piece_view q.piece))) (loads image)
  pub short : length q.piece.bytes.now ≤ q.piece.header.sh_size

-- byte k of a section lies in the field
abbrev pub covers : ℕ → Field → Bool
covers k f = nat_le f.at k && nat_lt k (f.at + f.width)

-- byte k of a field's value, or of the bytes where no field has it
abbrev pub byte_of : List ℕ → ℕ → Option Field → ℕ
byte_of bytes k None = slice_index bytes k
byte_of bytes k (Some f) = slice_index (le_bytes f.width f.value) (k - f.at)

-- the fields of a section in its object's row
abbrev pub is_of : ℕ → Field → Bool
is_of section f = f.section == section

abbrev pub row_of : List (Vec Field) → ℕ → List Field
row_of rows object = unwrap_or (option_map (λ row. row.items) (slice_get rows object)) []

abbrev pub fields_in : List (Vec Field) → ℕ → ℕ → List Field
fields_in rows object section = filter (is_of section) (row_of rows object)

-- a field lies inside so many bytes, and is no wider than a value
pub record FitsIn (size : ℕ) (f : Field) : Type 0 where
  pub inside : f.at + f.width ≤ size
  pub narrow : f.width ≤ 8

-- a field ends before the other begins
abbrev pub EndsBefore : Field → Field → Type 0
EndsBefore f g = f.at + f.width ≤ g.at

-- the fields of a piece's section, in the row of its object, lie inside the piece
abbrev pub HasFieldsInside : List Field → Placed → Type 0
HasFieldsInside row q = All (FitsIn q.piece.header.sh_size) (filter (is_of q.piece.section) row)

-- each row has fields of which each ends before all later ones begin
abbrev pub AreRising : List (Vec Field) → Type 0
AreRising rows = All (λ row. AllPairs IsBefore row.items) rows

-- bytes from one on and below another are the wanted ones
abbrev pub WantedFrom : List ℕ → List ℕ → List Field → ℕ → ℕ → Type 0
WantedFrom held bytes fs from to =
    (k : ℕ) → from ≤ k → k < to → slice_index held k ≡ byte_of bytes k (find (covers k) fs)

-- at each address that a piece takes up memory has the byte of the field's value, by the row of the piece's object,
-- else the input's, and 0 where the input has none
pub record HoldsFields (image : List ℕ) (row : List Field) (q : placement.Placed) : Type 0 where
  pub bytes :
      (k : ℕ) → k < load_size q.piece
      → byte_at image (q.at + k) ≡ Some (byte_of q.piece.bytes k (find (covers k) (filter (is_of q.piece.section) row)))
