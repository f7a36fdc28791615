-- The statement that a certificate leaves no byte of a section open, but those by which code finds slots, and code that has what
-- such slots hold.
use Rattle.std.specs.Prelude.{◌≡◌, ℕ, ◌+◌, ◌<◌, List, All, None, IfSome, false}
use Rattle.std.specs.List.{slice_get}
use Rattle.elf_model.specs.Image.MemoryImage.{thread_blocks}
use Rattle.elf_model.specs.Image.RightLink.{byte_at}
use Rattle.elf_model.specs.Link.Pieces.{load_size}
use Rattle.elf_model.specs.Link.Placement.{Placed}
use Rattle.elf_model.specs.Link.Relocation.{Relocation}
use Rattle.elf_model.specs.Link.Slots.{slot_kind_of}
use Rattle.judge_model.specs.Fields.{IsInPlace, field_address, kind_of, width_of}
use Rattle.judge_model.specs.Links.{ForeignLink, placed_of, relocations_of}
use Rattle.judge_model.specs.Means.{is_in_list}
use Rattle.judge_model.specs.RightForeign.{IsShown}
use Rattle.judge_model.specs.ThreadBlocks.{thread_pointer}

-- the same link with another image
abbrev pub with_image : ForeignLink → List ℕ → ForeignLink
with_image l image = record { plan = l.plan; files = l.files; image = image; certificate = l.certificate }

-- images have one thread pointer: the block may be told with or without its empty sections, whose alignment moves it
abbrev pub pointer_of : List ℕ → ℕ
pointer_of image = thread_pointer (slice_get (thread_blocks image) 0)

-- byte k of a section is in no place of a relocation
abbrev pub IsOutside : ForeignLink → Placed → ℕ → Type 0
IsOutside l q k = All (λ r. r.object ≡ q.piece.object → r.section ≡ q.piece.section → ¬ IsInPlace r k) (relocations_of l)

-- the relocation asks for no slot
abbrev pub HasNoSlot : Relocation → Type 0
HasNoSlot r = IfSome (kind_of r) (λ k. slot_kind_of k.formula ≡ None)

-- two images hold the same bytes of each section outside of places, and in each field by which no slot is found, but for call frames
-- in the linker's list
abbrev pub AreSameOutside : ForeignLink → List ℕ → Placed → Type 0
AreSameOutside l image q =
    (k : ℕ) → k < load_size q.piece → IsOutside l q k → byte_at l.image (q.at + k) ≡ byte_at image (q.at + k)

abbrev pub AreSameInField : ForeignLink → List ℕ → Relocation → Type 0
AreSameInField l image r =
    is_in_list l r ≡ false → HasNoSlot r
    → (j : ℕ) → j < width_of r → byte_at l.image (field_address l r + j) ≡ byte_at image (field_address l r + j)

pub record HoldTheSame (l : ForeignLink) (image : List ℕ) : Type 0 where
  pub sections : All (AreSameOutside l image) (placed_of l)
  pub fields : All (AreSameInField l image) (relocations_of l)

-- right links of one certificate and one thread pointer do
abbrev pub RightLinksHoldTheSame : Type 0
RightLinksHoldTheSame =
    (l : ForeignLink) (image : List ℕ)
    → IsShown l
    → IsShown (with_image l image)
    → pointer_of l.image ≡ pointer_of image
    → HoldTheSame l image
