-- Words on the places of sections and common blocks, for this crate's own functions.
use Rattle.std.specs.Prelude.{◌≡◌, ◌⊎◌, ℕ, ◌+◌, ◌^◌, ◌<◌, ◌%◌, Bool, false, true, IfSome, List, None, bit_and, find}
use Rattle.elf_model.specs.Image.MemoryImage.{Encloses}
use Rattle.elf_model.specs.Image.MapRecord.{CommonRow}
use Rattle.elf_model.specs.Image.MapText.{Ascends, CommonBefore, DropBefore, PlaceBefore}
use Rattle.elf_model.specs.Image.RightLink.{HasCommonLine}
use Rattle.elf_model.specs.Link.LinkerValues.{start_of_pieces}
use Rattle.elf_model.specs.Link.Loading.{LoadedObject}
use Rattle.elf_model.specs.Link.Pieces.{is_of_output, is_thread_zero}
use Rattle.elf_model.specs.Link.Placement.{Placed, is_common_row_of, thing_of}
use Rattle.elf_model.specs.declared.records.ProgramHeader.{ProgramHeader}
use Rattle.std.specs.Borrow.{Bor}
use Rattle.std.specs.BTreeMap.{BTreeMap}
use Rattle.check_link.specs.ByName.{found_in}
use Rattle.check_link.specs.Outputs.{start_of}
use Rattle.check_link.specs.declared.bounds.Span.{Span}
use Rattle.judge_model.specs.Certificates.{CertificateRecord, MergedBefore, NameRowBefore, StretchBefore}
use Rattle.judge_model.specs.Placed.{HasPlace, needed_rights}
use Rattle.judge_model.specs.Plans as plans
use Rattle.place_judge.specs.declared.starts.Start.{Start}

-- the address of a piece is a multiple of its alignment
abbrev pub IsAligned : Placed → Type 0
IsAligned q = q.at % q.piece.align ≡ 0

-- a segment has a piece, with the rights that it needs
abbrev pub HasPiece : Placed → ProgramHeader → Type 0
HasPiece q h =
    Encloses h q.at (thing_of q).size × (bit_and h.p_flags (needed_rights q.piece.header) ≡ needed_rights q.piece.header)

-- one does, or the piece is empty and near, unless it is of zeros of thread-local storage
abbrev pub LiesIfThere : List ProgramHeader → Placed → Type 0
LiesIfThere hs q = is_thread_zero q.piece ≡ false → HasPlace hs q

-- the end of a segment's file part is an address
abbrev pub Fits : ProgramHeader → Type 0
Fits h = h.p_vaddr + h.p_filesz < 2 ^ 64

-- an output section that is to begin at an address, as the plan has it; it does so where there is anything of it
abbrev pub start_view : Start → plans.Start
start_view s = record { name = s.name.now; address = s.address }

pub record IsStartIn (spans : BTreeMap (Bor (List ℕ)) Span) (s : Start) : Type 0 where
  pub starts : IfSome (start_of (found_in spans s.name.now)) (λ a. a ≡ s.address)

abbrev pub StartsAt : List Placed → plans.Start → Type 0
StartsAt qs s = IfSome (start_of_pieces (is_of_output s.name) qs) (λ a. a ≡ s.address)

-- the common line of a name is that of its block; where sections may be left out there may be none
abbrev pub IsCommonIn : List CommonRow → List LoadedObject → Bool → List ℕ → Type 0
IsCommonIn rows objects collects name =
    HasCommonLine rows objects name ⊎ ((collects ≡ true) × (find (is_common_row_of name) rows ≡ None))

-- the lines of sections come by object and section, those of notes and areas by address, those of merged strings and constants by
-- object, section and offset, those of common blocks and of names by name
pub record AreSectionsInOrder (c : CertificateRecord) : Type 0 where
  pub drops : Ascends DropBefore c.drops
  pub places : Ascends PlaceBefore c.places

pub record AreStretchesInOrder (c : CertificateRecord) : Type 0 where
  pub notes : Ascends StretchBefore c.notes
  pub areas : Ascends StretchBefore c.areas
  pub merged : Ascends MergedBefore c.merged
  pub frames : Ascends MergedBefore c.frames

pub record AreTextsInOrder (c : CertificateRecord) : Type 0 where
  pub commons : Ascends CommonBefore c.commons
  pub names : Ascends NameRowBefore c.names
