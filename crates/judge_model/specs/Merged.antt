-- F4. Strings and constants that linkers merge (System V gABI 4, SHF_MERGE, SHF_STRINGS). Such a section is a list of pieces: strings
-- with the zero that ends each, or constants of one size. The image has any of them anywhere, each whole and in one place, so that
-- all that names a byte of one finds the bytes beside it too; those that are alike may share their place. They are in areas of
-- memory that isn't written and has nothing else.
use Rattle.std.specs.Prelude.{◌≡◌, ◌⊎◌, ℕ, suc, ◌+◌, ◌-◌, ◌*◌, ◌%◌, ◌<◌, ◌≤◌, ◌==◌, ◌&&◌, ◌||◌, Bool, true, false, List, All, Any, IsSomeAnd, bit_and, find, is_some, length}
use Rattle.std.specs.Int.{◌∣◌}
use Rattle.byteview.specs.Numbers.{part}
use Rattle.elf_model.specs.Image.MemoryImage.{loads}
use Rattle.elf_model.specs.Link.Pieces.{Piece, has_flag}
use Rattle.elf_model.specs.declared.constants.TheConstants.{PF_R, PF_W, SHF_STRINGS}
use Rattle.elf_model.specs.declared.records.ProgramHeader.{ProgramHeader}
use Rattle.judge_model.specs.Links.{ForeignLink, merged_of}
use Rattle.judge_model.specs.Memory.{Holds}
use Rattle.judge_model.specs.declared.certificate.MergedLine.{MergedLine}
use Rattle.judge_model.specs.declared.certificate.StretchLine.{StretchLine}

-- Pieces of a section's bytes, by its sh_entsize e.

-- the e bytes at an offset are zeros
abbrev pub IsZeroUnit : List ℕ → ℕ → ℕ → Type 0
IsZeroUnit bytes e at = All (λ b. b ≡ 0) (part bytes at e)

-- A string of some characters of e bytes each, of which the last one alone is zero. It begins the section, or behind the zero of
-- another one.
pub record IsString (bytes : List ℕ) (e offset size : ℕ) : Type 0 where
  pub some : 0 < size
  pub units : (offset % e ≡ 0) × (size % e ≡ 0)
  pub inside : offset + size ≤ length bytes
  pub first : (offset ≡ 0) ⊎ IsZeroUnit bytes e (offset - e)
  pub last : IsZeroUnit bytes e (offset + size - e)
  pub whole : (j : ℕ) → suc j * e < size → ¬ IsZeroUnit bytes e (offset + j * e)

pub record IsConstant (bytes : List ℕ) (e offset size : ℕ) : Type 0 where
  pub unit : size ≡ e
  pub inside : offset + size ≤ length bytes
  pub aligned : offset % e ≡ 0

pub record IsPiece (p : Piece) (offset size : ℕ) : Type 0 where
  pub string : has_flag SHF_STRINGS p.header ≡ true → IsString p.bytes p.header.sh_entsize offset size
  pub constant : has_flag SHF_STRINGS p.header ≡ false → IsConstant p.bytes p.header.sh_entsize offset size

-- The address of a piece is as aligned as its place in the section: what divides the section's alignment and the offset divides it.
abbrev pub IsAlignedLike : ℕ → ℕ → ℕ → Type 0
IsAlignedLike align offset address = (d : ℕ) → d ∣ align → d ∣ offset → d ∣ address

-- Lines.

abbrev pub is_section_of : MergedLine → Piece → Bool
is_section_of m p = p.object == m.object && p.section == m.section

abbrev pub IsWithin : MergedLine → StretchLine → Type 0
IsWithin m a = (a.address ≤ m.address) × (m.address + m.size ≤ a.address + a.size)

pub record IsPieceRight (image : List ℕ) (m : MergedLine) (p : Piece) : Type 0 where
  pub piece : IsPiece p m.offset m.size
  pub aligned : IsAlignedLike p.align m.offset m.address
  pub holds : Holds image m.address (part p.bytes m.offset m.size)

-- of an image, with the sections that the linker merged, and areas
pub record IsMergedRight (image : List ℕ) (ps : List Piece) (areas : List StretchLine) (m : MergedLine) : Type 0 where
  pub section : IsSomeAnd (find (is_section_of m) ps) (IsPieceRight image m)
  pub area : Any (IsWithin m) areas

-- Areas.

-- memory that the file fills and that isn't written, unless the words or a script ask for memory that is written and executed
abbrev pub may_write_all : ForeignLink → Bool
may_write_all l = l.plan.writes_code || is_some l.plan.script

pub record HoldsArea (anyway : Bool) (a : StretchLine) (h : ProgramHeader) : Type 0 where
  pub inside : (h.p_vaddr ≤ a.address) × (a.address + a.size ≤ h.p_vaddr + h.p_filesz)
  pub read : bit_and h.p_flags PF_R ≡ PF_R
  pub kept : anyway ≡ false → bit_and h.p_flags PF_W ≡ 0

-- What no piece has of an area is fill (F10).
pub record AreMergedRight (l : ForeignLink) : Type 0 where
  pub pieces : All (IsMergedRight l.image (merged_of l) l.certificate.areas) l.certificate.merged
  pub areas : All (λ a. Any (HoldsArea (may_write_all l) a) (loads l.image)) l.certificate.areas
