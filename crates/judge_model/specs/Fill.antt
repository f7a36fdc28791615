-- F10. What memory has outside of headers, sections, common blocks, slots, notes, merged strings and constants, call frames: fill. Among the sections of .init and of
-- .fini it is executed, so there it is whole instructions that do nothing. Elsewhere among code it is such instructions and
-- breakpoints, and zeros behind them; and zeros where nothing is executed.
use Rattle.std.specs.Prelude.{◌≡◌, ◌⊎◌, ℕ, zero, suc, ◌+◌, ◌-◌, ◌<◌, ◌≤◌, ◌==◌, Bool, true, false, cond, List, [], ◌∷◌, Option, None, Some, All, Any, Contains, bit_and, codes, drop, find, length, nat_eq, nat_le}
use Rattle.std.specs.List.{prefix_len, slice_get, starts_with}
use Rattle.std.specs.Option.{option_and_then, option_map_or}
use Rattle.std.specs.Str.{bytes_eq}
use Rattle.elf_model.specs.Image.MemoryImage.{loads}
use Rattle.elf_model.specs.Link.LinkerValues.{start_of_pieces}
use Rattle.elf_model.specs.Link.Pieces.{Piece}
use Rattle.elf_model.specs.Link.Placement.{Covers, Placed}
use Rattle.elf_model.specs.Link.Relocation.{Relocation}
use Rattle.elf_model.specs.declared.constants.TheConstants.{PF_X}
use Rattle.elf_model.specs.declared.records.ProgramHeader.{ProgramHeader}
use Rattle.elf_model.specs.declared.bound.Bound.TheVariants.{ImageEnd, ZeroStart}
use Rattle.judge_model.specs.Certificates.{NameRow}
use Rattle.judge_model.specs.Names.{bound_of, is_some_zeros}
use Rattle.judge_model.specs.Fields.{HasSlotAt, slot_thing}
use Rattle.elf_model.specs.Link.Meaning.{object_meaning}
use Rattle.judge_model.specs.Links.{ForeignLink, objects_of, placed_of, relocations_of, sections_of}
use Rattle.judge_model.specs.Memory.{Holds}
use Rattle.judge_model.specs.Placed.{explained_things}
use Rattle.judge_model.specs.Runs.{IsBetween}

-- Instructions that do nothing (AMD64 Architecture Programmer's Manual 3, "NOP"): 90, and 0f 1f with an operand, behind
-- prefixes 66 of which each may have a number, so that none has more than 15 bytes. Those of 32-bit code that move a register
-- to itself aren't among them: they clear its upper half.
pub record Nop : Type 0 where
  pub bytes : List ℕ
  pub prefixes : ℕ

abbrev pub nop : List ℕ → ℕ → Nop
nop bytes prefixes = record { bytes = bytes; prefixes = prefixes }

abbrev pub nops : List Nop
nops =
    nop (0x90 ∷ []) 2
    ∷ nop (0x0f ∷ 0x1f ∷ 0 ∷ []) 0
    ∷ nop (0x0f ∷ 0x1f ∷ 0x40 ∷ 0 ∷ []) 0
    ∷ nop (0x0f ∷ 0x1f ∷ 0x44 ∷ 0 ∷ 0 ∷ []) 1
    ∷ nop (0x0f ∷ 0x1f ∷ 0x80 ∷ 0 ∷ 0 ∷ 0 ∷ 0 ∷ []) 8
    ∷ nop (0x0f ∷ 0x1f ∷ 0x84 ∷ 0 ∷ 0 ∷ 0 ∷ 0 ∷ 0 ∷ []) 7
    ∷ nop (0x2e ∷ 0x0f ∷ 0x1f ∷ 0x80 ∷ 0 ∷ 0 ∷ 0 ∷ 0 ∷ []) 7
    ∷ nop (0x2e ∷ 0x0f ∷ 0x1f ∷ 0x84 ∷ 0 ∷ 0 ∷ 0 ∷ 0 ∷ 0 ∷ []) 6
    ∷ []

-- how long the one is that bytes begin with
abbrev pub is_prefix : ℕ → Bool
is_prefix b = b == 0x66

abbrev pub begins_with : List ℕ → Nop → Bool
begins_with bytes n = starts_with nat_eq bytes n.bytes

abbrev pub length_behind : ℕ → Nop → Option ℕ
length_behind prefixes n = cond (nat_le prefixes n.prefixes) (Some (prefixes + length n.bytes)) None

abbrev pub nop_behind : ℕ → List ℕ → Option ℕ
nop_behind prefixes bytes = option_and_then (length_behind prefixes) (find (begins_with bytes) nops)

unfoldable pub nop_at : List ℕ → Option ℕ
nop_at bytes = nop_behind (prefix_len is_prefix bytes) (drop (prefix_len is_prefix bytes) bytes)

-- or a breakpoint, of one byte
abbrev pub is_breakpoint : Option ℕ → Bool
is_breakpoint b = option_map_or (λ x. x == 0xcc) b false

abbrev pub filler_at : List ℕ → Option ℕ
filler_at bytes = cond (is_breakpoint (slice_get bytes 0)) (Some 1) (nop_at bytes)

-- bytes are so many whole instructions that do nothing, one behind the other; or so many fillers and then zeros
abbrev pub AreNopsBy : ℕ → List ℕ → Type 0
AreNopsBy zero bytes = bytes ≡ []
AreNopsBy (suc n) bytes = (k : ℕ) × (nop_at bytes ≡ Some k) × AreNopsBy n (drop k bytes)

abbrev pub AreNops : List ℕ → Type 0
AreNops bytes = (n : ℕ) × AreNopsBy n bytes

abbrev pub IsCodeFillBy : ℕ → List ℕ → Type 0
IsCodeFillBy zero bytes = All (λ b. b ≡ 0) bytes
IsCodeFillBy (suc n) bytes = (k : ℕ) × (filler_at bytes ≡ Some k) × IsCodeFillBy n (drop k bytes)

abbrev pub IsCodeFill : List ℕ → Type 0
IsCodeFill bytes = (n : ℕ) × IsCodeFillBy n bytes

-- Gaps.

-- an address whose byte is explained: by a thing, or by the slot that a field asks for
abbrev pub IsSlotOf : ForeignLink → ℕ → Relocation → Type 0
IsSlotOf l a r = (at : ℕ) × HasSlotAt l r at × Covers (slot_thing at) a

abbrev pub IsExplained : ForeignLink → ℕ → Type 0
IsExplained l a = Any (λ t. Covers t a) (explained_things l) ⊎ Any (IsSlotOf l a) (relocations_of l)

-- the addresses of a segment between what is explained, as far as they go
pub record IsGap (l : ForeignLink) (h : ProgramHeader) (from to : ℕ) : Type 0 where
  pub some : from < to
  pub inside : (h.p_vaddr ≤ from) × (to ≤ h.p_vaddr + h.p_memsz)
  pub gap : (a : ℕ) → from ≤ a → a < to → ¬ IsExplained l a
  pub first : (h.p_vaddr ≡ from) ⊎ IsExplained l (from - 1)
  pub last : (to ≡ h.p_vaddr + h.p_memsz) ⊎ IsExplained l to

-- the gap of two neighbours of a run of code
abbrev pub runs_through : Piece → Bool
runs_through p = cond (bytes_eq p.name (codes ".init")) true (bytes_eq p.name (codes ".fini"))

abbrev pub IsRunThrough : ForeignLink → ℕ → Type 0
IsRunThrough l from = (p q : Placed) × (runs_through p.piece ≡ true) × IsBetween (sections_of l) p q from

-- what a gap's bytes are
abbrev pub is_executed : ProgramHeader → Bool
is_executed h = bit_and h.p_flags PF_X == PF_X

pub record IsGapRight (l : ForeignLink) (h : ProgramHeader) (from : ℕ) (bytes : List ℕ) : Type 0 where
  pub zeros : is_executed h ≡ false → All (λ b. b ≡ 0) bytes
  pub code : is_executed h ≡ true → IsCodeFill bytes
  pub run : IsRunThrough l from → AreNops bytes

-- no slot is behind the name for the end of all
abbrev pub IsBehindSlots : ForeignLink → NameRow → Type 0
IsBehindSlots l row =
    object_meaning (objects_of l) row.name ≡ None → bound_of l row.name ≡ Some ImageEnd → All (λ r. (at : ℕ) → HasSlotAt l r at → at + 8 ≤ row.value) (relocations_of l)

-- and no slot is between the name for where zeros begin and these, nor behind it where there are none: a program that clears from
-- there on would lose it
abbrev pub IsBeforeZeros : Option ℕ → ℕ → ℕ → Type 0
IsBeforeZeros None v at = at + 8 ≤ v
IsBeforeZeros (Some start) v at = (at + 8 ≤ v) ⊎ (start ≤ at)

abbrev pub SparesSlots : ForeignLink → NameRow → Type 0
SparesSlots l row =
    object_meaning (objects_of l) row.name ≡ None
    → bound_of l row.name ≡ Some ZeroStart
    → All (λ r. (at : ℕ) → HasSlotAt l r at → IsBeforeZeros (start_of_pieces is_some_zeros (placed_of l)) row.value at) (relocations_of l)

pub record IsFilled (l : ForeignLink) : Type 0 where
  pub ends : All (IsBehindSlots l) l.certificate.names
  pub starts : All (SparesSlots l) l.certificate.names
  pub gaps :
      (h : ProgramHeader) (from to : ℕ) → Contains (loads l.image) h → IsGap l h from to
      → (bytes : List ℕ) × (length bytes ≡ to - from) × Holds l.image from bytes × IsGapRight l h from bytes
