-- Words on program headers for this crate's own functions.
use Rattle.std.specs.Prelude.{ℕ, ◌+◌, ◌<◌, ◌≤◌, List, AllPairs}
use Rattle.elf_model.specs.Image.MemoryImage.{AreGoodSegments, IsInOrder, ShareNoPage, loads_in}
use Rattle.elf_model.specs.declared.faults.LoadFault.{LoadFault}
use Rattle.elf_model.specs.declared.faults.LoadFault.TheVariants as fault
use Rattle.elf_model.specs.declared.records.ProgramHeader.{ProgramHeader}

-- a header's address is below another's
abbrev pub IsBelow : ProgramHeader → ProgramHeader → Type 0
IsBelow g h = g.p_vaddr < h.p_vaddr

-- a segment ends at or before the beginning of another
abbrev pub EndsBefore : ProgramHeader → ProgramHeader → Type 0
EndsBefore g h = g.p_vaddr + g.p_memsz ≤ h.p_vaddr

-- the program headers of a file of len bytes are those of an image, and which fault of theirs stands
pub record IsGoodTable (len : ℕ) (hs : List ProgramHeader) : Type 0 where
  pub order : IsInOrder hs
  pub segments : AreGoodSegments len hs
  pub pages : AllPairs ShareNoPage (loads_in hs)

abbrev pub FaultInTable : ℕ → List ProgramHeader → LoadFault → Type 0
FaultInTable len hs fault.Memory = Unit {0}
FaultInTable len hs fault.BadHeader = ⊥
FaultInTable len hs fault.Order = ¬ IsInOrder hs
FaultInTable len hs fault.BadSegment = ¬ AreGoodSegments len hs
FaultInTable len hs fault.SharedPage = ¬ AllPairs ShareNoPage (loads_in hs)

-- what is read of a segment of an image of len bytes: its rights, and that its file part is inside
pub record IsLawful (len : ℕ) (h : ProgramHeader) : Type 0 where
  pub some_rights : 4 ≤ h.p_flags
  pub no_other_rights : h.p_flags ≤ 6
  pub inside : 0 < h.p_filesz → h.p_offset + h.p_filesz ≤ len
