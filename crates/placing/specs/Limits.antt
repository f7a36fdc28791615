-- Limits of a layout: how far pieces reach, and when it is too large.
use Rattle.std.specs.Prelude.{◌+◌, ◌<◌, ◌≤◌, ◌^◌, List, All}
use Rattle.elf_model.specs.Own.OwnLayout.{placed_end}
use Rattle.elf_model.specs.Link.Pieces.{Piece}
use Rattle.elf_model.specs.Link.Placement.{Placed}
use Rattle.elf_model.specs.declared.records.ProgramHeader.{ProgramHeader}
use Rattle.placing.specs.declared.faults.LayoutFault.{LayoutFault}
use Rattle.placing.specs.declared.faults.LayoutFault.TheVariants as error

-- an alignment that every object's sections have
abbrev pub HasSmallAlignment : Piece → Type 0
HasSmallAlignment p = (0 < p.align) × (p.align ≤ 2 ^ 21)

abbrev pub AreAligned : List Piece → Type 0
AreAligned ps = All HasSmallAlignment ps

-- a place ends at or below the limit
abbrev pub IsInLimit : Placed → Type 0
IsInLimit q = placed_end q ≤ 2 ^ 46

abbrev pub AreInLimit : List Placed → Type 0
AreInLimit qs = All IsInLimit qs

-- why places were not laid out
abbrev pub RunFails : List Placed → LayoutFault → Type 0
RunFails qs error.Memory = Unit {0}
RunFails qs error.TooLarge = ¬ AreInLimit qs
RunFails qs _ = ⊥

-- the file part of a segment ends below the limit of files
abbrev pub IsShort : ProgramHeader → Type 0
IsShort h = 0 < h.p_filesz → h.p_offset + h.p_filesz < 2 ^ 32
