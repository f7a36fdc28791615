-- Addresses between which nothing takes up memory.
use Rattle.std.specs.Prelude.{◌↔◌, ℕ, ◌+◌, ◌^◌, ◌<◌, ◌≤◌, List, All, IfSome, None, Option, Some}
use Rattle.elf_model.specs.Link.Placement.{Covers}
use Rattle.elf_model.specs.declared.records.ProgramHeader.{ProgramHeader}
use Rattle.elf_model.specs.declared.thing.Thing.{Thing}
use Rattle.judge_model.specs.Fill.{IsBeforeZeros}
use Rattle.judge_model.specs.declared.certificate.StretchLine.{StretchLine}

-- a thing covers no address from one on and below another one
pub record IsBeside (from to : ℕ) (t : Thing) : Type 0 where
  pub beside : (a : ℕ) → from ≤ a → a < to → ¬ Covers t a

-- an address is not above another one, or not below it, where there is one
abbrev pub IsUpTo : ℕ → Option ℕ → Type 0
IsUpTo to next = IfSome next (λ n. to ≤ n)

abbrev pub IsFrom : ℕ → Option ℕ → Type 0
IsFrom from last = IfSome last (λ n. n ≤ from)

-- the least address from one on that a thing covers; the end of the last ones that things cover below one
pub record IsNextIn (ts : List Thing) (from : ℕ) (next : Option ℕ) : Type 0 where
  pub told : (to : ℕ) → IsUpTo to next ↔ All (IsBeside from to) ts

pub record IsLastIn (ts : List Thing) (to : ℕ) (last : Option ℕ) : Type 0 where
  pub told : (from : ℕ) → IsFrom from last ↔ All (IsBeside from to) ts

-- a stretch ends at or below an address; the greatest end of stretches
pub record EndsBy (v : ℕ) (n : StretchLine) : Type 0 where
  pub end : n.address + n.size ≤ v

pub record IsEndOfStretches (ns : List StretchLine) (end : ℕ) : Type 0 where
  pub told : (v : ℕ) → (end ≤ v) ↔ All (EndsBy v) ns

-- a segment ends where addresses can
pub record IsLowEnd (h : ProgramHeader) : Type 0 where
  pub low : h.p_vaddr + h.p_memsz ≤ 2 ^ 47

-- an address is where zeros begin or behind, where there are any
abbrev pub IsInZeros : Option ℕ → ℕ → Type 0
IsInZeros None at = ⊥
IsInZeros (Some start) at = start ≤ at

-- a slot ends at or below an address, or begins where zeros do or behind, where there are any; the greatest end of slots that don't
pub record IsSlotBy (zeros : Option ℕ) (v at : ℕ) : Type 0 where
  pub end : IsBeforeZeros zeros v at

pub record IsEndOfSlots (zeros : Option ℕ) (slots : List ℕ) (end : ℕ) : Type 0 where
  pub told : (v : ℕ) → (end ≤ v) ↔ All (IsSlotBy zeros v) slots
