-- The requirements on a program header that a link's words, objects and pieces decide, each as a word of its own.
use Rattle.std.specs.Prelude.{◌≡◌, ◌⊎◌, ◌&&◌, ℕ, Bool, true, false, List, Option, All, Any, bit_and, unwrap_or}
use Rattle.std.specs.List.{list_any}
use Rattle.elf_model.specs.Image.MemoryImage.{program_headers}
use Rattle.elf_model.specs.Link.Loading.{LoadedObject}
use Rattle.elf_model.specs.Link.Pieces.{is_executable, is_gathered_by}
use Rattle.elf_model.specs.Link.Placement.{Covers, Placed, thing_of}
use Rattle.elf_model.specs.declared.constants.TheConstants.{PF_X}
use Rattle.elf_model.specs.declared.records.ProgramHeader.{ProgramHeader}
use Rattle.elf_model.specs.declared.records.SectionHeader.{SectionHeader}
use Rattle.judge_model.specs.Headers.{IsExecutedStack, IsProgram, IsProtected, IsStack, asks_for_stack, is_executing_note, is_stack_note, is_used_late, pt_gnu_relro, pt_gnu_stack, relro_names}
use Rattle.judge_model.specs.Links.{ForeignLink, objects_of, placed_of}
use Rattle.judge_model.specs.Plans.{in_script}

-- a name is one of those that are written before memory is made read-only
abbrev pub is_early_name : List ℕ → Bool
is_early_name name = list_any (is_gathered_by name) relro_names

-- the physical address is the virtual one, or a script says others
pub record HasPhysical (physical : Bool) (h : ProgramHeader) : Type 0 where
  pub same : (h.p_paddr ≡ h.p_vaddr) ⊎ (physical ≡ true)

-- a header makes no byte of a placed thing read-only
abbrev pub IsApart : ProgramHeader → Placed → Type 0
IsApart h q = (a : ℕ) → Covers (thing_of q) a → ¬ IsProtected h a

-- it makes none read-only that the program may execute or write
pub record IsSpared (h : ProgramHeader) (q : Placed) : Type 0 where
  pub spared : is_used_late q ≡ true → IsApart h q

pub record SparesAll (qs : List Placed) (h : ProgramHeader) : Type 0 where
  pub spares : h.p_type ≡ pt_gnu_relro → All (IsSpared h) qs

-- a header makes the stack executable only where it may be
pub record HasStack (may : Bool) (h : ProgramHeader) : Type 0 where
  pub stack : h.p_type ≡ pt_gnu_stack → bit_and h.p_flags PF_X ≡ PF_X → may ≡ true

-- a header makes it executable where it must be, and there is one where it may not be
pub record AreStacksTold (must may : Bool) (hs : List ProgramHeader) : Type 0 where
  pub executed : must ≡ true → Any IsExecutedStack hs
  pub told : may ≡ false → Any IsStack hs

-- a section is the note on the stack, and says that the stack is executed
abbrev pub asks : List ℕ → SectionHeader → Bool
asks bytes h = is_executable h && is_stack_note bytes h

-- the words ask for a stack that can be executed, or say nothing of it and an object does
abbrev pub may_execute : Option Bool → List LoadedObject → Bool
may_execute executes os = unwrap_or executes (list_any (λ o. asks_for_stack o.bytes) os)

-- and they ask for it, or say nothing of it and the note of an object does
abbrev pub must_execute : Option Bool → List LoadedObject → Bool
must_execute executes os = unwrap_or executes (list_any (λ o. is_executing_note o.bytes) os)

-- the headers are right by these
pub record AreRightBy (image : List ℕ) (physical must may : Bool) (qs : List Placed) : Type 0 where
  pub program : IsProgram image
  pub physicals : All (HasPhysical physical) (program_headers image)
  pub spares : All (SparesAll qs) (program_headers image)
  pub stacks : All (HasStack may) (program_headers image)
  pub told : AreStacksTold must may (program_headers image)

-- these are a link's image, objects, pieces and words
pub record IsOfLink (l : ForeignLink) (image : List ℕ) (os : List LoadedObject) (qs : List Placed) (physical : Bool) (executes : Option Bool) : Type 0 where
  pub image_is : l.image ≡ image
  pub objects_are : objects_of l ≡ os
  pub placed_are : placed_of l ≡ qs
  pub physical_is : in_script (λ t. t.physical) l.plan ≡ physical
  pub executes_is : l.plan.executes_stack ≡ executes
