-- The slots that the fields of a link ask for.
use Rattle.std.specs.Prelude.{◌≡◌, ◌↔◌, ℕ, true, not, List, Any, Contains, Some}
use Rattle.elf_model.specs.Link.Relocation.{Kind, Relocation}
use Rattle.elf_model.specs.declared.link_map.DropLine.{DropLine}
use Rattle.elf_model.specs.declared.thing.Thing.{Thing}
use Rattle.judge_model.specs.Certificates.{is_left_out}
use Rattle.judge_model.specs.Fields.{HasSlotAt, kind_of}
use Rattle.judge_model.specs.Links.{ForeignLink, relocations_of}
use Rattle.field_judge.specs.Given.{AsksSlotAt}
use Rattle.link_fields.specs.Parts.{Parts, given}

-- the field of a relocation has its slot at an address; it does so, and its section isn't left out
pub record AsksSlotIn (p : Parts) (taken : List Thing) (r : Relocation) (at : ℕ) : Type 0 where
  pub kind : Kind
  pub kind_is : kind_of r ≡ Some kind
  pub asks : AsksSlotAt p.image taken (given p r) kind at

pub record AsksSlotUnlessOut (p : Parts) (taken : List Thing) (drops : List DropLine) (at : ℕ) (r : Relocation) : Type 0 where
  pub kept : not (is_left_out drops r.object r.section) ≡ true
  pub asks : AsksSlotIn p taken r at

-- the addresses of the slots that its fields ask for, in any order
pub record AreSlots (l : ForeignLink) (slots : List ℕ) : Type 0 where
  pub slots_are : (at : ℕ) → Contains slots at ↔ Any (λ r. HasSlotAt l r at) (relocations_of l)
