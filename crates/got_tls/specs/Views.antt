-- Slots as the definitions see them.
use Rattle.std.specs.Prelude.{ℕ, List, map}
use Rattle.elf_model.specs.Link.Loading.{LoadedObject}
use Rattle.elf_model.specs.Image.MapRecord.{TargetRow, OfName, OfLocal}
use Rattle.elf_model.specs.declared.link_map.SlotKind.{SlotKind}
use Rattle.elf_model.specs.declared.link_map.SlotKind.TheVariants as kind
use Rattle.elf_model.specs.Link.Slots.{Request}
use Rattle.got_tls.specs.declared.slot.Content.{Content}
use Rattle.got_tls.specs.declared.slot.Content.TheVariants as content
use Rattle.got_tls.specs.declared.slot.Owner.{Owner}
use Rattle.got_tls.specs.declared.slot.Owner.TheVariants as owner
use Rattle.got_tls.specs.declared.slot.Slot.{Slot}

abbrev pub kind_view : Content → SlotKind
kind_view content.Value = kind.Value
kind_view content.Thread = kind.Thread

abbrev pub owner_view : Owner → TargetRow
owner_view (owner.Name name) = OfName name.0.now
owner_view (owner.Local object symbol) = OfLocal object symbol

abbrev pub slot_view : Slot → Request
slot_view s = record { kind = kind_view s.content; target = owner_view s.owner }

abbrev pub slot_views : List Slot → List Request
slot_views ss = map slot_view ss

-- slots of objects
pub record Listed : Type 0 where
  pub slots : List Request
  pub objects : List LoadedObject

-- the GOT of objects: its size in bytes, and its slots
pub record Got : Type 0 where
  pub got : ℕ
  pub slots : List Request
  pub objects : List LoadedObject
