-- Where fields, or the bytes beside them, aren't right.
use Rattle.std.specs.Prelude.{◌≡◌, List, Contains}
use Rattle.elf_model.specs.Inputs.ObjectFile.{rela_type}
use Rattle.elf_model.specs.Link.Placement.{Placed}
use Rattle.elf_model.specs.Link.Relocation.{Relocation}
use Rattle.judge_model.specs.Fields.{HoldsRest, IsFieldRight}
use Rattle.judge_model.specs.Links.{ForeignLink, placed_of, relocations_of}
use Rattle.link_fields.specs.declared.wrong_places.WrongField.{WrongField}
use Rattle.link_fields.specs.declared.wrong_places.WrongRest.{WrongRest}

abbrev pub field_named : Relocation → WrongField
field_named r = record { object = r.object; section = r.section; offset = r.entry.r_offset; kind = rela_type r.entry }

abbrev pub rest_named : Placed → WrongRest
rest_named q = record { object = q.piece.object; section = q.piece.section }

-- one of some things is called so, of which a claim is false
pub record IsDenied {X Y : Type 0} (Claim : X → Type 0) (called : X → Y) (xs : List X) (y : Y) : Type 0 where
  pub one : X
  pub among : Contains xs one
  pub called_is : y ≡ called one
  pub denied : ¬ Claim one

-- F5 of one field: that of a relocation of the image's sections isn't right
abbrev pub IsWrongField : ForeignLink → WrongField → Type 0
IsWrongField l w = IsDenied (IsFieldRight l) field_named (relocations_of l) w

-- F7 of one section or common block: some byte beside its fields isn't the input's
abbrev pub IsWrongRest : ForeignLink → WrongRest → Type 0
IsWrongRest l w = IsDenied (HoldsRest l) rest_named (placed_of l) w
