-- Fields of call frames in the linker's list.
use Rattle.std.specs.Prelude.{◌≡◌, ◌==◌, ℕ, true, not, List, Option, None, Some, IsSomeAnd, find}
use Rattle.elf_model.specs.Inputs.ObjectFile.{rela_type}
use Rattle.elf_model.specs.Link.Pieces.{Piece}
use Rattle.elf_model.specs.Link.Relocation.{Kind, Relocation}
use Rattle.elf_model.specs.Link.Slots.{slot_kind_of}
use Rattle.elf_model.specs.declared.link_map.DropLine.{DropLine}
use Rattle.elf_model.specs.declared.thing.Thing.{Thing}
use Rattle.field_judge.specs.Given.{Given, IsRightIn}
use Rattle.judge_model.specs.Certificates.{is_left_out, merged_at}
use Rattle.judge_model.specs.Fields.{foreign_kinds}
use Rattle.judge_model.specs.Frames.{IsBegin}
use Rattle.judge_model.specs.declared.certificate.MergedLine.{MergedLine}
use Rattle.link_fields.specs.Parts.{Parts, given, is_in_list}

-- what is given of a field that is at an address
abbrev pub moved_to : Given → ℕ → Given
moved_to g at = record {
  value = g.value;
  addend = g.addend;
  at = at;
  offset = 0;
  size = g.size;
  got = g.got;
  thread = g.thread;
}

-- a field of a kind holds what is given, and asks for no slot
pub record IsHeldBy (image : List ℕ) (taken : List Thing) (g : Given) (k : Kind) : Type 0 where
  pub free : slot_kind_of k.formula ≡ None
  pub right : IsRightIn image taken g k

-- the field of a relocation holds what its kind asks for at an address
abbrev pub IsFieldHeld : Parts → List Thing → Relocation → ℕ → Type 0
IsFieldHeld p taken r at =
    IsSomeAnd (find (λ k. k.number == rela_type r.entry) foreign_kinds) (IsHeldBy p.image taken (moved_to (given p r) at))

-- that of a record with a copy does, and a record without one is for no function that the image has
abbrev pub IsListFieldIn : Parts → List Thing → List Piece → Relocation → Option ℕ → Type 0
IsListFieldIn p taken ps r None = IsBegin ps r → (given p r).value ≡ None
IsListFieldIn p taken ps r (Some at) = IsFieldHeld p taken r at

-- so it is of a relocation of call frames in the list, of a section that isn't left out
abbrev pub IsRightInListBy : Parts → List Thing → List Piece → List MergedLine → Relocation → Type 0
IsRightInListBy p taken ps lines r =
    is_in_list p r ≡ true → IsListFieldIn p taken ps r (merged_at lines r.object r.section r.entry.r_offset)

pub record IsRightUnlessOut (p : Parts) (taken : List Thing) (ps : List Piece) (lines : List MergedLine) (drops : List DropLine) (r : Relocation) : Type 0 where
  pub right : not (is_left_out drops r.object r.section) ≡ true → IsRightInListBy p taken ps lines r
