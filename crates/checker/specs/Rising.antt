-- Fields of an object's relocations that are compared with memory as they come.
use Rattle.std.specs.Prelude.{◌≡◌, ◌+◌, ◌<◌, ◌≤◌, ◌++◌, ℕ, List, Some, All, AllPairs, find, map, slice_index}
use Rattle.byteview.specs.Numbers.{le_bytes}
use Rattle.elf_model.specs.Link.Pieces.{load_size}
use Rattle.elf_model.specs.Link.Placement as placement
use Rattle.elf_model.specs.Link.Relocation.{Relocation}
use Rattle.elf_model.specs.Image.RightLink.{byte_at}
use Rattle.check_load.specs.Kept.{kept_relas}
use Rattle.check_load.specs.KeptRelocations.{relocations_of_relas}
use Rattle.check_load.specs.declared.kept_sections.KeptRela.{KeptRela}
use Rattle.check_link.specs.SameRuns.{AreSame}
use Rattle.check_link.specs.Views.{placed_view}
use Rattle.check_link.specs.declared.things.Placed.{Placed}
use Rattle.check_relocs.specs.Bytes.{EndsBefore, HoldsFields, WantedFrom, byte_of, covers}
use Rattle.check_relocs.specs.Fields.{IsBefore, IsRight, field_of}
use Rattle.check_relocs.specs.Referrers.{object_here, objects_here, relocation_here}
use Rattle.check_relocs.specs.declared.fields.Field.{Field}
use Rattle.check_relocs.specs.declared.referrer.Referrer.{Referrer}

-- a field comes after a byte up to which a piece is compared: memory has the piece's own bytes up to the field, and the
-- field's value
pub record Follows (held bytes : List ℕ) (from : ℕ) (f : Field) : Type 0 where
  pub behind : from ≤ f.at
  pub front : AreSame held bytes from f.at
  pub value : (j : ℕ) → j < f.width → slice_index held (f.at + j) ≡ slice_index (le_bytes f.width f.value) j

-- fields each of which ends before the next begins, with which memory has the wanted bytes of a piece up to a byte
pub record AreMatched (held bytes : List ℕ) (fs : List Field) (end : ℕ) : Type 0 where
  pub wanted : WantedFrom held bytes fs 0 end
  pub ended : All (λ f. f.at + f.width ≤ end) fs
  pub rising : AllPairs EndsBefore fs

-- the field of a relocation of an object, and that it is right
abbrev pub field_here : Referrer → Relocation → Field
field_here r x = field_of (objects_here r) r.bindings.now.places x

abbrev pub IsRightHere : Referrer → Relocation → Type 0
IsRightHere r x = IsRight (objects_here r) r.bindings.now.places x

-- the relocations of kept RELA sections of an object, their fields, and that all of them are right
abbrev pub relocations_of : Referrer → List KeptRela → List Relocation
relocations_of r ks = map (relocation_here r) (relocations_of_relas (object_here r).bytes ks)

abbrev pub fields_here : Referrer → List Relocation → List Field
fields_here r rs = map (field_of (objects_here r) r.bindings.now.places) rs

abbrev pub fields_of : Referrer → List KeptRela → List Field
fields_of r ks = fields_here r (relocations_of r ks)

abbrev pub AreRightHere : Referrer → List Relocation → Type 0
AreRightHere r rs = All (IsRight (objects_here r) r.bindings.now.places) rs

-- memory has the bytes that fields want of a piece, and its own where no field is
pub record HasFields (image : List ℕ) (fs : List Field) (q : placement.Placed) : Type 0 where
  pub bytes : (k : ℕ) → k < load_size q.piece → byte_at image (q.at + k) ≡ Some (byte_of q.piece.bytes k (find (covers k) fs))

-- with the fields of some more relocations memory has the wanted bytes of a piece up to a further byte
abbrev pub MatchesOn : Referrer → List ℕ → List ℕ → ℕ → List Relocation → ℕ → Type 0
MatchesOn r held bytes from rs end =
    (fs : List Field) → AreMatched held bytes fs from → AreMatched held bytes (fs ++ fields_here r rs) end

-- the relocations of kept RELA sections are right, and memory holds with their fields, which rise, the wanted bytes of pieces
pub record AreInOrder (r : Referrer) (image : List ℕ) (ks : List KeptRela) (qs : List Placed) : Type 0 where
  pub right : AreRightHere r (relocations_of r ks)
  pub rising : AllPairs IsBefore (fields_of r ks)
  pub held : All (λ q. HoldsFields image (fields_of r ks) (placed_view q)) qs

-- so it is of the first kept RELA sections of an object and of pieces of sections below one
pub record AreInOrderSoFar (r : Referrer) (image : List ℕ) (left : List KeptRela) (qs : List Placed) (low : ℕ) : Type 0 where
  pub first : List KeptRela
  pub parts : first ++ left ≡ kept_relas (object_here r)
  pub are : AreInOrder r image first qs
  pub fields_below : All (λ f. f.section < low) (fields_of r first)
  pub pieces_below : All (λ q. q.piece.section < low) qs
