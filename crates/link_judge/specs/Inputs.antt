-- What is judged, in parts: objects and what they define, arrays of functions, sections that linkers edit, names, fields. Each but a
-- record of several is one fact of IsJudged.
use Rattle.std.specs.Prelude.{◌≡◌, false, All, AllPairs}
use Rattle.elf_model.specs.Link.Resolution.{AreSoundCommons, AreUnique}
use Rattle.judge_model.specs.Fields.{AreFieldsApart, IsInside, IsWholeInstruction}
use Rattle.judge_model.specs.Frames.{AreFramesReadable, IsPlain, IsReadable, IsWholeLine}
use Rattle.judge_model.specs.Links.{ForeignLink, framed_of, objects_of, pieces_of, relocations_of}
use Rattle.judge_model.specs.Loaded.{AreReadable}
use Rattle.judge_model.specs.Names.{IsUnmixed}
use Rattle.judge_model.specs.RightForeign.{IsJoined, IsWholeArray, is_edited, is_lto}

pub record AreObjectsSound (l : ForeignLink) : Type 0 where
  pub compiled : All (λ o. is_lto o ≡ false) (objects_of l)
  pub unique : l.plan.takes_first ≡ false → AreUnique (objects_of l)
  pub commons : AreSoundCommons (objects_of l)

abbrev pub AreArraysWhole : ForeignLink → Type 0
AreArraysWhole l = All IsWholeArray (pieces_of l)

abbrev pub AreUnedited : ForeignLink → Type 0
AreUnedited l = All (λ p. is_edited l p ≡ false) (pieces_of l)

-- sections of call frames in the linker's list, and the lines of their records
pub record AreRecordsRead (l : ForeignLink) : Type 0 where
  pub sections : All IsReadable (framed_of l)
  pub lines : All (IsWholeLine (framed_of l)) l.certificate.frames
  pub relocations : All (IsPlain (framed_of l)) (relocations_of l)

abbrev pub AreNotesJoined : ForeignLink → Type 0
AreNotesJoined l = All (IsJoined l) (pieces_of l)

abbrev pub AreNamesUnmixed : ForeignLink → Type 0
AreNamesUnmixed l = All (IsUnmixed l) l.certificate.names

pub record AreSectionsSound (l : ForeignLink) : Type 0 where
  pub arrays : AreArraysWhole l
  pub unedited : AreUnedited l
  pub framed : AreFramesReadable l
  pub joined : AreNotesJoined l
  pub unmixed : AreNamesUnmixed l

pub record AreFieldsSound (l : ForeignLink) : Type 0 where
  pub inside : All IsInside (relocations_of l)
  pub apart : AllPairs AreFieldsApart (relocations_of l)
  pub whole : All (IsWholeInstruction (objects_of l)) (relocations_of l)

-- all of it but what the image tells: a table of call frames that stand as they came
pub record AreInputsSound (l : ForeignLink) : Type 0 where
  pub readable : AreReadable l.files l.plan.plan
  pub objects : AreObjectsSound l
  pub sections : AreSectionsSound l
  pub fields : AreFieldsSound l
