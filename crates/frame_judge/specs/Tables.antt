-- Tables of an image's list of call frames.
use Rattle.std.specs.Prelude.{◌≡◌, ℕ, Bool, true, List, Option, All, Any, IsSomeAnd, is_some}
use Rattle.elf_model.specs.declared.records.ProgramHeader.{ProgramHeader}
use Rattle.judge_model.specs.FrameTables.{HasFunctions, IsTableAt, IsTableRight, list_bytes}
use Rattle.judge_model.specs.Frames.{IsFunction, IsListIn, frame_records, records_of}
use Rattle.judge_model.specs.Headers.{frame_tables, has_frame_table, table_stretch}
use Rattle.judge_model.specs.declared.certificate.StretchLine.{StretchLine}

-- there is no list, or memory has one
abbrev pub IsListRead : List ℕ → Option StretchLine → Type 0
IsListRead image list = IsSomeAnd (list_bytes image list) (λ bytes. is_some (frame_records bytes) ≡ true)

-- a header is that of a right table, given the bytes of the list
pub record IsTableIn (image : List ℕ) (areas : List StretchLine) (list : Option StretchLine) (frames : List ℕ) (h : ProgramHeader) : Type 0 where
  pub whole : h.p_filesz ≡ h.p_memsz
  pub area : Any (IsListIn (table_stretch h)) areas
  pub table : IsTableAt image list (table_stretch h) frames

-- all are right, and there is one where the words ask for it
pub record AreTablesOf (image : List ℕ) (areas : List StretchLine) (list : Option StretchLine) (asks : Bool) (frames : List ℕ) : Type 0 where
  pub each : All (IsTableIn image areas list frames) (frame_tables image)
  pub asked : asks ≡ true → Any IsFunction (records_of frames) → has_frame_table image ≡ true

pub record AreTablesRight (image : List ℕ) (areas : List StretchLine) (list : Option StretchLine) (asks : Bool) : Type 0 where
  pub each : All (IsTableRight image areas list) (frame_tables image)
  pub asked : asks ≡ true → HasFunctions image list → has_frame_table image ≡ true
