-- What a right link of another linker is: thirteen requirements on the words, the files, the image and a certificate. None
-- of them says how a linker lays anything out.
use Rattle.std.specs.Prelude.{List, [], ◌∷◌, ℕ, ◌≡◌, ◌%◌, ◌&&◌, ◌||◌, Bool, true, false, not, Some, All, AllPairs, IsSomeAnd, codes, nat_eq}
use Rattle.elf_model.specs.Image.MemoryImage.{program_headers}
use Rattle.elf_model.specs.Inputs.Files.{File}
use Rattle.elf_model.specs.Inputs.Records.{file_header}
use Rattle.elf_model.specs.Link.Pieces.{Piece}
use Rattle.elf_model.specs.Link.Resolution.{AreUnique, AreSoundCommons, is_in_thread_section, chosen}
use Rattle.elf_model.specs.Link.Meaning.{object_meaning}
use Rattle.elf_model.specs.declared.records.ProgramHeader.{ProgramHeader}
use Rattle.judge_model.specs.Fields.{AreFieldsApart, HoldsRest, IsFieldRight, IsInside, IsWholeInstruction}
use Rattle.judge_model.specs.Fill.{IsFilled}
use Rattle.judge_model.specs.Headers.{AreHeadersRight, has_frame_table}
use Rattle.judge_model.specs.Kept.{IsKept}
use Rattle.judge_model.specs.Frames.{AreFramesReadable, AreFramesRight, has_own_frames}
use Rattle.judge_model.specs.FrameTables.{HasRightTable}
use Rattle.judge_model.specs.Links.{ForeignLink, is_mergeable, is_placed, is_property, is_relocated, objects_of, pieces_of, placed_of, relocations_of}
use Rattle.judge_model.specs.Merged.{AreMergedRight}
use Rattle.judge_model.specs.Loaded.{AreReadable}
use Rattle.judge_model.specs.Loaded as loaded
use Rattle.std.specs.List.{list_any, starts_with}
use Rattle.elf_model.specs.Inputs.ObjectFile.{name_of_section, sections}
use Rattle.elf_model.specs.Link.Loading.{LoadedObject}
use Rattle.elf_model.specs.Link.Pieces.{is_gathered_by}
use Rattle.judge_model.specs.Means.{value_of}
use Rattle.judge_model.specs.Names.{AreNamesRight, IsUnmixed}
use Rattle.judge_model.specs.Notes.{AreNotesRight}
use Rattle.judge_model.specs.Placed as placed
use Rattle.judge_model.specs.Runs.{array_names}
use Rattle.judge_model.specs.Words.{IsAsked}
use Rattle.judge_model.specs.Plans.{ForeignPlan}
use Rattle.judge_model.specs.Certificates.{CertificateRecord}
use Rattle.judge_model.specs.Tables.{AreTablesRight, HasTables}
use Rattle.judge_model.specs.ThreadBlocks.{IsThreadBlockRight}
use Rattle.judge_model.specs.declared.judgement.Requirement.{Requirement}
use Rattle.judge_model.specs.declared.judgement.Requirement.TheVariants.{F1, F2, F3, F4, F5, F6, F7, F8, F9, F10, F11, F12, F13}

-- F11. The entry is a definition of its name outside of thread-local storage, and e_entry is its value.
abbrev pub EntersRight : ForeignLink → Type 0
EntersRight l =
    IsSomeAnd (chosen (objects_of l) l.plan.plan.entry) (λ s. is_in_thread_section (objects_of l) s ≡ false)
    × IsSomeAnd (object_meaning (objects_of l) l.plan.plan.entry) (λ m. value_of l m ≡ Some (file_header l.image).e_entry)

-- The requirements by number. Code that linkers rewrite (F6) is part of F5.
abbrev pub Holds : Requirement → ForeignLink → Type 0
Holds F1 l = loaded.IsLoaded l.files l.plan.plan l.certificate.objects
Holds F2 l = IsKept l
Holds F3 l = placed.IsPlaced l
Holds F4 l = AreNamesRight l × AreMergedRight l
Holds F5 l = All (IsFieldRight l) (relocations_of l)
Holds F6 l = Unit {0}
Holds F7 l = All (HoldsRest l) (placed_of l)
Holds F8 l = AreFramesRight l × HasRightTable l
Holds F9 l = IsThreadBlockRight l.image (placed_of l)
Holds F10 l = AreNotesRight l × IsFilled l
Holds F11 l = EntersRight l
Holds F12 l = AreHeadersRight l
Holds F13 l = HasTables l.image → AreTablesRight l

-- Sections that linkers edit, in a way that isn't judged: strings and constants that may be merged, but that relocations change or
-- whose section isn't one of read-only data by its name. A line that says where one is unedited has it judged.
abbrev pub constant_names : List (List ℕ)
constant_names = codes ".rodata" ∷ codes ".lrodata" ∷ []

abbrev pub is_of_constants : Piece → Bool
is_of_constants p = list_any (is_gathered_by p.name) constant_names

abbrev pub is_unmergeable : ForeignLink → Piece → Bool
is_unmergeable l p = is_mergeable p && (is_relocated l p || not (is_of_constants p))

abbrev pub is_edited : ForeignLink → Piece → Bool
is_edited l p = not (is_placed l p) && is_unmergeable l p

abbrev pub is_of_array : Piece → Bool
is_of_array p = list_any (is_gathered_by p.name) array_names

abbrev pub IsWholeArray : Piece → Type 0
IsWholeArray p = is_of_array p ≡ true → (p.align ≡ 8) × (p.size % 8 ≡ 0)

-- an object is one of a compiler's own code, of which the linker has the compiler make the machine's
abbrev pub is_lto : LoadedObject → Bool
is_lto o = list_any (λ h. starts_with nat_eq (name_of_section o.bytes h) (codes ".gnu.lto_")) (sections o.bytes)

abbrev pub IsJoined : ForeignLink → Piece → Type 0
IsJoined l p = is_property p ≡ true → is_placed l p ≡ false

-- a table is of frames of which the linker made a list
abbrev pub HasNoOtherTable : ForeignLink → Type 0
HasNoOtherTable l = has_own_frames l ≡ true → has_frame_table l.image ≡ false

-- What isn't judged: links whose inputs leave open what is right. Files, archives and objects that can't be read, as those of
-- other machines or with IFUNC symbols; objects for link-time optimization; two strong definitions of a name, unless the words ask
-- for the first; a common symbol that isn't sound; fields that leave their section, and places that overlap; instructions that
-- linkers may rewrite with a symbol inside; arrays of functions that gaps would break; names for where an output name begins and
-- ends whose sections are not of one run; a line for a property note, which linkers join; call frames that can't be read, and a table
-- of such as are as they came; and, until they are judged too, strings and constants that may be merged whose section relocations
-- change, or isn't one of read-only data by its name, without a line that says where they are unedited.
pub record IsJudged (l : ForeignLink) : Type 0 where
  pub compiled : All (λ o. is_lto o ≡ false) (objects_of l)
  pub readable : AreReadable l.files l.plan.plan
  pub arrays : All IsWholeArray (pieces_of l)
  pub unique : l.plan.takes_first ≡ false → AreUnique (objects_of l)
  pub commons : AreSoundCommons (objects_of l)
  pub inside : All IsInside (relocations_of l)
  pub apart : AllPairs AreFieldsApart (relocations_of l)
  pub whole : All (IsWholeInstruction (objects_of l)) (relocations_of l)
  pub unedited : All (λ p. is_edited l p ≡ false) (pieces_of l)
  pub framed : AreFramesReadable l
  pub joined : All (IsJoined l) (pieces_of l)
  pub unmixed : All (IsUnmixed l) l.certificate.names
  pub untabled : HasNoOtherTable l

-- A right link by its certificate; and a right link: one for which there is such a certificate.
pub record IsShown (l : ForeignLink) : Type 0 where
  pub judged : IsJudged l
  pub holds : (f : Requirement) → Holds f l

pub record IsRightForeign (files : List File) (words : List (List ℕ)) (image : List ℕ) : Type 0 where
  pub plan : ForeignPlan
  pub asked : IsAsked words plan
  pub certificate : CertificateRecord
  pub shown : IsShown (record { plan = plan; files = files; image = image; certificate = certificate })
