-- The exit statuses of the program and its lines, and what they say.
use Rattle.std.specs.Prelude.{◌≡◌, ◌↔◌, ◌⊎◌, ℕ, List, Option, None, Some, [], ◌∷◌, ◌++◌, Bool, true, false, IfSome, Ok, codes, option_map}
use Rattle.std.specs.Cow.{cow_str_bytes}
use Rattle.std.specs.Fmt.{decimal}
use Rattle.std.specs.Io.KnownBytes.{Appends}
use Rattle.elf_model.specs.Inputs.Command.{Plan, command_of}
use Rattle.elf_model.specs.Inputs.Files.{File}
use Rattle.elf_model.specs.Image.RightLink.{IsRightLink, Least, clause_number}
use Rattle.elf_model.specs.declared.faults.CmdFault.{CmdFault}
use Rattle.elf_model.specs.declared.faults.LinkError.{LinkError}
use Rattle.elf_model.specs.declared.faults.LinkError.TheVariants as error
use Rattle.elf_model.specs.declared.verdict.Clause.{Clause}
use Rattle.file_io.specs.declared.file_ids.OutputPath.{OutputPath}
use Rattle.image_write.specs.declared.sink.WriteFault.{WriteFault}
use Rattle.image_write.specs.declared.sink.WriteFault.TheVariants as write_fault
use Rattle.linker.specs.Refusals.{of_command}
use Rattle.ld_main.specs.RefusalTexts.{refusal_line}
use Rattle.ld_main.specs.declared.failure.Failure.{Failure}
use Rattle.ld_main.specs.declared.failure.Failure.TheVariants as failure
use Rattle.ld_main.specs.declared.outcome.Outcome.{Outcome}
use Rattle.ld_main.specs.declared.outcome.Outcome.TheVariants as outcome
use Rattle.ld_main.specs.declared.writing.Outputs.{Outputs}

-- an image and the text of a map are a right link of these files by these words
abbrev pub LinksRight : List File → List (List ℕ) → Type 0
LinksRight files words = (image : List ℕ) × (text : List ℕ) × IsRightLink files words image text

-- some files, an image and the text of a map are a right link by these words
abbrev pub HasRightLink : List (List ℕ) → Type 0
HasRightLink words = (files : List File) × LinksRight files words

-- the status of a refusal
abbrev pub error_status : LinkError → ℕ
error_status error.Memory = 4
error_status (error.Command f) = 2
error_status error.FileMissing = 3
error_status _ = 1

-- the status of a fault of the words
abbrev pub words_status : CmdFault → ℕ
words_status f = error_status (of_command f)

-- the status of a failure
abbrev pub failure_status : Failure → ℕ
failure_status (failure.Refused e s) = error_status e
failure_status _ = 3

-- the path that a failure says isn't written
abbrev pub unwritten_path : Failure → Option (List ℕ)
unwritten_path (failure.CannotWrite path) = Some path.now
unwritten_path _ = None

-- the path that a failure says is that of an input, so isn't written
abbrev pub overwriting_path : Failure → Option (List ℕ)
overwriting_path (failure.Overwrites path) = Some path.now
overwriting_path _ = None

-- the path that a failure says isn't read
abbrev pub unread_path : Failure → Option (List ℕ)
unread_path (failure.CannotRead path) = Some (cow_str_bytes path)
unread_path _ = None

-- a failure in reading at a path: for want of memory, or of the path
abbrev pub IsUnread : List ℕ → Failure → Type 0
IsUnread path f = (failure_status f ≡ 4) ⊎ (unread_path f ≡ Some path)

-- the failure for a fault in writing at a path: for want of memory, or of the path
abbrev pub IsUnwritten : List ℕ → WriteFault → Failure → Type 0
IsUnwritten path write_fault.Memory f = failure_status f ≡ 4
IsUnwritten path write_fault.Device f = (failure_status f ≡ 3) × (unwritten_path f ≡ Some path)

-- What a system did with outputs, as far as it is told: at which paths writing came to which faults, and which outputs have their names.
abbrev pub Faults : Type 1
Faults = List ℕ → WriteFault → Type 0

abbrev pub Names : Type 1
Names = List ℕ → Type 0

-- the failure for a fault that came in writing at a path
pub record IsUnwrittenAt (Failed : Faults) (path : List ℕ) (f : Failure) : Type 0 where
  pub fault : WriteFault
  pub there : Failed path fault
  pub is : IsUnwritten path fault f

-- the same of a map behind its image; where it is no want of memory, the image has its name
pub record IsUnwrittenBehind (Failed : Faults) (Named : Names) (image map : List ℕ) (f : Failure) : Type 0 where
  pub map_is : IsUnwrittenAt Failed map f
  pub image_is : failure_status f ≡ 3 → Named image

-- the failure in writing outputs is that of the output at whose path writing came to a fault
abbrev pub IsUnwrittenMap : Faults → Names → List ℕ → Option OutputPath → Failure → Type 0
IsUnwrittenMap Failed Named image None f = ⊥
IsUnwrittenMap Failed Named image (Some m) f = IsUnwrittenBehind Failed Named image m.path.now f

abbrev pub IsUnwrittenOf : Faults → Names → Outputs → Failure → Type 0
IsUnwrittenOf Failed Named o f = IsUnwrittenAt Failed o.image.path.now f ⊎ IsUnwrittenMap Failed Named o.image.path.now o.map f

-- where a failure says that a path isn't written, writing there came to a fault of its device
abbrev pub TellsUnwritten : Faults → Failure → Type 0
TellsUnwritten Failed f = IfSome (unwritten_path f) (λ path. Failed path write_fault.Device)

-- all outputs have their names
abbrev pub AreNamed : Names → Outputs → Type 0
AreNamed Named o = Named o.image.path.now × IfSome o.map (λ m. Named m.path.now)

-- what is printed of a failure to read or to write: its line, with the path; the line of a refusal isn't said here
abbrev pub path_line : List ℕ → List ℕ → List ℕ
path_line what path = what ++ path ++ 10 ∷ []

abbrev pub PrintsFailure : Failure → Option (List ℕ) → Option (List ℕ) → Type 0
PrintsFailure (failure.Refused e s) old new = Appends old new (refusal_line e (option_map (λ v. v.items) s))
PrintsFailure (failure.CannotRead path) old new = Appends old new (path_line (codes "ld: cannot read ") (cow_str_bytes path))
PrintsFailure (failure.CannotWrite path) old new = Appends old new (path_line (codes "ld: cannot write ") path.now)
PrintsFailure (failure.Overwrites path) old new = Appends old new (path_line (codes "ld: cannot write ") path.now)

-- the line of a failure with a status is printed; a path that it says isn't written is one at which writing came to a fault, or of an
-- output that is an input
abbrev pub TellsFailure : Faults → ℕ → Option (List ℕ) → Option (List ℕ) → Type 0
TellsFailure Failed status old new =
    (f : Failure) × (failure_status f ≡ status) × TellsUnwritten Failed f × PrintsFailure f old new

-- the status of an outcome
abbrev pub outcome_status : Outcome → ℕ
outcome_status (outcome.Wrong c) = 1
outcome_status _ = 0

-- the line of a clause that fails, and what is printed of an outcome
abbrev pub clause_line : Clause → List ℕ
clause_line c = codes "no C" ++ decimal (clause_number c) ++ 10 ∷ []

abbrev pub outcome_text : Outcome → List ℕ
outcome_text outcome.Linked = []
outcome_text outcome.Right = codes "yes\n"
outcome_text (outcome.Wrong c) = clause_line c

-- an outcome is one of a check
abbrev pub is_checked : Outcome → Bool
is_checked outcome.Linked = false
is_checked _ = true

-- an outcome is that of the check of an image and the text of a map, and of files by words: exactly a right link is right, and
-- exactly the least clause that fails is told
pub record Judges (files : List File) (words : List (List ℕ)) (image text : List ℕ) (o : Outcome) : Type 0 where
  pub checked : is_checked o ≡ true
  pub right : (o ≡ outcome.Right) ↔ IsRightLink files words image text
  pub wrong : (c : Clause) → (o ≡ outcome.Wrong c) ↔ Least c files words image text

-- the same of an image and a text that were read
abbrev pub JudgesSome : List File → List (List ℕ) → Outcome → Type 0
JudgesSome files words o = (image : List ℕ) × (text : List ℕ) × Judges files words image text o

-- what is printed of the check of files, an image and a text by words, with a status
abbrev pub Prints : List (List ℕ) → ℕ → Option (List ℕ) → Option (List ℕ) → Type 0
Prints words status old new =
    (files : List File) × (o : Outcome) × JudgesSome files words o × (status ≡ outcome_status o) × Appends old new (outcome_text o)

-- a command that the words are asks for a check, or for none
abbrev pub Asks : Bool → List (List ℕ) → Type 0
Asks check words = (plan : Plan) → command_of words ≡ Ok plan → plan.check ≡ check
