-- Why `ld-judge` says nothing of a link: the exit statuses, and the lines that are printed.
use Rattle.std.specs.Prelude.{◌≡◌, ◌≢◌, ◌≤◌, ℕ, List, [], ◌∷◌, ◌++◌, None, OnOk, Option, Some, codes}
use Rattle.std.specs.Fmt.{decimal}
use Rattle.std.specs.Io.KnownBytes.{Appends}
use Rattle.elf_model.specs.Inputs.Command.{after}
use Rattle.ld_main.specs.Program.{PrintsFailure, failure_status}
use Rattle.judge_main.specs.declared.answer.Answer.{Answer}
use Rattle.judge_main.specs.declared.fault.Fault.{Fault}
use Rattle.judge_main.specs.declared.fault.Fault.TheVariants.{BadCertificate, Failed, NoCertificate}

abbrev pub fault_status : Fault → ℕ
fault_status NoCertificate = 2
fault_status (BadCertificate path line) = 2
fault_status (Failed f) = failure_status f

abbrev pub PrintsFault : Fault → Option (List ℕ) → Option (List ℕ) → Type 0
PrintsFault NoCertificate old new = Appends old new (codes "ld-judge: the first word is --certificate=FILE\n")
PrintsFault (BadCertificate path line) old new =
    Appends old new (codes "ld-judge: " ++ (path.now ++ (codes ": line " ++ (decimal line ++ codes " is none of a certificate\n"))))
PrintsFault (Failed f) old new = PrintsFailure f old new

-- what the word that names the certificate begins with
abbrev pub certificate_word : List ℕ
certificate_word = codes "--certificate="

-- the path of the certificate that the first of words names; None where it names none
abbrev pub certificate_path : List (List ℕ) → Option (List ℕ)
certificate_path [] = None
certificate_path (w ∷ ws) = after certificate_word w

-- a fault is one of files or of memory
abbrev pub IsFailed : Fault → Type 0
IsFailed (Failed f) = 3 ≤ failure_status f
IsFailed _ = ⊥

-- a fault is one of the certificate at a path
abbrev pub IsFaultAt : List ℕ → Fault → Type 0
IsFaultAt path NoCertificate = ⊥
IsFaultAt path (BadCertificate p line) = p.now ≡ path
IsFaultAt path (Failed f) = 3 ≤ failure_status f

-- a fault is one of a run with words: their first names no certificate; or it names one, whose text is none, with its path; or it names
-- one, and a file or memory can't be had
abbrev pub IsFaultOf : List (List ℕ) → Fault → Type 0
IsFaultOf words NoCertificate = certificate_path words ≡ None
IsFaultOf words (BadCertificate p line) = certificate_path words ≡ Some p.now
IsFaultOf words (Failed f) = (certificate_path words ≢ None) × (3 ≤ failure_status f)

-- an answer tells a fault of a kind: it has its status, and its line is printed
pub record TellsFault (Is : Fault → Type 0) (a : Answer) (old new : Option (List ℕ)) : Type 0 where
  pub fault : Fault
  pub is : Is fault
  pub status_is : a.status ≡ fault_status fault
  pub line : OnOk a.printed (PrintsFault fault old new)
