-- What `ld-judge` says of a link by the words of another linker's command, its exit status, and what is printed.
use Rattle.std.specs.Prelude.{◌≡◌, ◌⊎◌, ◌≤◌, ℕ, List, ◌∷◌, [], ◌++◌, OnOk, Option, codes}
use Rattle.std.specs.Fmt.{decimal}
use Rattle.std.specs.Io.KnownBytes.{Appends}
use Rattle.elf_model.specs.Inputs.Files.{File}
use Rattle.judge_model.specs.Certificates.{CertificateRecord}
use Rattle.judge_model.specs.Plans.{ForeignPlan}
use Rattle.judge_model.specs.RightForeign.{IsRightForeign}
use Rattle.judge_model.specs.Words.{IsAsked}
use Rattle.link_judge.specs.Judged.{IsJudgedBy, requirement_number}
use Rattle.link_judge.specs.declared.judgement.Judgement.{Judgement}
use Rattle.link_judge.specs.declared.judgement.Judgement.TheVariants as judgement
use Rattle.link_judge.specs.declared.judgement.Place.{Place}
use Rattle.link_judge.specs.declared.judgement.Place.TheVariants.{Field, Rest}
use Rattle.link_judge.specs.declared.judgement.Reason.{Reason}
use Rattle.link_judge.specs.declared.judgement.Reason.TheVariants as reason
use Rattle.judge_main.specs.declared.answer.Answer.{Answer}
use Rattle.judge_main.specs.declared.opinion.Opinion.{Opinion}
use Rattle.judge_main.specs.declared.opinion.Opinion.TheVariants.{OtherWords, Right, Unjudged, Wrong, WrongAt}

-- there is a right link by words
abbrev pub HasRightForeign : List (List ℕ) → Type 0
HasRightForeign words = (files : List File) × ((image : List ℕ) × IsRightForeign files words image)

-- what is said where a link is judged
abbrev pub opinion_of : Judgement → Opinion
opinion_of judgement.Yes = Right
opinion_of (judgement.No f) = Wrong f
opinion_of (judgement.NoAt p) = WrongAt p
opinion_of (judgement.NotJudged r) = Unjudged r

-- an opinion is one of files, an image and a certificate by words: what the judgement of these says; or that the words are none that
-- are judged
abbrev pub IsOpinion : List (List ℕ) → List File → List ℕ → CertificateRecord → Opinion → Type 0
IsOpinion words files image certificate Right = IsJudgedBy words files image certificate judgement.Yes
IsOpinion words files image certificate (Wrong f) = IsJudgedBy words files image certificate (judgement.No f)
IsOpinion words files image certificate (WrongAt p) = IsJudgedBy words files image certificate (judgement.NoAt p)
IsOpinion words files image certificate (Unjudged r) = IsJudgedBy words files image certificate (judgement.NotJudged r)
IsOpinion words files image certificate OtherWords = (p : ForeignPlan) → IsAsked words p → ⊥

-- the exit statuses
abbrev pub opinion_status : Opinion → ℕ
opinion_status Right = 0
opinion_status (Wrong f) = 1
opinion_status (WrongAt p) = 1
opinion_status OtherWords = 5
opinion_status (Unjudged r) = 5

abbrev pub subject : Reason → List ℕ
subject reason.Unreadable = codes "an input that can't be read"
subject reason.Objects = codes "objects that leave open what is right"
subject reason.Arrays = codes "an array of functions that may have gaps"
subject reason.Edited = codes "strings that the linker edited"
subject reason.Records = codes "call frames that can't be judged"
subject reason.Joined = codes "a line for a property note"
subject reason.Mixed = codes "sections of one name that are of several runs"
subject reason.Fields = codes "fields that overlap or leave their section"
subject reason.Code = codes "code for thread-local storage that the linker may have rewritten"
subject reason.Frames = codes "a table of frames that the linker made"

-- where a requirement fails, and which
abbrev pub place_text : Place → List ℕ
place_text (Field w) =
    codes "no F5\n  object "
    ++ (decimal w.object
    ++ (codes ", section "
    ++ (decimal w.section
    ++ (codes ", offset " ++ (decimal w.offset ++ (codes ": the field of a relocation of type " ++ (decimal w.kind ++ 10 ∷ [])))))))
place_text (Rest w) =
    codes "no F7\n  object "
    ++ (decimal w.object ++ (codes ", section " ++ (decimal w.section ++ codes ": bytes beside the fields of relocations\n")))

abbrev pub opinion_text : Opinion → List ℕ
opinion_text Right = codes "yes\n"
opinion_text (Wrong f) = codes "no F" ++ decimal (requirement_number f) ++ 10 ∷ []
opinion_text (WrongAt p) = place_text p
opinion_text OtherWords = codes "not judged: words that aren't known\n"
opinion_text (Unjudged r) = codes "not judged: " ++ subject r ++ 10 ∷ []

-- a status is one of what is said of a link
abbrev pub IsSaid : ℕ → Type 0
IsSaid status = (status ≤ 1) ⊎ (status ≡ 5)

-- an answer says an opinion of files, an image and a certificate by words: it has its status, and its line is printed
pub record Says (words : List (List ℕ)) (files : List File) (image : List ℕ) (certificate : CertificateRecord) (a : Answer) (old new : Option (List ℕ)) :
    Type 0 where
  pub opinion : Opinion
  pub judged : IsOpinion words files image certificate opinion
  pub status_is : a.status ≡ opinion_status opinion
  pub line : OnOk a.printed (Appends old new (opinion_text opinion))

-- it says one of a certificate with some files and an image
abbrev pub SaysWith : List (List ℕ) → CertificateRecord → Answer → Option (List ℕ) → Option (List ℕ) → Type 0
SaysWith words certificate a old new = (files : List File) × (image : List ℕ) × Says words files image certificate a old new

-- it says one of some files, an image and a certificate
abbrev pub SaysSome : List (List ℕ) → Answer → Option (List ℕ) → Option (List ℕ) → Type 0
SaysSome words a old new = (certificate : CertificateRecord) × SaysWith words certificate a old new
