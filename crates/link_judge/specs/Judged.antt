-- What a judgement says of a link.
use Rattle.std.specs.Prelude.{◌≡◌, ◌==◌, ◌⊎◌, ℕ, ◌<◌, Bool, List, [], ◌∷◌, true}
use Rattle.std.specs.List.{list_any}
use Rattle.elf_model.specs.Inputs.Files.{File}
use Rattle.elf_model.specs.Inputs.ObjectFile.{rela_type}
use Rattle.elf_model.specs.Link.Relocation.{Relocation}
use Rattle.judge_model.specs.Certificates.{CertificateRecord, IsInOrder}
use Rattle.judge_model.specs.Frames.{AreFramesReadable}
use Rattle.judge_model.specs.Headers.{IsProgram}
use Rattle.judge_model.specs.Loaded.{AreReadable}
use Rattle.judge_model.specs.Links.{ForeignLink, relocations_of}
use Rattle.judge_model.specs.Plans.{ForeignPlan}
use Rattle.judge_model.specs.RightForeign.{HasNoOtherTable, Holds, IsJudged, IsShown}
use Rattle.judge_model.specs.Words.{IsAsked}
use Rattle.judge_model.specs.declared.judgement.Requirement.{Requirement}
use Rattle.judge_model.specs.declared.judgement.Requirement.TheVariants.{F1, F2, F3, F4, F5, F6, F7, F8, F9, F10, F11, F12, F13}
use Rattle.link_judge.specs.Inputs.{AreArraysWhole, AreFieldsSound, AreNamesUnmixed, AreNotesJoined, AreObjectsSound, AreUnedited}
use Rattle.link_fields.specs.Wrong.{IsWrongField, IsWrongRest}
use Rattle.link_judge.specs.declared.judgement.Judgement.{Judgement}
use Rattle.link_judge.specs.declared.judgement.Judgement.TheVariants.{No, NoAt, NotJudged, Yes}
use Rattle.link_judge.specs.declared.judgement.Place.{Place}
use Rattle.link_judge.specs.declared.judgement.Place.TheVariants.{Field, Rest}
use Rattle.link_judge.specs.declared.judgement.Reason.{Reason}
use Rattle.link_judge.specs.declared.judgement.Reason.TheVariants as reason

abbrev pub requirement_number : Requirement → ℕ
requirement_number F1 = 1
requirement_number F2 = 2
requirement_number F3 = 3
requirement_number F4 = 4
requirement_number F5 = 5
requirement_number F6 = 6
requirement_number F7 = 7
requirement_number F8 = 8
requirement_number F9 = 9
requirement_number F10 = 10
requirement_number F11 = 11
requirement_number F12 = 12
requirement_number F13 = 13

-- all requirements with a smaller number hold
abbrev pub HoldsBefore : Requirement → ForeignLink → Type 0
HoldsBefore f l = (g : Requirement) → requirement_number g < requirement_number f → Holds g l

-- A requirement is the first one that fails of a link that is judged.
pub record IsFirst (f : Requirement) (l : ForeignLink) : Type 0 where
  pub judged : IsJudged l
  pub before : HoldsBefore f l

-- Code asks for thread-local storage in one of the ways of shared objects (ELF Handling For Thread-Local Storage, "Linker
-- Optimizations"): a relocation of the image's sections is R_X86_64_TLSGD, R_X86_64_TLSLD, R_X86_64_GOTPC32_TLSDESC or
-- R_X86_64_TLSDESC_CALL. Linkers rewrite such code, and no rule says yet which fields and bytes are right there.
abbrev pub shared_thread_kinds : List ℕ
shared_thread_kinds = 19 ∷ 20 ∷ 34 ∷ 35 ∷ []

abbrev pub is_shared_thread : Relocation → Bool
is_shared_thread r = list_any (λ k. rela_type r.entry == k) shared_thread_kinds

abbrev pub has_shared_thread_code : ForeignLink → Bool
has_shared_thread_code l = list_any is_shared_thread (relocations_of l)

abbrev pub HasSharedThreadCode : ForeignLink → Type 0
HasSharedThreadCode l = has_shared_thread_code l ≡ true

-- F5 and F7 are told only of links without such code.
abbrev pub IsCodePlain : Requirement → ForeignLink → Type 0
IsCodePlain F5 l = ¬ HasSharedThreadCode l
IsCodePlain F7 l = ¬ HasSharedThreadCode l
IsCodePlain _ l = Unit {0}

-- A requirement that fails is told where it is the first one; F1 is also told of links that aren't judged, F3 where the lines of the
-- certificate aren't in order, and F12 where the image is no program.
abbrev pub IsTold : Requirement → ForeignLink → Type 0
IsTold f l = IsFirst f l ⊎ (f ≡ F1) ⊎ ((f ≡ F3) × (¬ IsInOrder l.certificate)) ⊎ ((f ≡ F12) × (¬ IsProgram l.image))

pub record Fails (f : Requirement) (l : ForeignLink) : Type 0 where
  pub fails : ¬ Holds f l
  pub told : IsTold f l
  pub code : IsCodePlain f l

-- Where a requirement fails: the one that a place is about, and what isn't right there.
abbrev pub requirement_of : Place → Requirement
requirement_of (Field w) = F5
requirement_of (Rest w) = F7

abbrev pub IsWrongAt : Place → ForeignLink → Type 0
IsWrongAt (Field w) l = IsWrongField l w
IsWrongAt (Rest w) l = IsWrongRest l w

pub record FailsAt (p : Place) (l : ForeignLink) : Type 0 where
  pub requirement : Fails (requirement_of p) l
  pub wrong : IsWrongAt p l

-- Why a link isn't judged: a part of IsJudged doesn't hold; or fields or bytes aren't right,
-- which may be as the linker rewrote code that asks for thread-local storage.
abbrev pub IsReason : Reason → ForeignLink → Type 0
IsReason reason.Unreadable l = ¬ AreReadable l.files l.plan.plan
IsReason reason.Objects l = ¬ AreObjectsSound l
IsReason reason.Arrays l = ¬ AreArraysWhole l
IsReason reason.Edited l = ¬ AreUnedited l
IsReason reason.Records l = ¬ AreFramesReadable l
IsReason reason.Joined l = ¬ AreNotesJoined l
IsReason reason.Mixed l = ¬ AreNamesUnmixed l
IsReason reason.Fields l = ¬ AreFieldsSound l
IsReason reason.Frames l = ¬ HasNoOtherTable l
IsReason reason.Code l = HasSharedThreadCode l × ((¬ Holds F5 l) ⊎ (¬ Holds F7 l))

-- a yes: the link is judged, and all requirements hold
abbrev pub Judges : Judgement → ForeignLink → Type 0
Judges Yes l = IsShown l
Judges (No f) l = Fails f l
Judges (NoAt p) l = FailsAt p l
Judges (NotJudged r) l = IsReason r l

-- the link of files by a plan, which has an image, with a certificate
abbrev pub link_of : List File → ForeignPlan → List ℕ → CertificateRecord → ForeignLink
link_of files plan image certificate = record { plan = plan; files = files; image = image; certificate = certificate }

-- it is what a judgement says of the link by the plan that words ask for
pub record IsJudgedBy (words : List (List ℕ)) (files : List File) (image : List ℕ) (certificate : CertificateRecord) (j : Judgement) : Type 0 where
  pub plan : ForeignPlan
  pub asked : IsAsked words plan
  pub judges : Judges j (link_of files plan image certificate)
