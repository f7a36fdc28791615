-- Faults that are told: those behind the certificate are faults of a run whose words name one.
use Rattle.std.proofs.Common.{◌≡◌, ◌≤◌, ℕ, List, [], ◌∷◌, None, arith, inl, inr, length, refl, subst, sym}
use Rattle.std.specs.Prelude.{◌≢◌, Option, String, string_bytes}
use Rattle.std.specs.declared.alloc.Global.{Global}
use Rattle.elf_model.specs.Inputs.Command.{after}
use Rattle.elf_model.specs.Inputs.Files.{words_of}
use Rattle.elf_model.specs.declared.faults.LinkError.{LinkError}
use Rattle.elf_model.specs.declared.faults.LinkError.TheVariants as error
use Rattle.ld_main.specs.Program.{error_status, failure_status}
use Rattle.ld_main.specs.declared.failure.Failure.{Failure}
use Rattle.ld_main.specs.declared.failure.Failure.TheVariants as failure
use Rattle.judge_main.specs.Opinions.{IsSaid}
use Rattle.judge_main.specs.Faults.{IsFailed, IsFaultOf, TellsFault, certificate_path, certificate_word, fault_status}
use Rattle.judge_main.specs.declared.answer.Answer.{Answer}
use Rattle.judge_main.specs.declared.fault.Fault.{Fault}
use Rattle.judge_main.specs.declared.fault.Fault.TheVariants.{BadCertificate, Failed, NoCertificate}

-- the path that the first word names
pub first_path :
    (ws rest : List (String Global)) (w : String Global) (b : List ℕ) (r : Option (List ℕ)) → ws ≡ w ∷ rest → b ≡ string_bytes w →
    r ≡ after certificate_word b → r ≡ certificate_path (words_of ws)
first_path ws rest w b r parts e is =
    subst (λ (xs : List (String Global)). r ≡ certificate_path (words_of xs)) (sym parts) (subst (λ (x : List ℕ). r ≡ after certificate_word x) e is)

pub no_path : (ws : List (String Global)) → length ws ≡ 0 → None ≡ certificate_path (words_of ws)
no_path [] none = refl
no_path (w ∷ ws) none = absurd (omega (arith, none))

-- a fault for want of memory
pub failed_of_memory : (f : Fault) → fault_status f ≡ 4 → IsFailed f
failed_of_memory NoCertificate four = absurd (omega (arith, four))
failed_of_memory (BadCertificate p line) four = absurd (omega (arith, four))
failed_of_memory (Failed f) four = omega (arith, four)

of_failed : (words : List (List ℕ)) (f : Fault) → certificate_path words ≢ None → IsFailed f → IsFaultOf words f
of_failed words NoCertificate named failed = absurd failed
of_failed words (BadCertificate p line) named failed = absurd failed
of_failed words (Failed f) named failed = (named, failed)

pub told_of_failed :
    (words : List (List ℕ)) (a : Answer) (old new : Option (List ℕ)) → certificate_path words ≢ None → TellsFault IsFailed a old new →
    TellsFault (IsFaultOf words) a old new
told_of_failed words a old new named told = record {
  fault = told.fault;
  is = of_failed words told.fault named told.is;
  status_is = told.status_is;
  line = told.line;
}

-- where the first word names no certificate, the status is 2
pub unnamed_status : (words : List (List ℕ)) (f : Fault) → certificate_path words ≡ None → IsFaultOf words f → fault_status f ≡ 2
unnamed_status words NoCertificate none is = refl
unnamed_status words (BadCertificate p line) none is = refl
unnamed_status words (Failed f) none is = absurd (is.0 none)

-- a failure to read has no status of what is said of a link
few : (e : LinkError) → error_status e ≤ 4
few error.Memory = omega arith
few (error.Command f) = omega arith
few error.FileMissing = omega arith
few _ = omega arith

few_statuses : (f : Failure) → failure_status f ≤ 4
few_statuses (failure.Refused e s) = few e
few_statuses _ = omega arith

pub never_said : (f : Failure) → 3 ≤ failure_status f → IsSaid (failure_status f) → ⊥
never_said f high (inl low) = omega (arith, high, low)
never_said f high (inr five) = let low = few_statuses f in omega (arith, five, low)
