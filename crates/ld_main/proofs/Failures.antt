-- Failures to write have the status of memory or of a device, and tell the path of the output that failed.
use Rattle.std.proofs.Common.{◌≡◌, ◌≤◌, ℕ, List, arith, inl, inr, subst, sym}
use Rattle.std.specs.Prelude.{Err, IfErr, IfSome, None, Option, Result, Some, option_map}
use Rattle.elf_model.specs.Inputs.Command.{Plan}
use Rattle.file_io.specs.declared.file_ids.OutputPath.{OutputPath}
use Rattle.image_write.specs.declared.sink.WriteFault.{WriteFault}
use Rattle.image_write.specs.declared.sink.WriteFault.TheVariants.{Device, Memory}
use Rattle.ld_main.specs.Program.{AreNamed, Faults, IsUnwritten, IsUnwrittenAt, IsUnwrittenMap, IsUnwrittenOf, Names, TellsUnwritten, failure_status, unwritten_path}
use Rattle.ld_main.specs.Tasks.{AreOutputsOf}
use Rattle.ld_main.specs.declared.failure.Failure.{Failure}
use Rattle.ld_main.specs.declared.failure.Failure.TheVariants as failure
use Rattle.ld_main.specs.declared.writing.Outputs.{Outputs}

high : (path : List ℕ) (fault : WriteFault) (f : Failure) → IsUnwritten path fault f → 3 ≤ failure_status f
high path Memory f is = omega (arith, is)
high path Device f is = let status = is.0 in omega (arith, status)

high_at : (Failed : Faults) (path : List ℕ) (f : Failure) → IsUnwrittenAt Failed path f → 3 ≤ failure_status f
high_at Failed path f u = high path u.fault f u.is

high_map :
    (Failed : Faults) (Named : Names) (image : List ℕ) (map : Option OutputPath) (f : Failure) → IsUnwrittenMap Failed Named image map f →
    3 ≤ failure_status f
high_map Failed Named image None f never = absurd never
high_map Failed Named image (Some m) f u = high_at Failed m.path.now f u.map_is

pub unwritten_high : (Failed : Faults) (Named : Names) (o : Outputs) (f : Failure) → IsUnwrittenOf Failed Named o f → 3 ≤ failure_status f
unwritten_high Failed Named o f (inl u) = high_at Failed o.image.path.now f u
unwritten_high Failed Named o f (inr u) = high_map Failed Named o.image.path.now o.map f u

-- what is told of a path that isn't written is so
told : (Failed : Faults) (path : List ℕ) (fault : WriteFault) (f : Failure) → Failed path fault → IsUnwritten path fault f → TellsUnwritten Failed f
told Failed path Memory (failure.CannotWrite p) there is = absurd (omega (arith, is))
told Failed path Memory (failure.Refused e s) there is = tt
told Failed path Memory (failure.CannotRead p) there is = tt
told Failed path Memory (failure.Overwrites p) there is = tt
told Failed path Device f there is = subst (λ (o : Option (List ℕ)). IfSome o (λ p. Failed p Device)) (sym is.1) there

told_at : (Failed : Faults) (path : List ℕ) (f : Failure) → IsUnwrittenAt Failed path f → TellsUnwritten Failed f
told_at Failed path f u = told Failed path u.fault f u.there u.is

told_map :
    (Failed : Faults) (Named : Names) (image : List ℕ) (map : Option OutputPath) (f : Failure) → IsUnwrittenMap Failed Named image map f →
    TellsUnwritten Failed f
told_map Failed Named image None f never = absurd never
told_map Failed Named image (Some m) f u = told_at Failed m.path.now f u.map_is

pub unwritten_told : (Failed : Faults) (Named : Names) (o : Outputs) (f : Failure) → IsUnwrittenOf Failed Named o f → TellsUnwritten Failed f
unwritten_told Failed Named o f (inl u) = told_at Failed o.image.path.now f u
unwritten_told Failed Named o f (inr u) = told_map Failed Named o.image.path.now o.map f u

-- a failure that tells no path as unwritten tells none wrongly
pub told_none : (Failed : Faults) (f : Failure) → unwritten_path f ≡ None → TellsUnwritten Failed f
told_none Failed f none = subst (λ (o : Option (List ℕ)). IfSome o (λ p. Failed p Device)) (sym none) tt

-- the outputs of a plan have their names where those of its task have
named_map : (Named : Names) (m : Option OutputPath) → IfSome m (λ o. Named o.path.now) → IfSome (option_map (λ o. o.path.now) m) Named
named_map Named None named = tt
named_map Named (Some m) named = named

pub named_of : (Named : Names) (p : Plan) (o : Outputs) → AreOutputsOf p o → AreNamed Named o → Named p.output × IfSome p.map Named
named_of Named p o are named =
    (subst Named are.image named.0, subst (λ (m : Option (List ℕ)). IfSome m Named) are.map (named_map Named o.map named.1))

-- what is so of a failure is so of a result that hands it on
pub passed_on :
    {X : Type 0} (P : Failure → Type 0) (r : Result X Failure) (f : Failure) → (e : Failure) × (r ≡ Err e) × (e ≡ f) → P f → IfErr r P
passed_on {X} P r f is so = subst (λ (s : Result X Failure). IfErr s P) (sym is.1) (subst P (sym is.2) so)
