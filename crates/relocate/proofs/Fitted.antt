-- What is left to fit of relocations that get patches.
use Rattle.std.proofs.Common.{◌≡◌, List, [], ◌∷◌, ◌++◌, Err, IfErr, Result, subst, sym}
use Rattle.std.specs.Prelude.{All}
use Rattle.std.proofs.lemmas.List.Elements.{All-append, All-cons, All-head, All-nil}
use Rattle.elf_model.proofs.Listed.{All-parts}
use Rattle.elf_model.specs.Link.Loading.{LoadedObject}
use Rattle.elf_model.specs.Link.Placement.{Where}
use Rattle.elf_model.specs.Link.Relocation.{Relocation}
use Rattle.elf_model.specs.Link.RelocationValues.{Fits}
use Rattle.relocate.specs.declared.faults.RelocFault.{RelocFault}
use Rattle.relocate.specs.declared.faults.RelocFault.TheVariants as error
use Rattle.relocate.specs.Values.{FittingFails, IsPatchable}

pub record LeavesToFit (objects : List LoadedObject) (w : Where) (whole rest : List Relocation) : Type 0 where
  pub fit : All (Fits objects w) rest → All (Fits objects w) whole
  pub back : All (Fits objects w) whole → All (Fits objects w) rest
  pub patchable : All IsPatchable rest

pub fit_all :
    (objects : List LoadedObject) (w : Where) (whole rest : List Relocation) → rest ≡ whole → All IsPatchable whole →
    LeavesToFit objects w whole rest
fit_all objects w whole rest same patchable = record {
  fit = λ all. subst (All (Fits objects w)) same all;
  back = λ all. subst (All (Fits objects w)) (sym same) all;
  patchable = subst (All IsPatchable) (sym same) patchable;
}

pub fit_part :
    (objects : List LoadedObject) (w : Where) (whole rest here more : List Relocation) → rest ≡ here ++ more → All (Fits objects w) here →
    LeavesToFit objects w whole rest → LeavesToFit objects w whole more
fit_part objects w whole rest here more parts fits l =
    let k = subst (LeavesToFit objects w whole) parts l in
    record {
      fit = λ all. k.fit (All-append (Fits objects w) here more fits all);
      back = λ all. (All-parts (Fits objects w) here more (k.back all)).1;
      patchable = (All-parts IsPatchable here more k.patchable).1;
    }

-- the part in front gets patches
pub patchable_part :
    (objects : List LoadedObject) (w : Where) (whole rest here more : List Relocation) → rest ≡ here ++ more →
    LeavesToFit objects w whole rest → All IsPatchable here
patchable_part objects w whole rest here more parts l =
    let k = subst (LeavesToFit objects w whole) parts l in (All-parts IsPatchable here more k.patchable).0

pub fitting_fails :
    (objects : List LoadedObject) (w : Where) (whole rest here more : List Relocation) (e : RelocFault) → rest ≡ here ++ more →
    LeavesToFit objects w whole rest → FittingFails objects w here e → FittingFails objects w whole e
fitting_fails objects w whole rest here more error.Memory parts l f = tt
fitting_fails objects w whole rest here more error.Overflow parts l f = λ all.
    let k = subst (LeavesToFit objects w whole) parts l in f (All-parts (Fits objects w) here more (k.back all)).0
fitting_fails objects w whole rest here more _ parts l f = absurd f

-- of relocations that fit where others do
pub fitting_moved :
    (objects : List LoadedObject) (w : Where) (rs whole : List Relocation) (e : RelocFault) →
    (All (Fits objects w) whole → All (Fits objects w) rs) → FittingFails objects w rs e → FittingFails objects w whole e
fitting_moved objects w rs whole error.Memory fit f = tt
fitting_moved objects w rs whole error.Overflow fit f = λ all. f (fit all)
fitting_moved objects w rs whole _ fit f = absurd f

-- one that doesn't fit
pub one_fails : (objects : List LoadedObject) (w : Where) (r : Relocation) → (Fits objects w r → ⊥) → FittingFails objects w (r ∷ []) error.Overflow
one_fails objects w r never = λ all. never (All-head (Fits objects w) r [] all)

pub one_fits : (objects : List LoadedObject) (w : Where) (r : Relocation) → Fits objects w r → All (Fits objects w) (r ∷ [])
one_fits objects w r fits = All-cons (Fits objects w) r [] fits (All-nil (Fits objects w))

pub fit_none : (objects : List LoadedObject) (w : Where) (whole rest : List Relocation) → rest ≡ [] → LeavesToFit objects w whole rest → All (Fits objects w) whole
fit_none objects w whole rest none l = l.fit (subst (All (Fits objects w)) (sym none) (All-nil (Fits objects w)))

-- an error that is passed on
pub exit_fitting :
    {X : Type 0} (objects : List LoadedObject) (w : Where) (whole : List Relocation) (r : Result X RelocFault) (e : RelocFault) →
    (g : RelocFault) × (r ≡ Err g) × (g ≡ e) → FittingFails objects w whole e → IfErr r (FittingFails objects w whole)
exit_fitting objects w whole r e p f = rw (p.1, p.2) f
