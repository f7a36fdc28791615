-- Why a part of relocations isn't lawful is why the whole isn't, and what is left to judge of the whole.
use Rattle.std.proofs.Common.{◌≡◌, Err, IfErr, Result, List, [], ◌∷◌, ◌++◌, subst, sym}
use Rattle.std.specs.Prelude.{All, Any, None}
use Rattle.std.proofs.lemmas.List.Elements.{All-append, All-cons, All-nil, Contains-append_left, Contains-append_right}
use Rattle.elf_model.proofs.Finding.{Any-here}
use Rattle.elf_model.proofs.Pairs.{AllPairs-append, AllPairs-nil, AllPairs-parts}
use Rattle.elf_model.specs.Own.Causes.{IsToDropped, IsToMixed, IsUndefinedName}
use Rattle.elf_model.specs.Link.Loading.{LoadedObject}
use Rattle.elf_model.specs.Link.Relocation.{AreFieldsApart, IsFieldInside, IsLawfulRelocation, IsThreadMismatch, Relocation, relocation_kind}
use Rattle.relocate.specs.declared.faults.RelocFault.{RelocFault}
use Rattle.relocate.specs.declared.faults.RelocFault.TheVariants as error
use Rattle.relocate.specs.References.{AreLawful, RelocationFails, RelocationsFail}

module _ {X : Type 0} (P : X → Type 0) where
  pub Any-left : (xs ys : List X) → Any P xs → Any P (xs ++ ys)
  Any-left xs ys a = let c = Contains-append_left xs ys a.1 (a.0, a.2, a.3) in (c.0, a.1, c.1, c.2, a.4)

  pub Any-right : (xs ys : List X) → Any P ys → Any P (xs ++ ys)
  Any-right xs ys a = let c = Contains-append_right xs ys a.1 (a.0, a.2, a.3) in (c.0, a.1, c.1, c.2, a.4)

pub fail_first : (objects : List LoadedObject) (r : Relocation) (rs : List Relocation) (e : RelocFault) → RelocationFails objects r e → RelocationsFail objects (r ∷ rs) e
fail_first objects r rs error.Memory f = tt
fail_first objects r rs (error.Undefined name) f = Any-here (IsUndefinedName name.items objects) r rs f
fail_first objects r rs error.RefToDropped f = Any-here (IsToDropped objects) r rs f
fail_first objects r rs error.RelocKind f = Any-here (λ (t : Relocation). relocation_kind t ≡ None) r rs f
fail_first objects r rs error.FieldOutside f = Any-here (λ (t : Relocation). ¬ IsFieldInside t) r rs f
fail_first objects r rs error.OverlappingFields f = absurd f
fail_first objects r rs error.TlsMismatch f = Any-here (IsThreadMismatch objects) r rs f
fail_first objects r rs error.MixedSection f = Any-here (IsToMixed objects) r rs f
fail_first objects r rs _ f = absurd f

pub fail_left : (objects : List LoadedObject) (xs ys : List Relocation) (e : RelocFault) → RelocationsFail objects xs e → RelocationsFail objects (xs ++ ys) e
fail_left objects xs ys error.Memory f = tt
fail_left objects xs ys (error.Undefined name) f = Any-left (IsUndefinedName name.items objects) xs ys f
fail_left objects xs ys error.RefToDropped f = Any-left (IsToDropped objects) xs ys f
fail_left objects xs ys error.RelocKind f = Any-left (λ (t : Relocation). relocation_kind t ≡ None) xs ys f
fail_left objects xs ys error.FieldOutside f = Any-left (λ (t : Relocation). ¬ IsFieldInside t) xs ys f
fail_left objects xs ys error.OverlappingFields f = λ pairs. f (AllPairs-parts AreFieldsApart xs ys pairs).0
fail_left objects xs ys error.TlsMismatch f = Any-left (IsThreadMismatch objects) xs ys f
fail_left objects xs ys error.MixedSection f = Any-left (IsToMixed objects) xs ys f
fail_left objects xs ys _ f = absurd f

pub fail_right : (objects : List LoadedObject) (xs ys : List Relocation) (e : RelocFault) → RelocationsFail objects ys e → RelocationsFail objects (xs ++ ys) e
fail_right objects xs ys error.Memory f = tt
fail_right objects xs ys (error.Undefined name) f = Any-right (IsUndefinedName name.items objects) xs ys f
fail_right objects xs ys error.RefToDropped f = Any-right (IsToDropped objects) xs ys f
fail_right objects xs ys error.RelocKind f = Any-right (λ (t : Relocation). relocation_kind t ≡ None) xs ys f
fail_right objects xs ys error.FieldOutside f = Any-right (λ (t : Relocation). ¬ IsFieldInside t) xs ys f
fail_right objects xs ys error.OverlappingFields f = λ pairs. f (AllPairs-parts AreFieldsApart xs ys pairs).1
fail_right objects xs ys error.TlsMismatch f = Any-right (IsThreadMismatch objects) xs ys f
fail_right objects xs ys error.MixedSection f = Any-right (IsToMixed objects) xs ys f
fail_right objects xs ys _ f = absurd f

-- rest is left to judge of the whole
pub record Leaves (objects : List LoadedObject) (whole rest : List Relocation) : Type 0 where
  pub lawful : All (IsLawfulRelocation objects) rest → All (IsLawfulRelocation objects) whole
  pub fails : (e : RelocFault) → RelocationsFail objects rest e → RelocationsFail objects whole e

pub leaves_all : (objects : List LoadedObject) (whole rest : List Relocation) → rest ≡ whole → Leaves objects whole rest
leaves_all objects whole rest same = record {
  lawful = λ all. subst (All (IsLawfulRelocation objects)) same all;
  fails = λ e f. subst (λ (rs : List Relocation). RelocationsFail objects rs e) same f;
}

pub leaves_same : (objects : List LoadedObject) (whole rest more : List Relocation) → rest ≡ more → Leaves objects whole rest → Leaves objects whole more
leaves_same objects whole rest more same l = subst (Leaves objects whole) same l

-- a lawful part is judged
pub leaves_part :
    (objects : List LoadedObject) (whole rest here more : List Relocation) → rest ≡ here ++ more → All (IsLawfulRelocation objects) here →
    Leaves objects whole rest → Leaves objects whole more
leaves_part objects whole rest here more parts each l =
    let k = leaves_same objects whole rest (here ++ more) parts l in
    record {
      lawful = λ all. k.lawful (All-append (IsLawfulRelocation objects) here more each all);
      fails = λ e f. k.fails e (fail_right objects here more e f);
    }

pub leaves_fail :
    (objects : List LoadedObject) (whole rest here more : List Relocation) (e : RelocFault) → rest ≡ here ++ more → RelocationsFail objects here e →
    Leaves objects whole rest → RelocationsFail objects whole e
leaves_fail objects whole rest here more e parts f l =
    let k = leaves_same objects whole rest (here ++ more) parts l in k.fails e (fail_left objects here more e f)

pub leaves_one :
    (objects : List LoadedObject) (whole rest : List Relocation) (r : Relocation) (more : List Relocation) → rest ≡ r ∷ more → IsLawfulRelocation objects r →
    Leaves objects whole rest → Leaves objects whole more
leaves_one objects whole rest r more parts here l =
    leaves_part objects whole rest (r ∷ []) more parts (All-cons (IsLawfulRelocation objects) r [] here (All-nil (IsLawfulRelocation objects))) l

pub leaves_none : (objects : List LoadedObject) (whole rest : List Relocation) → rest ≡ [] → Leaves objects whole rest → All (IsLawfulRelocation objects) whole
leaves_none objects whole rest none l = l.lawful (subst (All (IsLawfulRelocation objects)) (sym none) (All-nil (IsLawfulRelocation objects)))

-- an error that is passed on
pub exit_fails :
    {X : Type 0} (objects : List LoadedObject) (whole : List Relocation) (r : Result X RelocFault) (e : RelocFault) →
    (g : RelocFault) × (r ≡ Err g) × (g ≡ e) → RelocationsFail objects whole e → IfErr r (RelocationsFail objects whole)
exit_fails objects whole r e p f = rw (p.1, p.2) f

-- the same with the fields of the rest, for all objects
pub record Remains (objects : List LoadedObject) (whole rest : List Relocation) : Type 0 where
  pub lawful : AreLawful objects rest → AreLawful objects whole
  pub fails : (e : RelocFault) → RelocationsFail objects rest e → RelocationsFail objects whole e

pub remains_all : (objects : List LoadedObject) (whole : List Relocation) → Remains objects whole whole
remains_all objects whole = record { lawful = λ a. a; fails = λ e f. f }

pub remains_part :
    (objects : List LoadedObject) (whole rest here more : List Relocation) → rest ≡ here ++ more → AreLawful objects here →
    All (λ r. All (AreFieldsApart r) more) here → Remains objects whole rest → Remains objects whole more
remains_part objects whole rest here more parts a cross l =
    let k = subst (Remains objects whole) parts l in
    record {
      lawful = λ b. k.lawful (record {
        each = All-append (IsLawfulRelocation objects) here more a.each b.each;
        apart = AllPairs-append AreFieldsApart here more a.apart b.apart cross;
      });
      fails = λ e f. k.fails e (fail_right objects here more e f);
    }

pub remains_fail :
    (objects : List LoadedObject) (whole rest here more : List Relocation) (e : RelocFault) → rest ≡ here ++ more → RelocationsFail objects here e →
    Remains objects whole rest → RelocationsFail objects whole e
remains_fail objects whole rest here more e parts f l =
    let k = subst (Remains objects whole) parts l in k.fails e (fail_left objects here more e f)

pub remains_none : (objects : List LoadedObject) (whole rest : List Relocation) → rest ≡ [] → Remains objects whole rest → AreLawful objects whole
remains_none objects whole rest none l =
    l.lawful (subst (AreLawful objects) (sym none) (record { each = All-nil (IsLawfulRelocation objects); apart = AllPairs-nil AreFieldsApart }))
