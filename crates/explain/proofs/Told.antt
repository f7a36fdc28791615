-- The flaws that are told stay told, where the error is one of their phase; and there are some, where it has its cause.
use Rattle.std.proofs.Common.{◌≡◌, ◌∙◌, ◌⊎◌, inl, inr, ℕ, zero, suc, ◌<◌, ◌≤◌, Bool, true, false, List, [], ◌∷◌, ◌++◌, Option, None, Some, ap, arith, length, refl, subst, sym, take}
use Rattle.std.specs.Prelude.{◌≢◌, All, Any, is_some, map}
use Rattle.std.specs.List.{items_where_true}
use Rattle.std.specs.List.Retain.{IsFiltered, ReturnsInTurn}
use Rattle.std.proofs.lemmas.List.{length-map, length-take, take_all}
use Rattle.std.proofs.lemmas.Bool.{false≢true}
use Rattle.std.proofs.lemmas.List.Elements.{All-contains, All-cons, All-head, All-nil, All-tail, Contains-append_right}
use Rattle.ar_index.proofs.Steps as archive_faults
use Rattle.comdat.proofs.GroupFaultLemmas as group_faults
use Rattle.elf_read.proofs.Faults as object_faults
use Rattle.elf_model.proofs.Listed.{Contains-here}
use Rattle.elf_model.specs.Inputs.ArchiveFile.{IsArchive}
use Rattle.elf_model.specs.Inputs.Command.{Plan, command_of}
use Rattle.elf_model.specs.Inputs.Files.{File}
use Rattle.elf_model.specs.Inputs.ObjectFile.{IsObject, groups}
use Rattle.elf_model.specs.Inputs.Opening.{lacks_index, opened}
use Rattle.elf_model.specs.Link.Groups.{AreLawfulGroups}
use Rattle.elf_model.specs.Link.Loading.{LoadedObject, loaded_objects}
use Rattle.elf_model.specs.Link.Relocation.{IsFieldInside, IsLawfulRelocation, IsThreadMismatch, Relocation, relocation_kind, relocations}
use Rattle.elf_model.specs.Own.Causes.{Cause, HasObjects, IsBadArchive, IsResolved, IsToDropped, IsToMixed, IsUndefinedName, IsWithoutIndex, Reaches}
use Rattle.elf_model.specs.declared.faults.CmdFault.{CmdFault}
use Rattle.elf_model.specs.declared.faults.LinkError.{LinkError}
use Rattle.elf_model.specs.declared.faults.LinkError.TheVariants as error
use Rattle.flaws.proofs.Flawless.{flawless}
use Rattle.flaws.specs.Flaws.{AreResolutionFlaws, AreResolvable}
use Rattle.flaws.specs.declared.flaw.Flaw.{Flaw}
use Rattle.layout.specs.Kinds.{KindsFail}
use Rattle.placing.specs.declared.faults.LayoutFault.{LayoutFault}
use Rattle.placing.specs.declared.faults.LayoutFault.TheVariants as layout_fault
use Rattle.resolve.specs.Refusals.{ResolvingFails}
use Rattle.resolve.specs.declared.faults.ResolveFault.{ResolveFault}
use Rattle.resolve.specs.declared.faults.ResolveFault.TheVariants as resolve_fault
use Rattle.search.specs.Faults.{LoadFails}
use Rattle.search.specs.declared.faults.SearchFault.{SearchFault}
use Rattle.search.specs.declared.faults.SearchFault.TheVariants as fault
use Rattle.wrong_references.proofs.Unwrong.{unwrong}
use Rattle.wrong_references.specs.References.{AreReferable, AreReferenceFlaws}
use Rattle.wrong_references.specs.declared.flaw.ReferenceFlaw.{ReferenceFlaw}
use Rattle.explain.specs.Flawed.{AreTold, IsOfReferences, IsOfResolution, IsToldOf}
use Rattle.explain.specs.declared.place.Place.{Place}

-- a filter that keeps all elements of a kind, where all are of it
all_kept :
    {X F : Type 0} (R : F → X → Bool → F → Type 0) (T : X → Type 0) (f : F) → ((x : X) (b : Bool) (g : F) → R f x b g → (T x → b ≡ true) × (g ≡ f)) →
    (bs : List Bool) (xs : List X) (q : F) → length bs ≡ length xs → ReturnsInTurn R f bs xs q → All T xs → items_where_true bs xs ≡ xs
all_kept R T f tests [] [] q same told all = refl
all_kept R T f tests [] (x ∷ xs) q same told all = absurd (omega (arith, same))
all_kept R T f tests (b ∷ bs) [] q same told all = absurd told
all_kept {X} {F} R T f tests (b ∷ bs) (x ∷ xs) q same told all =
    let test = tests x b told.0 told.1 in
    let yes = test.0 (All-head T x xs all) in
    let rest = all_kept R T f tests bs xs q (omega (arith, same)) (subst (λ (g : F). ReturnsInTurn R g bs xs q) test.1 told.2) (All-tail T x xs all) in
    subst (λ (c : Bool). items_where_true (c ∷ bs) (x ∷ xs) ≡ x ∷ xs) (sym yes) (ap (λ (ys : List X). x ∷ ys) rest)

-- places that are all of an error stay, where they are few enough
pub still_told :
    {F : Type 0} (R : F → Place → Bool → F → Type 0) (f : F) (e : LinkError) (most : ℕ) (xs ys zs : List Place) → IsFiltered R f xs ys →
    zs ≡ take most ys → ((x : Place) (b : Bool) (g : F) → R f x b g → (IsToldOf e x → b ≡ true) × (g ≡ f)) → All (IsToldOf e) xs → length xs ≤ most → zs ≡ xs
still_told R f e most xs ys zs filtered taken tests of few =
    let kept = all_kept R (IsToldOf e) f tests filtered.0 xs filtered.1 filtered.2 filtered.3 of in
    taken ∙ (ap (take most) (filtered.4 ∙ kept) ∙ take_all most xs few)

-- what is known of places that tell the first of all flaws
pub record AreFirst (e : LinkError) (most : ℕ) (places : List Place) : Type 0 where
  pub of : All (IsToldOf e) places
  pub few : length places ≤ most
  pub some : 0 < most → 0 < length places

each_told :
    {F : Type 0} (of : Place → Option F) (e : LinkError) → ((p : Place) → is_some (of p) ≡ true → IsToldOf e p) → (ps : List Place) (fs : List F) → map of ps ≡ map Some fs →
    All (IsToldOf e) ps
each_told of e phase [] fs same = All-nil (IsToldOf e)
each_told of e phase (p ∷ ps) [] same = absurd (let n = ap length same in omega (arith, n))
each_told of e phase (p ∷ ps) (f ∷ fs) same =
    let first : of p ≡ Some f = cc in
    let rest : map of ps ≡ map Some fs = cc in
    All-cons (IsToldOf e) p ps (phase p (ap is_some first)) (each_told of e phase ps fs rest)

pub are_first :
    {F : Type 0} (of : Place → Option F) (e : LinkError) (all : List F) (most : ℕ) (places : List Place) (more : ℕ) →
    ((p : Place) → is_some (of p) ≡ true → IsToldOf e p) → AreTold of all most places more → 0 < length all → AreFirst e most places
are_first of e all most places more phase told there =
    let n : length places ≡ length (take most all) = sym (length-map places of) ∙ (ap length told.first ∙ length-map (take most all) Some) in
    record {
      of = each_told of e phase places (take most all) told.first;
      few = omega (arith, n, length-take most all);
      some = λ room. omega (arith, n, length-take most all, there, room);
    }

pub told_again : {F : Type 0} (of : Place → Option F) (all : List F) (most : ℕ) (xs ys : List Place) (n m : ℕ) → AreTold of all most xs n → ys ≡ xs → m ≡ n → AreTold of all most ys m
told_again of all most xs ys n m told same count = subst (λ (k : ℕ). AreTold of all most ys k) (sym count) (subst (λ (ps : List Place). AreTold of all most ps n) (sym same) told)

-- an error of the phase has its cause: something in it refuses the link
pub refused :
    (files : List File) (words : List (List ℕ)) (e : LinkError) → IsOfResolution e → Cause files words e →
    (plan : Plan) × HasObjects files words plan × (¬ AreResolvable (loaded_objects files plan))
refused files words error.SectionKind of cause = (cause.0, cause.1, λ good. cause.2 good.kinds)
refused files words (error.Duplicate name) of cause =
    (cause.0, cause.1, λ good. (let two = cause.2 in let one = good.unique name.items in omega (arith, two, one)))
refused files words error.BadCommon of cause = (cause.0, cause.1, λ good. cause.2 good.commons)
refused files words error.BadSymbol of cause = (cause.0, cause.1, λ good. cause.2 good.sound)
refused files words e of cause = absurd of

-- what some elements are, that none of a list is
excluded : {X : Type 0} (P Q : X → Type 0) (xs : List X) → Any P xs → All Q xs → ((x : X) → P x → Q x → ⊥) → ⊥
excluded P Q xs some all not = not some.1 some.4 (All-contains Q xs some.1 all (some.0, some.2, some.3))

-- or of the next phase
unlike : (objects : List LoadedObject) (name : List ℕ) (Stands : Relocation → Type 0) → Any Stands (relocations objects) → ((r : Relocation) → Stands r → IsLawfulRelocation objects r → ⊥) → ¬ AreReferable objects name
unlike objects name Stands any not good = excluded Stands (IsLawfulRelocation objects) (relocations objects) any good.lawful.each not

pub unreferred :
    (files : List File) (words : List (List ℕ)) (e : LinkError) → IsOfReferences e → Cause files words e →
    (plan : Plan) × IsResolved files words plan × (¬ AreReferable (loaded_objects files plan) plan.entry)
unreferred files words (error.Undefined name) of cause =
    let objects = loaded_objects files cause.0 in
    (cause.0, cause.1, unlike objects cause.0.entry (IsUndefinedName name.items objects) cause.2 (λ r bad good. good.defined bad.1))
unreferred files words error.RefToDropped of cause =
    let objects = loaded_objects files cause.0 in (cause.0, cause.1, unlike objects cause.0.entry (IsToDropped objects) cause.2 (λ r bad good. good.kept bad.1))
unreferred files words error.RelocKind of cause =
    let objects = loaded_objects files cause.0 in
    (cause.0, cause.1, unlike objects cause.0.entry (λ r. relocation_kind r ≡ None) cause.2 (λ r bad good. false≢true (sym (ap is_some bad) ∙ good.known)))
unreferred files words error.FieldOutside of cause =
    let objects = loaded_objects files cause.0 in (cause.0, cause.1, unlike objects cause.0.entry (λ r. ¬ IsFieldInside r) cause.2 (λ r bad good. bad good.inside))
unreferred files words error.OverlappingFields of cause = (cause.0, cause.1, λ good. cause.2 good.lawful.apart)
unreferred files words error.TlsMismatch of cause =
    let objects = loaded_objects files cause.0 in (cause.0, cause.1, unlike objects cause.0.entry (IsThreadMismatch objects) cause.2 (λ r bad good. good.thread bad))
unreferred files words error.MixedSection of cause =
    let objects = loaded_objects files cause.0 in (cause.0, cause.1, unlike objects cause.0.entry (IsToMixed objects) cause.2 (λ r bad good. good.unmixed bad.1))
unreferred files words error.NoEntry of cause = (cause.0, cause.1, λ good. cause.2 good.entry)
unreferred files words e of cause = absurd of

-- so there is a flaw
some : (n : ℕ) → (n ≡ 0) ⊎ (0 < n)
some zero = inl refl
some (suc n) = inr (omega arith)

some_of : {F : Type 0} {Well : Type 0} (all : List F) → (length all ≡ 0 → Well) → ¬ Well → 0 < length all
some_of all none bad = elim (some (length all)) as (λ _. 0 < length all) [ inl empty ↦ absurd (bad (none empty)) | inr there ↦ there ]

pub some_flaw : (objects : List LoadedObject) (all : List Flaw) → AreResolutionFlaws objects all → ¬ AreResolvable objects → 0 < length all
some_flaw objects all are bad = some_of all (flawless objects all are) bad

pub some_reference : (objects : List LoadedObject) (name : List ℕ) (all : List ReferenceFlaw) → AreReferenceFlaws objects name all → ¬ AreReferable objects name → 0 < length all
some_reference objects name all are bad = some_of all (unwrong objects name all are) bad

-- what names are resolved refuses nothing before
pub resolves : (objects : List LoadedObject) (f : ResolveFault) → f ≢ resolve_fault.Memory → ResolvingFails objects f → AreResolvable objects → ⊥
resolves objects resolve_fault.Memory not fails good = not refl
resolves objects (resolve_fault.Duplicate name) not fails good = let one = good.unique name.items in omega (arith, fails, one)
resolves objects resolve_fault.BadCommon not fails good = fails good.commons
resolves objects resolve_fault.BadSymbol not fails good = fails good.sound

pub has_kinds : (objects : List LoadedObject) (f : LayoutFault) → KindsFail objects f → AreResolvable objects → ⊥
has_kinds objects layout_fault.SectionKind fails good = fails good.kinds
has_kinds objects f fails good = absurd fails

-- a plan whose files, archives and objects have no fault is loaded
reached_well : (objects : List LoadedObject) (Stands Well : LoadedObject → Type 0) → Reaches objects Stands → All Well objects → ((o : LoadedObject) → Stands o → Well o → ⊥) → ⊥
reached_well objects Stands Well r all not =
    not r.reached r.stands
    (All-contains Well (r.front ++ r.reached ∷ r.rest) r.reached (subst (All Well) r.order all)
    (Contains-append_right r.front (r.reached ∷ r.rest) r.reached (Contains-here r.rest r.reached)))

pub loads : (files : List File) (words : List (List ℕ)) (plan : Plan) (f : SearchFault) → f ≢ fault.Memory → LoadFails files plan f → HasObjects files words plan → ⊥
loads files words plan fault.Memory not fails has = not refl
loads files words plan fault.FileMissing not fails has = fails has.before.before.files_are
loads files words plan (fault.BadArchive f) not fails has =
    excluded (IsBadArchive f) (λ o. o.archive ≡ true → IsArchive o.bytes) (opened files plan) fails.2 has.before.archives
    (λ o stands good. fails.1 (archive_faults.only o.bytes f (good stands.0) stands.1))
loads files words plan fault.NoIndex not fails has =
    excluded IsWithoutIndex (λ o. o.archive ≡ true → lacks_index o ≡ false) (opened files plan) fails.1 has.before.indexes
    (λ o stands good. (let no : false ≡ true = sym (good stands.0) ∙ stands.2 in cc))
loads files words plan (fault.BadObject f) not fails has =
    reached_well (loaded_objects files plan) _ (λ o. IsObject o.bytes) fails.1 has.objects
    (λ o stands good. stands.0 (object_faults.only o.bytes f good stands.1))
loads files words plan (fault.Group f) not fails has =
    reached_well (loaded_objects files plan) _ (λ o. AreLawfulGroups (groups o.bytes)) fails.1 has.groups
    (λ o stands good. stands.0 (group_faults.only (groups o.bytes) f good stands.1.1))
