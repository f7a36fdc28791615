-- Each place carries the cause of its error: by what the error's own cause gives of the phase, and by what the place says.
use Rattle.std.proofs.Common.{◌≡◌, ◌∙◌, ◌⊎◌, inl, inr, ℕ, Bool, true, List, Ok, All, ap, take, subst, sym}
use Rattle.std.specs.List.{items_where_true}
use Rattle.std.specs.List.Retain.{IsFiltered}
use Rattle.std.proofs.lemmas.Grind.{get_or_picked}
use Rattle.std.proofs.lemmas.Fn.{All-from_retain}
use Rattle.std.proofs.lemmas.List.Elements.{All-contains, All-take}
use Rattle.std.specs.Prelude.{None, Any}
use Rattle.command.proofs.Found.{same_ok}
use Rattle.elf_model.specs.Own.Causes.{Cause, HasArchives, HasBadGroups, HasFiles, IsBadArchive, IsResolved, IsToDropped, IsToMixed, IsUndefinedName, IsWithoutIndex}
use Rattle.elf_model.specs.Inputs.Command.{Plan, command_of}
use Rattle.elf_model.specs.Inputs.Files.{File}
use Rattle.elf_model.specs.Link.Loading.{LoadedObject, loaded_objects}
use Rattle.elf_model.specs.Inputs.ObjectFile.{ObjFaultStands}
use Rattle.elf_model.specs.Inputs.Opening.{opened}
use Rattle.elf_model.specs.Link.Relocation.{IsFieldInside, IsThreadMismatch, Relocation, relocation_kind, relocations}
use Rattle.elf_model.specs.Link.Pieces.{AreLawfulKinds, IsLawfulKind, Piece, kept_sections, piece_of}
use Rattle.elf_model.specs.Link.Resolution.{AreSoundCommons, AreSoundSymbols, IsDuplicate, IsEntry, IsSoundCommon, IsSoundSymbol, all_symbols, symbol_of}
use Rattle.elf_model.specs.declared.faults.LinkError.{LinkError}
use Rattle.elf_model.proofs.Finding.{Any-from_contains}
use Rattle.elf_model.proofs.Listed.{Contains-from_slice_get}
use Rattle.flaws.proofs.Located.{piece_listed, symbol_listed}
use Rattle.input_names.proofs.ListedPlaces.{listed}
use Rattle.input_names.specs.RelocationPlaces.{IsOverlap}
use Rattle.input_names.specs.declared.relocation_places.RelocationPlace.{RelocationPlace}
use Rattle.opening.specs.Faults.{IsSearchable}
use Rattle.search.proofs.LoadLaws.{reaches_weaker}
use Rattle.search.specs.Faults.{IsObjectAt, LoadsBadly}
use Rattle.search.specs.Loads.{LoadedPlan}
use Rattle.search.specs.declared.faults.SearchFault.TheVariants as search_fault
use Rattle.search.specs.declared.loader.Reached.{Reached}
use Rattle.relocate.specs.References.{IsUnlawful}
use Rattle.relocate.specs.declared.faults.RelocationFault.{RelocationFault}
use Rattle.relocate.specs.declared.faults.RelocationFault.TheVariants as wrong
use Rattle.explain.proofs.PairedPlaces.{overlap_paired}
use Rattle.explain.specs.Places.{CauseOf, Given, Holds, IsLoadedBy, IsOf, IsWrongRelocation, Says}
use Rattle.explain.specs.declared.place.Place.{Place}
use Rattle.explain.specs.declared.place.Place.TheVariants as place
use Rattle.explain.specs.declared.place.SymbolFault.TheVariants as symbol_fault

-- the plan of a phase is that of a place, and so is what it loads
pub one_plan : (words : List (List ℕ)) (p q : Plan) → command_of words ≡ Ok p → command_of words ≡ Ok q → p ≡ q
one_plan words p q a b = same_ok q p (sym b ∙ a)

loaded_of : (files : List File) (words : List (List ℕ)) (p : Plan) (l : LoadedPlan) → command_of words ≡ Ok p → IsLoadedBy files words l → l.objects ≡ loaded_objects files p
loaded_of files words p l is by = by.loads ∙ ap (loaded_objects files) (one_plan words by.plan p by.words_are is)

relocation_cause :
    (files : List File) (words : List (List ℕ)) (p : Plan) (o : Reached) (q : RelocationPlace) (f : RelocationFault) (n : ℕ) → IsResolved files words p →
    IsWrongRelocation (loaded_objects files p) q f → CauseOf files words (place.Relocation o q f n)
relocation_cause files words p o q f n resolved w = by f w.2
  where
    objects : List LoadedObject
    objects = loaded_objects files p

    any : (Stands : Relocation → Type 0) → Stands w.0 → Any Stands (relocations objects)
    any Stands stands = Any-from_contains Stands (relocations objects) w.0 (listed objects q w.0 w.1) stands

    by : (g : RelocationFault) → IsUnlawful objects w.0 g → CauseOf files words (place.Relocation o q g n)
    by wrong.Undefined h = (p, resolved, any (IsUndefinedName q.symbol_name.now objects) (h.0, h.1, sym w.1.told.symbol_name))
    by wrong.RefToDropped h = (p, resolved, any (IsToDropped objects) h)
    by wrong.RelocKind h = (p, resolved, any (λ r. relocation_kind r ≡ None) h)
    by wrong.FieldOutside h = (p, resolved, any (λ r. ¬ IsFieldInside r) h)
    by wrong.TlsMismatch h = (p, resolved, any (IsThreadMismatch objects) h)
    by wrong.MixedSection h = (p, resolved, any (IsToMixed objects) h)

-- the archives of a plan can be searched
archives : {files : List File} (words : List (List ℕ)) (p : Plan) → command_of words ≡ Ok p → IsSearchable files p → HasArchives files words p
archives words p is s = record { before = record { words_are = is; files_are = s.files_are }; archives = s.archives; indexes = s.indexes }

-- what is said of words isn't said of a plan, and so on
by_words : {A : Type 0} {B : Plan → Type 0} {C : LoadedPlan → Type 0} → A ⊎ ((p : Plan) × B p × ⊥) ⊎ ((l : LoadedPlan) × C l × ⊥) → A
by_words = elim [ inl a ↦ a | inr (inl b) ↦ absurd b.2 | inr (inr c) ↦ absurd c.2 ]

of_plan : {A : Type 0} {C : LoadedPlan → Type 0} → ⊥ ⊎ A ⊎ ((l : LoadedPlan) × C l × ⊥) → A
of_plan = elim [ inl e ↦ absurd e | inr (inl a) ↦ a | inr (inr c) ↦ absurd c.2 ]

of_loaded : {A : Type 0} {B : Plan → Type 0} → ⊥ ⊎ ((p : Plan) × B p × ⊥) ⊎ A → A
of_loaded = elim [ inl e ↦ absurd e | inr (inl b) ↦ absurd b.2 | inr (inr a) ↦ a ]

caused : (files : List File) (words : List (List ℕ)) (x : Place) → Given files words x → Says files words x → CauseOf files words x
caused files words (place.Word number f) g s = (by_words s).refused
caused files words (place.Missing i source) g s = g
caused files words (place.Archive p f) g s =
    let t = of_plan s in
    let same = one_plan words g.0 t.0 g.1.words_are t.1 in (
      t.0,
      subst (HasFiles files words) same g.1,
      t.2.0.stands.0,
      Any-from_contains (IsBadArchive f) (opened files t.0) t.2.0.item (Contains-from_slice_get (opened files t.0) p.item t.2.0.item t.2.0.there) t.2.0.stands.1,
    )
caused files words (place.NoIndex p) g s =
    let t = of_plan s in
    let same = one_plan words g.0 t.0 g.1.words_are t.1 in (
      t.0,
      subst (HasFiles files words) same g.1,
      Any-from_contains IsWithoutIndex (opened files t.0) t.2.item (Contains-from_slice_get (opened files t.0) p.item t.2.item t.2.there) t.2.stands,
    )
caused files words (place.Object p f part) g s =
    let t = of_plan s in
    let all = archives words t.0 t.1 t.2.0.0 in
    let reaches = t.2.0.1 in
    (t.0, all.before, reaches.stands.1.0, inr (all, reaches_weaker (loaded_objects files t.0) (λ o. IsObjectAt p o × LoadsBadly (search_fault.BadObject f) o) (λ o. ObjFaultStands o.bytes f) (λ o h. h.1.1) reaches))
caused files words (place.Groups p f) g s =
    let t = of_plan s in
    let reaches = t.2.1 in
    (t.0, archives words t.0 t.1 t.2.0, reaches.stands.1.0, reaches_weaker (loaded_objects files t.0) (λ o. IsObjectAt p o × LoadsBadly (search_fault.Group f) o) (HasBadGroups f) (λ o h. h.1.1) reaches)
caused files words (place.Section o p) g s =
    let t = of_loaded s in
    let same = loaded_of files words g.0 t.0 g.1.before.before.words_are t.1 in
    let n = p.number in (
      g.0,
      g.1,
      λ lawful.
          t.2.stands.1
          (λ kept.
          All-contains (λ (q : Piece). IsLawfulKind q.header) (kept_sections t.0.objects) (piece_of p.object t.2.o.bytes n p.entry) (subst AreLawfulKinds (sym same) lawful)
          (piece_listed t.0.objects p.object n t.2.o t.2.there p.entry t.2.stands.0.there kept)),
    )
caused files words (place.Large o p) g s = g
caused files words (place.Symbol o p symbol_fault.BadCommon) g s =
    let t = of_loaded s in
    let same = loaded_of files words g.0 t.0 g.1.before.before.words_are t.1 in (
      g.0,
      g.1,
      λ sound.
          t.2.stands.1
          (All-contains IsSoundCommon (all_symbols t.0.objects) (symbol_of p.object t.2.o p.number p.entry) (subst AreSoundCommons (sym same) sound)
          (symbol_listed t.0.objects p.object p.number t.2.o t.2.there p.entry t.2.stands.0.there)),
    )
caused files words (place.Symbol o p symbol_fault.BadSymbol) g s =
    let t = of_loaded s in
    let same = loaded_of files words g.0 t.0 g.1.before.before.words_are t.1 in (
      g.0,
      g.1,
      λ sound.
          t.2.stands.1
          (All-contains (IsSoundSymbol t.0.objects) (all_symbols t.0.objects) (symbol_of p.object t.2.o p.number p.entry) (subst AreSoundSymbols (sym same) sound)
          (symbol_listed t.0.objects p.object p.number t.2.o t.2.there p.entry t.2.stands.0.there)),
    )
caused files words (place.Symbol o p symbol_fault.Duplicate) g s =
    let t = of_loaded s in
    let same = loaded_of files words g.0 t.0 g.1.before.before.words_are t.1 in
    (g.0, g.1, subst (λ (os : List LoadedObject). IsDuplicate os p.name.now) same (subst (IsDuplicate t.0.objects) (sym t.2.stands.0.name_is) t.2.stands.1.1))
caused files words (place.Relocation o p f n) g s =
    let t = of_loaded s in
    let same = loaded_of files words g.0 t.0 g.1.before.before.before.words_are t.1 in
    relocation_cause files words g.0 o p f n g.1 (subst (λ (os : List LoadedObject). IsWrongRelocation os p f) same t.2.stands)
caused files words (place.Overlap o p q) g s =
    let t = of_loaded s in
    let same = loaded_of files words g.0 t.0 g.1.before.before.before.words_are t.1 in
    (g.0, g.1, overlap_paired (loaded_objects files g.0) p q (subst (λ (os : List LoadedObject). IsOverlap os p q) same t.2.stands))
caused files words (place.Value o p value address) g s = g
caused files words (place.Entry name) g s =
    let t = of_loaded s in
    let is = g.1.before.before.before.words_are in
    let same = loaded_of files words g.0 t.0 is t.1 in
    let plan = t.1.plan_is ∙ one_plan words t.1.plan g.0 t.1.words_are is in
    (g.0, g.1, subst (λ (p : Plan). ¬ IsEntry (loaded_objects files g.0) p.entry) plan (subst (λ (os : List LoadedObject). ¬ IsEntry os t.0.plan.entry) same t.2.1))
caused files words (place.Refused e) g s = g

-- of places that say what is so those hold that are told of an error, the first of them, where it has its cause
pub all_kept :
    {F : Type 0} (R : F → Place → Bool → F → Type 0) (f : F) (files : List File) (words : List (List ℕ)) (e : LinkError) (xs ys zs : List Place) (n : ℕ) →
    IsFiltered R f xs ys → zs ≡ take n ys → ((x : Place) (b : Bool) (g : F) → R f x b g → (b ≡ true → IsOf e x) × (g ≡ f)) →
    Cause files words e → All (Says files words) xs → All (Holds files words) zs
all_kept R f files words e xs ys zs n filtered taken tests cause says =
    let told : All (IsOf e) ys = All-from_retain R (IsOf e) f tests xs ys filtered in
    let of = rw filtered.4 at told in
    rw (taken, filtered.4) (All-take (Holds files words) n (items_where_true filtered.0 xs) (λ k d within.
    let p = (get_or_picked filtered.0 xs k d within).1 in
    let said = subst (Says files words) (sym p.2) (says p.0 d p.1) in
    record { says = said; cause = caused files words _ ((of k d within).given files words cause) said }))
