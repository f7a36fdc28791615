-- Loading from items that agree where it looks: each step leads to the same objects.
use Rattle.std.proofs.Common.{◌≡◌, ℕ, zero, suc, ◌⊎◌, inl, inr, Bool, true, false, cond, List, [], ◌∷◌, ◌++◌, Option, None, Some, refl, sym, ◌∙◌, subst}
use Rattle.std.specs.Prelude.{All, not, ◌==◌, ◌&&◌}
use Rattle.std.specs.List.{AllZip, find}
use Rattle.std.proofs.lemmas.List.Elements.{All-cons, All-head, All-nil, All-tail}
use Rattle.elf_model.specs.Inputs.ArchiveFile.{IndexEntry}
use Rattle.elf_model.specs.Inputs.Command.{Plan}
use Rattle.elf_model.specs.Inputs.Opening.{Opened, archive_data}
use Rattle.elf_model.specs.Link.Loading.{Group, LoadedObject, Single, Step, group_of, is_taken, joined, before_steps, lost_sections, needed, next, object_behind, steps, with_member}
use Rattle.elf_model.specs.Link.LoadingRules.{LoadsSingle, LoadsStep, LoadsSteps, Round, RoundsBy, SearchedBy, Turn, TurnIf}
use Rattle.elf_model.proofs.LoadingBounds.{Extends, extends_refl, extends_same, extends_trans, extends_with}
use Rattle.elf_model.proofs.LoadingLaws.{round_extends, searched_extends, turn_extends}
use Rattle.unread_law.specs.Unread.{AgreesOn, AreAlike, HasSameData, IsSameBut}
use Rattle.unread_law.proofs.Archives.{entries_same}

-- what holds of all objects holds of those in front, and of the last of these
front : (P : LoadedObject → Type 0) (xs more : List LoadedObject) → All P (xs ++ more) → All P xs
front P [] more all = All-nil P
front P (x ∷ xs) more all = All-cons P x xs (All-head P x (xs ++ more) all) (front P xs more (All-tail P x (xs ++ more) all))

last_of : (P : LoadedObject → Type 0) (from more : List LoadedObject) (x : LoadedObject) → All P ((from ++ x ∷ []) ++ more) → P x
last_of P [] more x all = All-head P x more all
last_of P (y ∷ from) more x all = last_of P from more x (All-tail P y ((from ++ x ∷ []) ++ more) all)

before : (P : LoadedObject → Type 0) (from to : List LoadedObject) → Extends from to → All P to → All P from
before P from to e all = front P from e.0 (subst (All P) e.1 all)

-- An archive that is searched.
module _ (plan : Plan) (o q : Opened) (alike : AreAlike o q) (but : IsSameBut o q) where
  next_same : (from : List LoadedObject) → next plan from o ≡ next plan from q
  next_same from =
      (λ i. find (λ e. needed plan from e.name && not (is_taken from (alike.number i) e.offset)) (entries_same o.bytes q.bytes but.agree i))

  with_same : (from : List LoadedObject) (e : IndexEntry) → archive_data o.bytes e.offset ≡ archive_data q.bytes e.offset
      → with_member from o e ≡ with_member from q e
  with_same from e content =
      (λ i. from ++ record { bytes = content i; item = alike.number i; offset = e.offset; path = alike.path i; dropped = lost_sections from (content i) } ∷ [])

  searched_on : (n : ℕ) (from to : List LoadedObject) → All (HasSameData o q) to → SearchedBy n plan o from to → SearchedBy n plan q from to
  searched_on zero from to all s = (sym (next_same from) ∙ s.0, s.1)
  searched_on (suc n) from to all s =
      let e = s.0 in
      let rest = searched_extends n plan o (with_member from o e) to s.2 in
      let x = object_behind from o e.offset (archive_data o.bytes e.offset) in
      let content = last_of (HasSameData o q) from rest.0 x (subst (All (HasSameData o q)) rest.1 all) refl refl in (
        e,
        sym (next_same from) ∙ s.1,
        subst (λ (l : List LoadedObject). SearchedBy n plan q l to) (with_same from e content) (searched_on n (with_member from o e) to all s.2),
      )

  searched_turn : (from to : List LoadedObject) → All (HasSameData o q) to → Turn plan o from to → Turn plan q from to
  searched_turn from to all turn =
      let s = subst (λ (w : Bool). TurnIf w plan o from to) but.not_whole turn in
      subst (λ (w : Bool). TurnIf w plan q from to) (sym but.not_whole ∙ alike.whole) (s.0, searched_on s.0 from to all s.1)

-- items alike are the same, but for such archives
same_item : (o q : Opened) → AreAlike o q → o.bytes ≡ q.bytes → o ≡ q
same_item o q alike content = (λ i. record { number = alike.number i; path = alike.path i; bytes = content i; archive = alike.archive i; whole = alike.whole i; group = alike.group i })

turn_on : (plan : Plan) (o q : Opened) (from to : List LoadedObject) → AreAlike o q → All (HasSameData o q) to → Turn plan o from to → Turn plan q from to
turn_on plan o q from to alike all turn = by alike.bytes
  where
    by : (o.bytes ≡ q.bytes) ⊎ IsSameBut o q → Turn plan q from to
    by (inl content) = subst (λ (x : Opened). Turn plan x from to) (same_item o q alike content) turn
    by (inr but) = searched_turn plan o q alike but from to all turn

single_on : (plan : Plan) (o q : Opened) (from to : List LoadedObject) → AreAlike o q → All (HasSameData o q) to → LoadsSingle o.archive plan o from to → LoadsSingle q.archive plan q from to
single_on plan o q from to alike all single = by alike.bytes
  where
    by : (o.bytes ≡ q.bytes) ⊎ IsSameBut o q → LoadsSingle q.archive plan q from to
    by (inl content) = subst (λ (x : Opened). LoadsSingle x.archive plan x from to) (same_item o q alike content) single
    by (inr but) =
        subst (λ (b : Bool). LoadsSingle b plan q from to) (sym but.searched ∙ alike.archive)
        (searched_turn plan o q alike but from to all (subst (λ (b : Bool). LoadsSingle b plan o from to) but.searched single))

-- Groups and steps, by all objects that are loaded in the end.
module _ (plan : Plan) (objects : List LoadedObject) where
  abbrev AreOn : Opened → Opened → Type 0
  AreOn o q = AgreesOn objects o q

  round_on : (os qs : List Opened) (from to : List LoadedObject) → AllZip AreOn os qs → Extends to objects → Round plan os from to → Round plan qs from to
  round_on [] [] from to zip e r = r
  round_on [] (q ∷ qs) from to zip e r = absurd zip
  round_on (o ∷ os) [] from to zip e r = absurd zip
  round_on (o ∷ os) (q ∷ qs) from to zip e r =
      let rest = extends_trans r.0 to objects (round_extends plan os r.0 to r.2) e in
      (r.0, turn_on plan o q from r.0 zip.0.0 (before (HasSameData o q) r.0 objects rest zip.0.1) r.1, round_on os qs r.0 to zip.1 e r.2)

  rounds_extend : (n : ℕ) (os : List Opened) (from to : List LoadedObject) → RoundsBy n plan os from to → Extends from to
  rounds_extend zero os from to r = extends_same from to r.1
  rounds_extend (suc n) os from to r =
      extends_trans from r.0 to (round_extends plan os from r.0 r.1) (rounds_extend n os r.0 to r.3)

  rounds_on : (n : ℕ) (os qs : List Opened) (from to : List LoadedObject) → AllZip AreOn os qs → Extends to objects → RoundsBy n plan os from to → RoundsBy n plan qs from to
  rounds_on zero os qs from to zip e r =
      (round_on os qs from from zip (extends_trans from to objects (extends_same from to r.1) e) r.0, r.1)
  rounds_on (suc n) os qs from to zip e r =
      let rest = extends_trans r.0 to objects (rounds_extend n os r.0 to r.3) e in
      (r.0, round_on os qs from r.0 zip rest r.1, r.2, rounds_on n os qs r.0 to zip e r.3)

  abbrev AreSteps : Step → Step → Type 0
  AreSteps (Single o) (Single q) = AreOn o q
  AreSteps (Group g os) (Group h qs) = (g ≡ h) × AllZip AreOn os qs
  AreSteps _ _ = ⊥

  single_extends : (b : Bool) (o : Opened) (from to : List LoadedObject) → LoadsSingle b plan o from to → Extends from to
  single_extends true o from to s = turn_extends plan o from to s
  single_extends false o from to s = subst (Extends from) (sym s) (extends_with from o 0 o.bytes)

  step_extends : (s : Step) (from to : List LoadedObject) → LoadsStep plan s from to → Extends from to
  step_extends (Single o) from to s = single_extends o.archive o from to s
  step_extends (Group g os) from to s = rounds_extend s.0 os from to s.1

  steps_extend : (ss : List Step) (from to : List LoadedObject) → LoadsSteps plan ss from to → Extends from to
  steps_extend [] from to s = extends_same from to s
  steps_extend (x ∷ ss) from to s = extends_trans from s.0 to (step_extends x from s.0 s.1) (steps_extend ss s.0 to s.2)

  step_on : (s t : Step) (from to : List LoadedObject) → AreSteps s t → Extends to objects → LoadsStep plan s from to → LoadsStep plan t from to
  step_on (Single o) (Single q) from to on e s = single_on plan o q from to on.0 (before (HasSameData o q) to objects e on.1) s
  step_on (Single o) (Group h qs) from to on e s = absurd on
  step_on (Group g os) (Single q) from to on e s = absurd on
  step_on (Group g os) (Group h qs) from to on e s = (s.0, rounds_on s.0 os qs from to on.1 e s.1)

  steps_on : (ss ts : List Step) (from to : List LoadedObject) → AllZip AreSteps ss ts → Extends to objects → LoadsSteps plan ss from to → LoadsSteps plan ts from to
  steps_on [] [] from to zip e s = s
  steps_on [] (t ∷ ts) from to zip e s = absurd zip
  steps_on (x ∷ ss) [] from to zip e s = absurd zip
  steps_on (x ∷ ss) (t ∷ ts) from to zip e s =
      (s.0, step_on x t from s.0 zip.0 (extends_trans s.0 to objects (steps_extend ss s.0 to s.2) e) s.1, steps_on ss ts s.0 to zip.1 e s.2)

  -- the steps of items that agree
  joined_on : (o q : Opened) (g : ℕ) (ss ts : List Step) → AreOn o q → AllZip AreSteps ss ts → AllZip AreSteps (joined o g ss) (joined q g ts)
  joined_on o q g [] [] on zip = ((refl, (on, tt)), zip)
  joined_on o q g [] (t ∷ ts) on zip = absurd zip
  joined_on o q g (x ∷ ss) [] on zip = absurd zip
  joined_on o q g (Single x ∷ ss) (Single y ∷ ts) on zip = ((refl, (on, tt)), zip)
  joined_on o q g (Single x ∷ ss) (Group k qs ∷ ts) on zip = absurd zip.0
  joined_on o q g (Group h os ∷ ss) (Single y ∷ ts) on zip = absurd zip.0
  joined_on o q g (Group h os ∷ ss) (Group k qs ∷ ts) on zip =
      subst (λ (n : ℕ). AllZip AreSteps (joined o g (Group h os ∷ ss)) (cond (g == n) (Group g (q ∷ qs) ∷ ts) (Group g (q ∷ []) ∷ Group k qs ∷ ts))) zip.0.0
      (by (g == h))
    where
      by : (b : Bool) → AllZip AreSteps (cond b (Group g (o ∷ os) ∷ ss) (Group g (o ∷ []) ∷ Group h os ∷ ss)) (cond b (Group g (q ∷ qs) ∷ ts) (Group g (q ∷ []) ∷ Group k qs ∷ ts))
      by true = ((refl, (on, zip.0.1)), zip.1)
      by false = ((refl, (on, tt)), zip)

  before_on : (o q : Opened) (g : Option ℕ) (ss ts : List Step) → AreOn o q → AllZip AreSteps ss ts → AllZip AreSteps (before_steps o g ss) (before_steps q g ts)
  before_on o q None ss ts on zip = (on, zip)
  before_on o q (Some g) ss ts on zip = joined_on o q g ss ts on zip

  group_same : (o q : Opened) → AreAlike o q → group_of o ≡ group_of q
  group_same o q alike = (λ i. cond (alike.archive i) (alike.group i) None)

  pub steps_alike : (os qs : List Opened) → AllZip AreOn os qs → AllZip AreSteps (steps os) (steps qs)
  steps_alike [] [] zip = tt
  steps_alike [] (q ∷ qs) zip = absurd zip
  steps_alike (o ∷ os) [] zip = absurd zip
  steps_alike (o ∷ os) (q ∷ qs) zip =
      subst (λ (g : Option ℕ). AllZip AreSteps (steps (o ∷ os)) (before_steps q g (steps qs))) (group_same o q zip.0.0)
      (before_on o q (group_of o) (steps os) (steps qs) zip.0 (steps_alike os qs zip.1))

  pub loads_on : (os qs : List Opened) → AllZip AreOn os qs → LoadsSteps plan (steps os) [] objects → LoadsSteps plan (steps qs) [] objects
  loads_on os qs zip s = steps_on (steps os) (steps qs) [] objects (steps_alike os qs zip) (extends_refl objects) s
