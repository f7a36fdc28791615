-- What is reached of an archive's turn and of later steps fails as the whole does.
use Rattle.std.proofs.Common.{◌≡◌, ℕ, zero, suc, ◌+◌, ◌-◌, ◌<◌, ◌≤◌, ◌⊎◌, inl, inr, false, List, [], ◌∷◌, length, get_or, drop, drop-cons, Option, Some, None, Result, Ok, Err, refl, sym, ◌∙◌, ap, subst, arith}
use Rattle.std.specs.Prelude.{IfErr, IfSome, option_map, unwrap_or}
use Rattle.std.proofs.Math.ListN.{drop_of_length-le}
use Rattle.std.proofs.lemmas.Bool.{cond-false}
use Rattle.std.specs.List.{slice_get}
use Rattle.std.proofs.lemmas.Option.{none-some, same_Some, slice_get_cases}
use Rattle.elf_model.specs.Inputs.ArchiveFile.{IndexEntry, Member}
use Rattle.elf_model.specs.Own.Causes.{Reaches}
use Rattle.elf_model.specs.Inputs.Command.{Plan}
use Rattle.elf_model.specs.Link.Loading.{AreObjects, HaveLawfulGroups, LoadedObject, is_begun, next, Single, loaded_step, object_behind, round, turn, with_members, with_object}
use Rattle.elf_model.specs.Inputs.Opening.{Opened, archive_members}
use Rattle.elf_model.proofs.LoadingBounds.{Extends, begun_now, begun_stays, extends_same}
use Rattle.elf_model.proofs.LoadingLaws.{members_extend}
use Rattle.elf_model.proofs.LoadingSteps.{reaches_later}
use Rattle.search.specs.Faults.{FailsAt, FailsOn, IsReached, LoadsBadly}
use Rattle.search.specs.Loaders.{loaded}
use Rattle.search.specs.Waiting.{AreIdle, IsSpent}
use Rattle.search.specs.declared.loader.Loader.{Loader}
use Rattle.search.specs.declared.loader.Reached.{Reached}
use Rattle.search.specs.declared.faults.SearchFault.{SearchFault}
use Rattle.search.specs.declared.faults.SearchFault.TheVariants as error

reached_next : (os : List LoadedObject) (o : Opened) (offset : ℕ) (bytes : List ℕ) (Stands : LoadedObject → Type 0) → AreObjects os → HaveLawfulGroups os →
    Stands (object_behind os o offset bytes) → Reaches (with_object os o offset bytes) Stands
reached_next os o offset bytes Stands objects lawful stands = record {
  front = os;
  reached = object_behind os o offset bytes;
  rest = [];
  order = refl;
  are_objects = objects;
  lawful = lawful;
  stands = stands;
}

-- an object to which loading has come, behind others, and which can't be loaded fails what goes on behind it
pub fails_next : (r : Option Reached) (os : List LoadedObject) (o : Opened) (offset : ℕ) (bytes : List ℕ) (end : List LoadedObject) (e : SearchFault) →
    AreObjects os → HaveLawfulGroups os → Extends (with_object os o offset bytes) end → IsReached r (object_behind os o offset bytes) → FailsAt bytes e →
    FailsOn r end e
fails_next r os o offset bytes end error.Memory objects lawful later at s = tt
fails_next r os o offset bytes end (error.BadObject f) objects lawful later at s =
    reaches_later (with_object os o offset bytes) end (λ x. IsReached r x × LoadsBadly (error.BadObject f) x) later
    (reached_next os o offset bytes (λ x. IsReached r x × LoadsBadly (error.BadObject f) x) objects lawful (at, s))
fails_next r os o offset bytes end (error.Group f) objects lawful later at s =
    reaches_later (with_object os o offset bytes) end (λ x. IsReached r x × LoadsBadly (error.Group f) x) later
    (reached_next os o offset bytes (λ x. IsReached r x × LoadsBadly (error.Group f) x) objects lawful (at, (s.0, (s.1, s.2))))
fails_next r os o offset bytes end _ objects lawful later at s = absurd s

pub fails_later : (r : Option Reached) (from to : List LoadedObject) (e : SearchFault) → Extends from to → FailsOn r from e → FailsOn r to e
fails_later r from to error.Memory later s = tt
fails_later r from to error.FileMissing later s = reaches_later from to (λ x. IsReached r x × LoadsBadly error.FileMissing x) later s
fails_later r from to (error.BadObject f) later s = reaches_later from to (λ x. IsReached r x × LoadsBadly (error.BadObject f) x) later s
fails_later r from to (error.BadArchive f) later s = reaches_later from to (λ x. IsReached r x × LoadsBadly (error.BadArchive f) x) later s
fails_later r from to error.NoIndex later s = reaches_later from to (λ x. IsReached r x × LoadsBadly error.NoIndex x) later s
fails_later r from to (error.Group f) later s = reaches_later from to (λ x. IsReached r x × LoadsBadly (error.Group f) x) later s

pub err_fails_next :
    {X : Type 0} (x : Result X SearchFault) (r : Option Reached) (os : List LoadedObject) (o : Opened) (offset : ℕ) (bytes : List ℕ) (end : List LoadedObject) →
    AreObjects os → HaveLawfulGroups os → Extends (with_object os o offset bytes) end → IsReached r (object_behind os o offset bytes) →
    IfErr x (FailsAt bytes) → IfErr x (FailsOn r end)
err_fails_next (Ok x) r os o offset bytes end objects lawful later at s = tt
err_fails_next (Err e) r os o offset bytes end objects lawful later at s = fails_next r os o offset bytes end e objects lawful later at s

-- a whole archive gives no more after its members
pub members_spent : (os to : List LoadedObject) (o : Opened) → to ≡ with_members os o (archive_members o.bytes) → IsSpent to o
members_spent os to o is = subst (λ (l : List LoadedObject). IsSpent l o) (sym is) (by (archive_members o.bytes) refl)
  where
    by : (ms : List Member) → archive_members o.bytes ≡ ms → IsSpent (with_members os o (archive_members o.bytes)) o
    by [] none = inr none
    by (m ∷ ms) some =
        inl
        (ap (λ (xs : List Member). is_begun (with_members os o xs) o.number) some
        ∙ begun_stays (with_object os o m.offset m.bytes) (with_members (with_object os o m.offset m.bytes) o ms) o.number
        (members_extend (with_object os o m.offset m.bytes) o ms) (begun_now os o m.offset m.bytes))

-- a round passes over archives that take nothing
pub round_skips : {T : Type 0} (l : Loader T) (inputs : List Opened) (n from to : ℕ) → to ≡ from + n → to ≤ length inputs → AreIdle l inputs from to →
    round l.plan.now (drop from inputs) (loaded l) ≡ round l.plan.now (drop to inputs) (loaded l)
round_skips l inputs zero from to is within idle =
    let same : from ≡ to = omega (arith, is) in
    ap (λ (i : ℕ). round l.plan.now (drop i inputs) (loaded l)) same
round_skips l inputs (suc n) from to is within idle =
    by (slice_get_cases inputs from).1
    (round_skips l inputs n (from + 1) to (omega (arith, is)) within (λ k p low high at. idle k p (omega (arith, low)) high at))
  where
    inside : from < length inputs
    inside = omega (arith, is, within)

    by : ((o : Opened) × (from < length inputs) × (slice_get inputs from ≡ Some o) × (get_or inputs from o ≡ o)) ⊎ ((length inputs ≤ from) × (slice_get inputs from ≡ None)) →
        round l.plan.now (drop (from + 1) inputs) (loaded l) ≡ round l.plan.now (drop to inputs) (loaded l) → round l.plan.now (drop from inputs) (loaded l) ≡ round l.plan.now (drop to inputs) (loaded l)
    by (inl s) later =
        let next_ : from + 1 ≡ suc from = omega arith in
        ap (λ (os : List Opened). round l.plan.now os (loaded l)) (drop-cons inputs from s.0 inside ∙ ap (λ (x : Opened). x ∷ drop (suc from) inputs) s.3)
        ∙ (ap (round l.plan.now (drop (suc from) inputs)) (idle from s.0 (omega arith) (omega (arith, is)) s.2)
        ∙ (ap (λ (i : ℕ). round l.plan.now (drop i inputs) (loaded l)) (sym next_) ∙ later))
    by (inr none) later = let m = none.0 in absurd (omega (arith, m, inside))

-- the archive that may take something next, and none
pub skipped_to : {T : Type 0} (l : Loader T) (plan : Plan) (inputs : List Opened) (from : ℕ) (r : Option ℕ) (i : ℕ) → l.plan.now ≡ plan → r ≡ Some i →
    IfSome r (λ k. (from ≤ k) × (k < length inputs)) → AreIdle l inputs from (unwrap_or r (length inputs)) →
    (i < length inputs) × (round plan (drop from inputs) (loaded l) ≡ round plan (drop i inputs) (loaded l))
skipped_to l plan inputs from None i same is within idle = absurd (none-some i is)
skipped_to l plan inputs from (Some k) i same is within idle =
    let low = within.0 in
    let high = within.1 in
    subst (λ (j : ℕ). (j < length inputs) × (round plan (drop from inputs) (loaded l) ≡ round plan (drop j inputs) (loaded l))) (same_Some k i is) (
      high,
      subst (λ (p : Plan). round p (drop from inputs) (loaded l) ≡ round p (drop k inputs) (loaded l)) same
          (round_skips l inputs (k - from) from k (omega (arith, low)) (omega (arith, high)) idle),
    )

pub skipped_all : {T : Type 0} (l : Loader T) (plan : Plan) (inputs : List Opened) (from : ℕ) (r : Option ℕ) → l.plan.now ≡ plan → r ≡ None → from ≤ length inputs →
    AreIdle l inputs from (unwrap_or r (length inputs)) → round plan (drop from inputs) (loaded l) ≡ loaded l
skipped_all l plan inputs from r same is low idle =
    let end : AreIdle l inputs from (length inputs) = subst (λ (f : Option ℕ). AreIdle l inputs from (unwrap_or f (length inputs))) is idle in
    subst (λ (p : Plan). round p (drop from inputs) (loaded l) ≡ loaded l) same
    (round_skips l inputs (length inputs - from) from (length inputs) (omega (arith, low)) (omega arith) end
    ∙ ap (λ (os : List Opened). round l.plan.now os (loaded l)) (drop_of_length-le inputs (omega arith)))

-- A single object.
pub single_fails : {X : Type 0} (plan : Plan) (x : Result X SearchFault) (r : Option Reached) (os : List LoadedObject) (o : Opened) → AreObjects os →
    HaveLawfulGroups os → o.archive ≡ false → IsReached r (object_behind os o 0 o.bytes) → IfErr x (FailsAt o.bytes) →
    IfErr x (FailsOn r (loaded_step plan (Single o) os))
single_fails plan x r os o objects lawful single at s =
    err_fails_next x r os o 0 o.bytes (loaded_step plan (Single o) os) objects lawful
    (extends_same (with_object os o 0 o.bytes) (loaded_step plan (Single o) os) (cond-false o.archive (turn plan o os) (with_object os o 0 o.bytes) single)) at s

-- No member is next.
pub none_next : (plan : Plan) (os : List LoadedObject) (o : Opened) (r : Option ℕ) → r ≡ option_map (λ e. e.offset) (next plan os o) → r ≡ None → next plan os o ≡ None
none_next plan os o r told is = by (next plan os o) refl
  where
    by : (found : Option IndexEntry) → next plan os o ≡ found → next plan os o ≡ None
    by None none = none
    by (Some e) some = absurd (none-some e.offset (sym is ∙ (told ∙ ap (λ (f : Option IndexEntry). option_map (λ x. x.offset) f) some)))
