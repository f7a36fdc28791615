-- What waits, and what gives no member.
use Rattle.std.proofs.Common.{◌≡◌, ℕ, zero, suc, ◌+◌, ◌<◌, ◌≤◌, ◌==◌, ◌⊎◌, inl, inr, Bool, true, false, not, cond, ◌&&◌, ◌||◌, List, [], ◌∷◌, ◌++◌, length, drop, drop-cons, Option, Some, None, refl, sym, ◌∙◌, ap, subst, arith}
use Rattle.std.specs.Prelude.{IsSomeAnd, option_map}
use Rattle.std.specs.List.{find, list_any, slice_get}
use Rattle.std.specs.Str.{bytes_eq}
use Rattle.std.proofs.lemmas.Bool.{and_from, and_parts, cond-true, cond-false, not-true, not_from_false, eqb-false, eqb-true, false≢true, false_from_ne_true, or_cases, or_left, or_right}
use Rattle.std.proofs.lemmas.List.Folds.{list_any-append}
use Rattle.std.proofs.Math.ListN.{drop_of_length-le}
use Rattle.std.proofs.lemmas.List.{drop-append-le, length-append}
use Rattle.std.proofs.lemmas.Option.{get_or_from_slice_get, none-some, same_Some, slice_get_within}
use Rattle.std.proofs.lemmas.Slice.Eq.{bytes_eq-Decides}
use Rattle.elf_model.specs.Inputs.ArchiveFile.{IndexEntry}
use Rattle.elf_model.specs.Inputs.Command.{Plan}
use Rattle.elf_model.specs.Link.Loading.{LoadedObject, defines, is_begun, is_defined, is_requested, is_taken, needed, turn, turn_of_whole, with_members}
use Rattle.elf_model.specs.Inputs.Opening.{Opened, archive_entries, archive_members}
use Rattle.elf_model.proofs.LoadingBounds.{Extends, begun_stays, by_case, extends_refl, extends_trans, taken_stays}
use Rattle.elf_model.proofs.LoadingSteps.{turn_none, turn_whole}
use Rattle.search.proofs.NameSets.{among_grows, begins_refl, begins_trans}
use Rattle.search.proofs.PlaceLaws.{still_waiting}
use Rattle.search.specs.Loaders.{IsLater, Knows, is_next_of, loaded}
use Rattle.search.specs.Names.{Begins, is_among}
use Rattle.search.specs.Places.{ArePlaced, has_place, is_place, is_waiting, places_in}
use Rattle.search.specs.Waiting.{AllAwait, AreIdle, Awaits, Covers, IsSpent, NextWait}
use Rattle.search.specs.declared.loader.Loader.{Loader}
use Rattle.search.specs.declared.waiting_places.WaitingPlaces.{WaitingPlaces}
use Rattle.search.specs.declared.waits.Waits.{Waits}

-- The first entry that passes a test.
find_first : (test : IndexEntry → Bool) (es : List IndexEntry) (p : ℕ) (e : IndexEntry) → slice_get es p ≡ Some e → test e ≡ true →
    ((k : ℕ) (x : IndexEntry) → k < p → slice_get es k ≡ Some x → test x ≡ true → ⊥) → find test es ≡ Some e
find_first test [] p e at passes none = absurd (none-some e at)
find_first test (x ∷ xs) zero e at passes none = ap (λ (b : Bool). cond b (Some x) (find test xs)) (ap test (same_Some x e at) ∙ passes) ∙ at
find_first test (x ∷ xs) (suc p) e at passes none =
    let fails : test x ≡ false = false_from_ne_true (test x) (λ t. none 0 x (omega arith) refl t) in
    ap (λ (b : Bool). cond b (Some x) (find test xs)) fails
    ∙ find_first test xs p e at passes (λ k y less here t. none (suc k) y (omega (arith, less)) here t)

find_none : (test : IndexEntry → Bool) (es : List IndexEntry) → ((k : ℕ) (x : IndexEntry) → slice_get es k ≡ Some x → test x ≡ true → ⊥) → find test es ≡ None
find_none test [] none = refl
find_none test (x ∷ xs) none =
    ap (λ (b : Bool). cond b (Some x) (find test xs)) (false_from_ne_true (test x) (λ t. none 0 x refl t)) ∙ find_none test xs (λ k y here t. none (suc k) y here t)

-- an entry's test by its name and its offset
pub next_is : (plan : Plan) (os : List LoadedObject) (item : ℕ) (x : IndexEntry) (name : List ℕ) (offset : ℕ) → name ≡ x.name → offset ≡ x.offset →
    is_next_of plan os item x ≡ (needed plan os name && not (is_taken os item offset))
next_is plan os item x name offset called at =
    ap (λ (n : List ℕ). needed plan os n && not (is_taken os item x.offset)) (sym called)
    ∙ ap (λ (k : ℕ). needed plan os name && not (is_taken os item k)) (sym at)

-- What waits still waits where places are added.
pub awaits_on :
    {T : Type 0} (l : Loader T) (names : List (List ℕ)) (k : ℕ) (o : Opened) (old new : WaitingPlaces) → ((j q : ℕ) → is_waiting old j q ≡ true → is_waiting new j q ≡ true) →
    Awaits l names k o old → Awaits l names k o new
awaits_on l names k o old new on a = record {
  searched = λ s q e at t. by q (is_among names e.name ≡ true) (a.searched s q e at t);
  taken_whole = λ s. by 0 (IsSpent (loaded l) o) (a.taken_whole s);
}
  where
    by : (q : ℕ) (Q : Type 0) → (is_waiting old k q ≡ true) ⊎ Q → (is_waiting new k q ≡ true) ⊎ Q
    by q Q (inl there) = inl (on k q there)
    by q Q (inr other) = inr other

-- A look at one more name that was asked for.
pub covers_step :
    {T : Type 0} (l : Loader T) (os : List Opened) (w new : Waits) (name : List ℕ) → Covers l os w → slice_get l.names.requested w.seen ≡ Some name →
    new.places ≡ w.places → new.seen ≡ w.seen + 1 →
    ((k q : ℕ) → is_waiting new.waiting k q ≡ (list_any (is_place k q) (places_in w.places.entries name) || is_waiting w.waiting k q)) → Covers l os new
covers_step l os w new name c at places_ seen_ told = record {
  placed = λ k o there s q e here. ap (λ m. has_place m.entries e.name k q) places_ ∙ c.placed k o there s q e here;
  seen_names = let n = slice_get_within l.names.requested w.seen name at in omega (arith, n, seen_);
  awaited = λ k o there. record {
    searched = λ s q e here t. by k q e (c.placed k o there s q e here) ((c.awaited k o there).searched s q e here t);
    taken_whole = λ s. stays k 0 (IsSpent (loaded l) o) ((c.awaited k o there).taken_whole s);
  };
}
  where
    split : drop w.seen l.names.requested ≡ name ∷ drop (w.seen + 1) l.names.requested
    split =
        let e : w.seen + 1 ≡ suc w.seen = omega arith in
        rw e
        (drop-cons l.names.requested w.seen name (slice_get_within l.names.requested w.seen name at)
        ∙ ap (λ (n : List ℕ). n ∷ drop (suc w.seen) l.names.requested) (get_or_from_slice_get l.names.requested w.seen name name at))

    stays : (k q : ℕ) (Q : Type 0) → (is_waiting w.waiting k q ≡ true) ⊎ Q → (is_waiting new.waiting k q ≡ true) ⊎ Q
    stays k q Q (inl there) = inl (told k q ∙ or_right (has_place w.places.entries name k q) (is_waiting w.waiting k q) there)
    stays k q Q (inr other) = inr other

    asked : (k q : ℕ) (e : IndexEntry) → has_place w.places.entries e.name k q ≡ true →
        (bytes_eq e.name name ≡ true) ⊎ (is_among (drop (w.seen + 1) l.names.requested) e.name ≡ true) →
        (is_waiting new.waiting k q ≡ true) ⊎ (is_among (drop new.seen l.names.requested) e.name ≡ true)
    asked k q e place (inl same) =
        inl
        (told k q ∙ or_left (has_place w.places.entries name k q) (is_waiting w.waiting k q)
        (subst (λ (n : List ℕ). has_place w.places.entries n k q ≡ true) ((bytes_eq-Decides e.name name).0 same) place))
    asked k q e place (inr later) = inr (subst (λ (n : ℕ). is_among (drop n l.names.requested) e.name ≡ true) (sym seen_) later)

    by : (k q : ℕ) (e : IndexEntry) → has_place w.places.entries e.name k q ≡ true →
        (is_waiting w.waiting k q ≡ true) ⊎ (is_among (drop w.seen l.names.requested) e.name ≡ true) →
        (is_waiting new.waiting k q ≡ true) ⊎ (is_among (drop new.seen l.names.requested) e.name ≡ true)
    by k q e place (inl there) = inl (told k q ∙ or_right (has_place w.places.entries name k q) (is_waiting w.waiting k q) there)
    by k q e place (inr later) =
        asked k q e place
        (or_cases (bytes_eq e.name name) (is_among (drop (w.seen + 1) l.names.requested) e.name)
        (sym (ap (λ (ns : List (List ℕ)). is_among ns e.name) split) ∙ later))

-- where all names that are asked for were looked at, all that may be given waits; and the other way round
pub covers_now : {T : Type 0} (l : Loader T) (os : List Opened) (w : Waits) → ArePlaced w.places.entries os → AllAwait l [] os w.waiting → w.seen ≡ length l.names.requested →
    Covers l os w
covers_now l os w placed_ all seen_ = record {
  placed = placed_;
  seen_names = omega (arith, seen_);
  awaited = subst (λ (ns : List (List ℕ)). AllAwait l ns os w.waiting) (sym (drop_of_length-le l.names.requested (omega (arith, seen_)))) all;
}

pub caught_up : {T : Type 0} (l : Loader T) (os : List Opened) (w : Waits) → Covers l os w → length l.names.requested ≤ w.seen → AllAwait l [] os w.waiting
caught_up l os w c all k o at =
    subst (λ (ns : List (List ℕ)). Awaits l ns k o w.waiting) (drop_of_length-le l.names.requested all) (c.awaited k o at)

pub next_waits : {T : Type 0} (l : Loader T) (k : ℕ) (o : Opened) (w : WaitingPlaces) → Awaits l [] k o w → o.whole ≡ false →
    NextWait l o.number (archive_entries o.bytes) k w
next_waits l k o w a searched q e at t = by (a.searched searched q e at t)
  where
    by : (is_waiting w k q ≡ true) ⊎ (is_among [] e.name ≡ true) → is_waiting w k q ≡ true
    by (inl there) = there
    by (inr none) = absurd (false≢true none)

-- The first place of an archive that waits.
module _ (test : IndexEntry → Bool) (es : List IndexEntry) (k : ℕ) (w : WaitingPlaces) (wait : (q : ℕ) (e : IndexEntry) → slice_get es q ≡ Some e → test e ≡ true → is_waiting w k q ≡ true) where
  pub first_gives : (i offset : ℕ) → ((q : ℕ) → is_waiting w k q ≡ true → i ≤ q) → IsSomeAnd (slice_get es i) (λ e. (test e ≡ true) × (offset ≡ e.offset)) →
      Some offset ≡ option_map (λ e. e.offset) (find test es)
  first_gives i offset least some = by (slice_get es i) refl some
    where
      by : (f : Option IndexEntry) → slice_get es i ≡ f → IsSomeAnd f (λ e. (test e ≡ true) × (offset ≡ e.offset)) → Some offset ≡ option_map (λ e. e.offset) (find test es)
      by None at found = absurd found
      by (Some e) at found =
          ap Some found.1
          ∙ sym (ap (λ (f : Option IndexEntry). option_map (λ x. x.offset) f)
          (find_first test es i e at found.0 (λ q x low here t. let n = least q (wait q x here t) in omega (arith, low, n))))

  pub none_gives : ((q : ℕ) → is_waiting w k q ≡ false) → find test es ≡ None
  none_gives none = find_none test es (λ q x here t. false≢true (sym (none q) ∙ wait q x here t))

  -- a place that gives none waits no longer
  pub others_wait :
      (new : WaitingPlaces) (i : ℕ) → ((j q : ℕ) → is_waiting new j q ≡ (not (is_place j q (k, i)) && is_waiting w j q)) →
      ((e : IndexEntry) → slice_get es i ≡ Some e → test e ≡ false) → (q : ℕ) (e : IndexEntry) → slice_get es q ≡ Some e → test e ≡ true → is_waiting new k q ≡ true
  others_wait new i rest dead q e here t =
      still_waiting w new (k, i) rest k q
      (λ place.
      let same = eqb-true i q (and_parts (k == k) (i == q) place).1 in
      false≢true (sym (dead e (ap (slice_get es) same ∙ here)) ∙ t)) (wait q e here t)

pub archives_wait : (old new : WaitingPlaces) (k i : ℕ) → ((j q : ℕ) → is_waiting new j q ≡ (not (is_place j q (k, i)) && is_waiting old j q)) →
    (j q : ℕ) → (j ≡ k → ⊥) → is_waiting old j q ≡ true → is_waiting new j q ≡ true
archives_wait old new k i rest j q other there = still_waiting old new (k, i) rest j q (λ place. other (sym (eqb-true k j (and_parts (k == j) (i == q) place).0))) there

-- What is loaded later.
pub is_later_refl : {T : Type 0} (l : Loader T) → IsLater l l
is_later_refl l = record { plan = refl; objects = extends_refl (loaded l); requested = begins_refl l.names.requested }

pub is_later_trans : {T : Type 0} (a b c : Loader T) → IsLater a b → IsLater b c → IsLater a c
is_later_trans a b c x y = record {
  plan = y.plan ∙ x.plan;
  objects = extends_trans (loaded a) (loaded b) (loaded c) x.objects y.objects;
  requested = begins_trans a.names.requested b.names.requested c.names.requested x.requested y.requested;
}

defined_stays : (from to : List LoadedObject) (n : List ℕ) → Extends from to → is_defined from n ≡ true → is_defined to n ≡ true
unfolding is_defined
defined_stays from to n e there =
    ap (list_any (defines n)) e.1 ∙ (list_any-append (defines n) from e.0 ∙ or_left _ _ there)

drop_grows : (a : List (List ℕ)) (b : List (List ℕ)) (n : ℕ) → (x : Begins a b) → n ≤ length a → drop n b ≡ drop n a ++ x.0
drop_grows a b n x within = ap (drop n) x.1 ∙ drop-append-le n a x.0 within

-- what is covered where only the places of one archive change, which is covered still
module _ {T : Type 0} (l : Loader T) (os : List Opened) (w new : Waits) (c : Covers l os w) (k : ℕ) (o : Opened) (at : slice_get os k ≡ Some o) (places_ : new.places ≡ w.places) (seen_ : new.seen ≡ w.seen) (others : (j q : ℕ) → (j ≡ k → ⊥) → is_waiting w.waiting j q ≡ true → is_waiting new.waiting j q ≡ true) where
  pub covers_but : Awaits l (drop w.seen l.names.requested) k o new.waiting → Covers l os new
  covers_but own = record {
    placed = λ j p there s q e here. ap (λ m. has_place m.entries e.name j q) places_ ∙ c.placed j p there s q e here;
    seen_names = let n = c.seen_names in omega (arith, n, seen_);
    awaited = λ j p there.
        subst (λ (n : ℕ). Awaits l (drop n l.names.requested) j p new.waiting) (sym seen_)
        (by_case (j == k) (λ t. same j p there (eqb-true j k t)) (λ t. apart j p there (eqb-false j k t)));
  }
    where
      same : (j : ℕ) (p : Opened) → slice_get os j ≡ Some p → j ≡ k → Awaits l (drop w.seen l.names.requested) j p new.waiting
      same j p there e =
          let is : o ≡ p = same_Some o p (sym at ∙ (ap (slice_get os) (sym e) ∙ there)) in
          subst (λ (n : ℕ). Awaits l (drop w.seen l.names.requested) n p new.waiting) (sym e)
          (subst (λ (x : Opened). Awaits l (drop w.seen l.names.requested) k x new.waiting) is own)

      waiting_on : (j q : ℕ) (Q : Type 0) → (j ≡ k → ⊥) → (is_waiting w.waiting j q ≡ true) ⊎ Q → (is_waiting new.waiting j q ≡ true) ⊎ Q
      waiting_on j q Q differs (inl there) = inl (others j q differs there)
      waiting_on j q Q differs (inr other) = inr other

      apart : (j : ℕ) (p : Opened) → slice_get os j ≡ Some p → (j ≡ k → ⊥) → Awaits l (drop w.seen l.names.requested) j p new.waiting
      apart j p there differs = record {
        searched = λ s q e here t. waiting_on j q (is_among (drop w.seen l.names.requested) e.name ≡ true) differs ((c.awaited j p there).searched s q e here t);
        taken_whole = λ s. waiting_on j 0 (IsSpent (loaded l) p) differs ((c.awaited j p there).taken_whole s);
      }

  -- after a look at a searched one, and after the turn of a whole one
  pub covers_looked : o.whole ≡ false → NextWait l o.number (archive_entries o.bytes) k new.waiting → Covers l os new
  covers_looked searched_ wait =
      covers_but (record { searched = λ s q e here t. inl (wait q e here t); taken_whole = λ s. absurd (false≢true (sym searched_ ∙ s)) })

  pub covers_spent : o.whole ≡ true → IsSpent (loaded l) o → Covers l os new
  covers_spent whole_ spent = covers_but (record { searched = λ s. absurd (false≢true (sym s ∙ whole_)); taken_whole = λ s. inr spent })

-- what is covered is so later
pub covers_later : {T : Type 0} {names : T → List (List ℕ)} (now later : Loader T) (os : List Opened) (w : Waits) → Knows names now → Knows names later → IsLater now later → Covers now os w →
    Covers later os w
covers_later now later os w a b on c = record {
  placed = c.placed;
  seen_names = let n = length-append now.names.requested on.requested.0 in let m : length later.names.requested ≡ length (now.names.requested ++ on.requested.0) = ap length on.requested.1 in let s = c.seen_names in omega (arith, s, n, m);
  awaited = λ k o at. record {
    searched = λ s q e here t. by_case (is_next_of now.plan.now (loaded now) o.number e) (λ n. before k q e ((c.awaited k o at).searched s q e here n)) (λ n. inr (fresh o.number e t n));
    taken_whole = λ s. spent k o ((c.awaited k o at).taken_whole s);
  };
}
  where
    grown : drop w.seen later.names.requested ≡ drop w.seen now.names.requested ++ on.requested.0
    grown = drop_grows now.names.requested later.names.requested w.seen on.requested c.seen_names

    before : (k q : ℕ) (e : IndexEntry) → (is_waiting w.waiting k q ≡ true) ⊎ (is_among (drop w.seen now.names.requested) e.name ≡ true) →
        (is_waiting w.waiting k q ≡ true) ⊎ (is_among (drop w.seen later.names.requested) e.name ≡ true)
    before k q e (inl there) = inl there
    before k q e (inr asked_) = inr (among_grows (drop w.seen now.names.requested) (drop w.seen later.names.requested) e.name (on.requested.0, grown) asked_)

    spent : (k : ℕ) (o : Opened) → (is_waiting w.waiting k 0 ≡ true) ⊎ IsSpent (loaded now) o → (is_waiting w.waiting k 0 ≡ true) ⊎ IsSpent (loaded later) o
    spent k o (inl there) = inl there
    spent k o (inr (inl begun)) = inr (inl (begun_stays (loaded now) (loaded later) o.number on.objects begun))
    spent k o (inr (inr none)) = inr (inr none)

    free : (item : ℕ) (e : IndexEntry) → is_next_of later.plan.now (loaded later) item e ≡ true → is_taken (loaded later) item e.offset ≡ false
    free item e t = not-true (is_taken (loaded later) item e.offset) ((and_parts (needed later.plan.now (loaded later) e.name) (not (is_taken (loaded later) item e.offset)) t).1)

    fresh : (item : ℕ) (e : IndexEntry) → is_next_of later.plan.now (loaded later) item e ≡ true → is_next_of now.plan.now (loaded now) item e ≡ false →
        is_among (drop w.seen later.names.requested) e.name ≡ true
    fresh item e t s =
        ap (λ (l : List (List ℕ)). is_among l e.name) grown
        ∙ (list_any-append (bytes_eq e.name) (drop w.seen now.names.requested) on.requested.0
        ∙ or_right (is_among (drop w.seen now.names.requested) e.name) (is_among on.requested.0 e.name) behind)
      where
        free_before : is_taken (loaded now) item e.offset ≡ false
        free_before =
            false_from_ne_true (is_taken (loaded now) item e.offset)
            (λ taken_. false≢true (sym (free item e t) ∙ taken_stays (loaded now) (loaded later) item e.offset on.objects taken_))

        needed_later : needed later.plan.now (loaded later) e.name ≡ true
        needed_later = (and_parts (needed later.plan.now (loaded later) e.name) (not (is_taken (loaded later) item e.offset)) t).0

        asked_later : is_among later.names.requested e.name ≡ true
        asked_later =
            b.requested e.name
            ∙ (and_parts (is_requested later.plan.now (loaded later) e.name) (not (is_defined (loaded later) e.name)) needed_later).0

        undefined_before : is_defined (loaded now) e.name ≡ false
        undefined_before =
            false_from_ne_true (is_defined (loaded now) e.name)
            (λ there. false≢true
            (sym (not-true (is_defined (loaded later) e.name) ((and_parts (is_requested later.plan.now (loaded later) e.name) (not (is_defined (loaded later) e.name)) needed_later).1))
            ∙ defined_stays (loaded now) (loaded later) e.name on.objects there))

        unasked : is_among now.names.requested e.name ≡ false
        unasked =
            false_from_ne_true (is_among now.names.requested e.name)
            (λ asked_. false≢true
            (sym s
            ∙ and_from (needed now.plan.now (loaded now) e.name) (not (is_taken (loaded now) item e.offset))
            (and_from (is_requested now.plan.now (loaded now) e.name) (not (is_defined (loaded now) e.name)) (sym (a.requested e.name) ∙ asked_)
            (not_from_false (is_defined (loaded now) e.name) undefined_before))
            (not_from_false (is_taken (loaded now) item e.offset) free_before)))

        behind : is_among on.requested.0 e.name ≡ true
        behind =
            split
            (or_cases (is_among now.names.requested e.name) (is_among on.requested.0 e.name)
            (sym (ap (λ (l : List (List ℕ)). is_among l e.name) on.requested.1 ∙ list_any-append (bytes_eq e.name) now.names.requested on.requested.0) ∙ asked_later))
          where
            split : (is_among now.names.requested e.name ≡ true) ⊎ (is_among on.requested.0 e.name ≡ true) → is_among on.requested.0 e.name ≡ true
            split (inl x) = absurd (false≢true (sym unasked ∙ x))
            split (inr x) = x

-- What takes nothing.
spent_stays : (o : Opened) (os : List LoadedObject) → IsSpent os o → turn_of_whole o os ≡ os
spent_stays o os (inl begun) = cond-true (is_begun os o.number) os (with_members os o (archive_members o.bytes)) begun
spent_stays o os (inr none) =
    by_case (is_begun os o.number) (λ t. cond-true (is_begun os o.number) os (with_members os o (archive_members o.bytes)) t)
    (λ t. cond-false (is_begun os o.number) os (with_members os o (archive_members o.bytes)) t ∙ ap (with_members os o) none)

turn_idle : {T : Type 0} (l : Loader T) (k : ℕ) (o : Opened) (w : WaitingPlaces) → Awaits l [] k o w → ((q : ℕ) → is_waiting w k q ≡ false) → turn l.plan.now o (loaded l) ≡ loaded l
turn_idle l k o w a none = by_case o.whole whole searched
  where
    spent : (is_waiting w k 0 ≡ true) ⊎ IsSpent (loaded l) o → turn_of_whole o (loaded l) ≡ loaded l
    spent (inl there) = absurd (false≢true (sym (none 0) ∙ there))
    spent (inr is) = spent_stays o (loaded l) is

    whole : o.whole ≡ true → turn l.plan.now o (loaded l) ≡ loaded l
    whole is = turn_whole l.plan.now o (loaded l) is ∙ spent (a.taken_whole is)

    searched : o.whole ≡ false → turn l.plan.now o (loaded l) ≡ loaded l
    searched is =
        turn_none l.plan.now o (loaded l) is
        (none_gives (is_next_of l.plan.now (loaded l) o.number) (archive_entries o.bytes) k w (next_waits l k o w a is) none)

pub idle : {T : Type 0} (l : Loader T) (os : List Opened) (w : WaitingPlaces) (from to : ℕ) → AllAwait l [] os w →
    ((k q : ℕ) → from ≤ k → k < to → is_waiting w k q ≡ false) → AreIdle l os from to
idle l os w from to all none k o low high at = turn_idle l k o w (all k o at) (λ q. none k q low high)
