-- Rounds in which only the archives have turns that may take something.
use Rattle.std.proofs.Common.{◌≡◌, ℕ, zero, suc, ◌+◌, ◌<◌, ◌≤◌, ◌-◌, ◌==◌, ◌⊎◌, inl, inr, Bool, true, false, List, [], ◌∷◌, length, get_or, drop, take, drop-cons, Some, None, refl, sym, ◌∙◌, ap, subst, arith, cond}
use Rattle.std.specs.Prelude.{All}
use Rattle.std.proofs.Math.ListN.{drop_of_length-le}
use Rattle.std.specs.List.{slice_get}
use Rattle.std.proofs.lemmas.Bool.{cases_lt, cond-true, eqb-false, eqb-true, false≢true}
use Rattle.std.proofs.lemmas.Option.{get_or_from_slice_get, none-some, same_Some, slice_get-get_or, slice_get_within}
use Rattle.elf_model.specs.Inputs.ArchiveFile.{IndexEntry, Member}
use Rattle.elf_model.specs.Inputs.Command.{Item, Plan}
use Rattle.elf_model.specs.Inputs.Files.{File}
use Rattle.elf_model.specs.Link.Loading.{LoadedObject, is_begun, is_next, round, rounds, turn, turn_of_whole, with_members, with_object}
use Rattle.elf_model.specs.Inputs.Opening.{Opened, archive_entries, archive_members, opened, opened_from, opened_item}
use Rattle.elf_model.proofs.LoadingBounds.{Extends, begun_now, begun_stays, by_case, extends_length}
use Rattle.elf_model.proofs.LoadingLaws.{members_extend}
use Rattle.elf_model.proofs.LoadingSteps.{round_behind, rounds_more, turn_behind, turn_none, turn_whole}
use Rattle.check_load.specs.Awake.{is_awake}
use Rattle.check_load.specs.Loaders.{Knows, loaded}
use Rattle.check_load.specs.Places.{IsAt}
use Rattle.check_load.specs.Rounds.{AreAsleep, AreSideBySide, AreSpent, IsSpent}
use Rattle.check_load.specs.declared.loader.Loader.{Loader}
use Rattle.check_load.proofs.FreeLaws.{find_none, free_is_next}

-- Numbers side by side.
dropped_at : (n : ℕ) (xs : List Opened) (i : ℕ) → slice_get (drop n xs) i ≡ slice_get xs (n + i)
dropped_at zero xs i = let e : 0 + i ≡ i = omega arith in rw e refl
dropped_at (suc n) [] i = refl
dropped_at (suc n) (x ∷ xs) i = let e : suc n + i ≡ suc (n + i) = omega arith in rw e (dropped_at n xs i)

taken_at : (n : ℕ) (xs : List Opened) (i : ℕ) (o : Opened) → slice_get (take n xs) i ≡ Some o → slice_get xs i ≡ Some o
taken_at zero xs i o at = absurd (none-some o at)
taken_at (suc n) [] i o at = absurd (none-some o at)
taken_at (suc n) (x ∷ xs) zero o at = at
taken_at (suc n) (x ∷ xs) (suc i) o at = taken_at n xs i o at

pub side_dropped : (n : ℕ) (xs rest : List Opened) → rest ≡ drop n xs → AreSideBySide xs → AreSideBySide rest
side_dropped n xs rest is side i j o p at there =
    let both = side (n + i) (n + j) o p (sym (dropped_at n xs i) ∙ (ap (λ (l : List Opened). slice_get l i) (sym is) ∙ at))
    (sym (dropped_at n xs j) ∙ (ap (λ (l : List Opened). slice_get l j) (sym is) ∙ there)) in
    omega (arith, both)

pub side_taken : (n : ℕ) (xs front : List Opened) → front ≡ take n xs → AreSideBySide xs → AreSideBySide front
side_taken n xs front is side i j o p at there =
    side i j o p (taken_at n xs i o (ap (λ (l : List Opened). slice_get l i) (sym is) ∙ at)) (taken_at n xs j p (ap (λ (l : List Opened). slice_get l j) (sym is) ∙ there))

-- opened items are numbered from 0 on
number_from : (files : List File) (directories : List (List ℕ)) (k : ℕ) (items : List Item) (i : ℕ) (o : Opened) →
    slice_get (opened_from files directories k items) i ≡ Some o → o.number ≡ k + i
number_from files directories k [] i o at = absurd (none-some o at)
number_from files directories k (item ∷ items) zero o at =
    let first : k ≡ k + 0 = omega arith in
    ap (λ (x : Opened). x.number) (sym (same_Some (opened_item files directories k item) o at)) ∙ first
number_from files directories k (item ∷ items) (suc i) o at =
    let next_ = number_from files directories (k + 1) items i o at in omega (arith, next_)

pub side_opened : (files : List File) (plan : Plan) → AreSideBySide (opened files plan)
side_opened files plan i j o p at there =
    let first = number_from files plan.directories 0 plan.items i o at in
    let second = number_from files plan.directories 0 plan.items j p there in
    omega (arith, first, second)

-- Whole archives that give no more.
pub spent_later : (from to : List LoadedObject) (o : Opened) → Extends from to → IsSpent from o → IsSpent to o
spent_later from to o on (inl begun) = inl (begun_stays from to o.number on begun)
spent_later from to o on (inr none) = inr none

turn_spends : (plan : Plan) (os : List LoadedObject) (o : Opened) → o.whole ≡ true → IsSpent (turn plan o os) o
turn_spends plan os o whole = by_case (is_begun os o.number)
    (λ b. inl (begun_stays os (turn plan o os) o.number (turn_behind plan o os) b))
    (λ b. by (archive_members o.bytes) refl (turn_whole plan o os whole ∙ ap (λ (t : Bool). cond t os (with_members os o (archive_members o.bytes))) b))
  where
    by : (ms : List Member) → archive_members o.bytes ≡ ms → turn plan o os ≡ with_members os o (archive_members o.bytes) → IsSpent (turn plan o os) o
    by [] none is = inr none
    by (m ∷ ms) some is =
        let now = with_object os o m.offset m.bytes in
        inl (begun_stays now (turn plan o os) o.number
        (subst (Extends now) (sym (is ∙ ap (λ (l : List Member). with_members os o l) some)) (members_extend now o ms)) (begun_now os o m.offset m.bytes))

pub spent_step :
    (plan : Plan) (inputs : List Opened) (os to : List LoadedObject) (i : ℕ) (x : Opened) → x ≡ get_or inputs i x → i < length inputs → to ≡ turn plan x os →
    ((k : ℕ) (o : Opened) → k < i → slice_get inputs k ≡ Some o → o.whole ≡ true → IsSpent os o) →
    (k : ℕ) (o : Opened) → k < i + 1 → slice_get inputs k ≡ Some o → o.whole ≡ true → IsSpent to o
spent_step plan inputs os to i x read low next_ before k o within at whole = by (cases_lt k i)
  where
    by : (k < i) ⊎ (i ≤ k) → IsSpent to o
    by (inl less) = spent_later os to o (subst (Extends os) (sym next_) (turn_behind plan x os)) (before k o less at whole)
    by (inr high) =
        let same : k ≡ i = omega (arith, within, high) in
        let is : x ≡ o = read ∙ get_or_from_slice_get inputs i o x (subst (λ (j : ℕ). slice_get inputs j ≡ Some o) same at) in
        subst (λ (l : List LoadedObject). IsSpent l o) (sym (next_ ∙ ap (λ (y : Opened). turn plan y os) is)) (turn_spends plan os o whole)

pub all_spent : (inputs : List Opened) (os : List LoadedObject) (i : ℕ) → length inputs ≤ i →
    ((k : ℕ) (o : Opened) → k < i → slice_get inputs k ≡ Some o → o.whole ≡ true → IsSpent os o) → AreSpent os inputs
all_spent inputs os i past before k o at whole = let n = slice_get_within inputs k o at in before k o (omega (arith, n, past)) at whole

pub spent_on : (inputs : List Opened) (from to : List LoadedObject) → Extends from to → AreSpent from inputs → AreSpent to inputs
spent_on inputs from to on spent k o at whole = spent_later from to o on (spent k o at whole)

-- Archives whose turns would take nothing.
idle_spent : (o : Opened) (os : List LoadedObject) → IsSpent os o → turn_of_whole o os ≡ os
idle_spent o os (inl begun) = cond-true (is_begun os o.number) os (with_members os o (archive_members o.bytes)) begun
idle_spent o os (inr none) = ap (λ (ms : List Member). cond (is_begun os o.number) os (with_members os o ms)) none ∙ same (is_begun os o.number)
  where
    same : (b : Bool) → cond b os os ≡ os
    same true = refl
    same false = refl

turn_idle : (os : List Opened) (l : Loader) (o : Opened) → Knows os l → IsAt os o → o.archive ≡ true → (o.whole ≡ true → IsSpent (loaded l) o) →
    ((q : ℕ) → is_awake l.awake o.number q ≡ false) → turn l.plan.now o (loaded l) ≡ loaded l
turn_idle os l o k at archive spent asleep = by_case o.whole
    (λ w. turn_whole l.plan.now o (loaded l) w ∙ idle_spent o (loaded l) (spent w))
    (λ s. turn_none l.plan.now o (loaded l) s (find_none (is_next l.plan.now (loaded l) o) (archive_entries o.bytes)
    (λ q e there t. false≢true (sym (asleep q) ∙ k.awake o at archive s q e there (ap (λ (test : IndexEntry → Bool). test e) (free_is_next os l o k) ∙ t)))))

-- a round from one archive on to another, where those between would take nothing
skip_one : (plan : Plan) (inputs : List Opened) (os : List LoadedObject) (from : ℕ) → from < length inputs →
    ((o : Opened) → slice_get inputs from ≡ Some o → turn plan o os ≡ os) → round plan (drop from inputs) os ≡ round plan (drop (suc from) inputs) os
skip_one plan inputs os from low idle =
    let d : Opened = record { number = 0; path = []; bytes = []; archive = false; whole = false; group = None } in
    let o = get_or inputs from d in
    ap (λ (l : List Opened). round plan l os) (drop-cons inputs from d low)
    ∙ ap (round plan (drop (suc from) inputs)) (idle o (slice_get-get_or inputs from d low))

skipped : (plan : Plan) (inputs : List Opened) (os : List LoadedObject) (n from : ℕ) → from + n ≤ length inputs →
    ((k : ℕ) (o : Opened) → from ≤ k → k < from + n → slice_get inputs k ≡ Some o → turn plan o os ≡ os) → round plan (drop from inputs) os ≡ round plan (drop (from + n) inputs) os
skipped plan inputs os zero from within idle = let e : from + 0 ≡ from = omega arith in rw e refl
skipped plan inputs os (suc n) from within idle =
    let e : suc from + n ≡ from + suc n = omega arith in
    skip_one plan inputs os from (omega (arith, within)) (λ o at. idle from o (omega arith) (omega arith) at)
    ∙ (skipped plan inputs os n (suc from) (omega (arith, within)) (λ k x more less here. idle k x (omega (arith, more)) (omega (arith, less)) here)
    ∙ ap (λ (m : ℕ). round plan (drop m inputs) os) e)

pub round_skips : (os : List Opened) (l : Loader) (inputs : List Opened) (from to : ℕ) → Knows os l → All (IsAt os) inputs → All (λ o. o.archive ≡ true) inputs →
    AreSpent (loaded l) inputs → from ≤ to → to ≤ length inputs → AreAsleep l inputs from to →
    round l.plan.now (drop from inputs) (loaded l) ≡ round l.plan.now (drop to inputs) (loaded l)
round_skips os l inputs from to k at archives spent low high asleep = by (to - from, omega (arith, low))
  where
    by : (n : ℕ) × (from + n ≡ to) → round l.plan.now (drop from inputs) (loaded l) ≡ round l.plan.now (drop to inputs) (loaded l)
    by d =
        let e = d.1 in
        skipped l.plan.now inputs (loaded l) d.0 from (omega (arith, e, high))
        (λ j o more less here.
        let within = slice_get_within inputs j o here in
        let there : o ≡ get_or inputs j o = sym (get_or_from_slice_get inputs j o o here) in
        turn_idle os l o k (subst (IsAt os) (sym there) (at j o within)) (subst (λ (x : Opened). x.archive ≡ true) (sym there) (archives j o within)) (spent j o here)
        (λ q. asleep j q o more (omega (arith, less, e)) here))
        ∙ ap (λ (m : ℕ). round l.plan.now (drop m inputs) (loaded l)) e

-- rounds after a round are rounds
pub rounds_after : (plan : Plan) (inputs : List Opened) (os : List LoadedObject) → rounds plan inputs (round plan inputs os) ≡ rounds plan inputs os
rounds_after plan inputs os = by_case (length (round plan inputs os) == length os)
    (λ t. ap (rounds plan inputs) (extends_length os (round plan inputs os) (round_behind plan inputs os) (eqb-true (length (round plan inputs os)) (length os) t)))
    (λ f. rounds_more plan inputs os (λ e. eqb-false (length (round plan inputs os)) (length os) f (ap (λ (l : List LoadedObject). length l) e)))

-- what is left of a round once the archives that would take nothing are passed over
pub rest_at : (os : List Opened) (l : Loader) (inputs : List Opened) (from to : ℕ) (plan : Plan) (end : List LoadedObject) → l.plan.now ≡ plan → Knows os l →
    All (IsAt os) inputs → All (λ o. o.archive ≡ true) inputs → AreSpent (loaded l) inputs → from ≤ to → to ≤ length inputs → AreAsleep l inputs from to →
    round plan (drop from inputs) (loaded l) ≡ end → round plan (drop to inputs) (loaded l) ≡ end
rest_at os l inputs from to plan end same k at archives spent low high asleep rest =
    subst (λ (q : Plan). round q (drop to inputs) (loaded l) ≡ end) same
    (sym (round_skips os l inputs from to k at archives spent low high asleep) ∙ (ap (λ (q : Plan). round q (drop from inputs) (loaded l)) same ∙ rest))

pub round_over : (plan : Plan) (inputs : List Opened) (os end : List LoadedObject) → round plan (drop (length inputs) inputs) os ≡ end → os ≡ end
round_over plan inputs os end rest = sym (ap (λ (l : List Opened). round plan l os) (drop_of_length-le inputs (omega arith))) ∙ rest
