-- The rules of loading lead to one list, the loaded objects.
use Rattle.std.proofs.Common.{◌≡◌, ℕ, zero, suc, ◌+◌, ◌<◌, ◌≤◌, ◌==◌, ◌⊎◌, inl, inr, Bool, true, false, cond, List, [], ◌∷◌, length, Option, Some, None, refl, sym, ◌∙◌, ap, subst, arith}
use Rattle.std.specs.Prelude.{◌≢◌}
use Rattle.std.proofs.lemmas.Bool.{cond-false, cond-true, eqb-true, eqb-false}
use Rattle.std.proofs.lemmas.Option.{none-some, same_Some}
use Rattle.elf_model.specs.Inputs.ArchiveFile.{IndexEntry, Member}
use Rattle.elf_model.specs.Inputs.Command.{Plan}
use Rattle.elf_model.specs.Inputs.Files.{File}
use Rattle.elf_model.specs.Link.Loading.{Group, LoadedObject, Single, Step, is_begun, is_next, loaded_objects, loaded_step, loaded_steps, most_rounds, next, round, rounds_within, searched, steps, turn, turn_of_whole, with_member, with_members, with_object}
use Rattle.elf_model.specs.Link.LoadingBounds.{left, left_of_all, untaken}
use Rattle.elf_model.specs.Link.LoadingRules.{FollowsRules, LoadsSingle, LoadsStep, LoadsSteps, Round, RoundsBy, SearchedBy, Turn, TurnIf}
use Rattle.elf_model.specs.Inputs.Opening.{Opened, archive_entries, archive_members, opened}
use Rattle.elf_model.proofs.LoadingBounds.{Extends, begun_now, begun_stays, by_case, extends_length, extends_refl, extends_same, extends_trans, extends_with, next_is_free, taken_stays, untaken_falls, untaken_le, untaken_most, untaken_none}

-- Turns.
pub members_extend : (from : List LoadedObject) (o : Opened) (ms : List Member) → Extends from (with_members from o ms)
members_extend from o [] = extends_refl from
members_extend from o (m ∷ ms) =
    let now = with_object from o m.offset m.bytes in
    extends_trans from now (with_members now o ms) (extends_with from o m.offset m.bytes) (members_extend now o ms)

pub whole_extends : (o : Opened) (from : List LoadedObject) → Extends from (turn_of_whole o from)
whole_extends o from =
    by_case (is_begun from o.number)
    (λ b. extends_same from _ (cond-true (is_begun from o.number) from _ b))
    (λ b. subst (Extends from) (sym (cond-false (is_begun from o.number) from _ b)) (members_extend from o (archive_members o.bytes)))

pub searched_extends : (n : ℕ) (plan : Plan) (o : Opened) (from to : List LoadedObject) → SearchedBy n plan o from to → Extends from to
searched_extends zero plan o from to s = extends_same from to s.1
searched_extends (suc n) plan o from to s =
    let now = with_member from o s.0 in
    extends_trans from now to (extends_with from o s.0.offset _) (searched_extends n plan o now to s.2)

turn_if_extends : (b : Bool) (plan : Plan) (o : Opened) (from to : List LoadedObject) → TurnIf b plan o from to → Extends from to
turn_if_extends true plan o from to t = subst (Extends from) (sym t) (whole_extends o from)
turn_if_extends false plan o from to t = searched_extends t.0 plan o from to t.1

pub turn_extends : (plan : Plan) (o : Opened) (from to : List LoadedObject) → Turn plan o from to → Extends from to
turn_extends plan o from to t = turn_if_extends o.whole plan o from to t

pub round_extends : (plan : Plan) (os : List Opened) (from to : List LoadedObject) → Round plan os from to → Extends from to
round_extends plan [] from to r = extends_same from to r
round_extends plan (o ∷ os) from to r = extends_trans from r.0 to (turn_extends plan o from r.0 r.1) (round_extends plan os r.0 to r.2)

-- What is left falls with whatever is taken.
left_at : Bool → Opened → List LoadedObject → ℕ
left_at b o objects =
    cond b (cond (is_begun objects o.number) 0 (length (archive_members o.bytes))) (untaken objects o.number (archive_entries o.bytes))

part_le : (b c : Bool) (n : ℕ) → (b ≡ true → c ≡ true) → cond c 0 n ≤ cond b 0 n
part_le true c n grows = let e = grows refl in rw e (omega arith)
part_le false true n grows = omega arith
part_le false false n grows = omega arith

left_at_le : (b : Bool) (o : Opened) (from to : List LoadedObject) → Extends from to → left_at b o to ≤ left_at b o from
unfolding left_at
left_at_le true o from to e = part_le (is_begun from o.number) (is_begun to o.number) (length (archive_members o.bytes)) (begun_stays from to o.number e)
left_at_le false o from to e = untaken_le from to o.number (λ k. taken_stays from to o.number k e) (archive_entries o.bytes)

pub left_le : (o : Opened) (from to : List LoadedObject) → Extends from to → left o to ≤ left o from
unfolding left_at
left_le o from to e = left_at_le o.whole o from to e

pub left_all_le : (os : List Opened) (from to : List LoadedObject) → Extends from to → left_of_all os to ≤ left_of_all os from
left_all_le [] from to e = omega arith
left_all_le (o ∷ os) from to e = let head = left_le o from to e in let rest = left_all_le os from to e in omega (arith, head, rest)

searched_falls :
    (n : ℕ) (plan : Plan) (o : Opened) (from to : List LoadedObject) → SearchedBy n plan o from to →
    (to ≡ from) ⊎ (untaken to o.number (archive_entries o.bytes) < untaken from o.number (archive_entries o.bytes))
searched_falls zero plan o from to s = inl s.1
searched_falls (suc n) plan o from to s =
    let now = with_member from o s.0 in
    let first = untaken_falls plan from o s.0 s.1 in
    let rest = untaken_le now to o.number (λ k. taken_stays now to o.number k (searched_extends n plan o now to s.2)) (archive_entries o.bytes) in
    inr (omega (arith, first, rest))

members_fall :
    (from : List LoadedObject) (o : Opened) (ms : List Member) → is_begun from o.number ≡ false →
    (with_members from o ms ≡ from) ⊎ (cond (is_begun (with_members from o ms) o.number) 0 (length ms) < cond (is_begun from o.number) 0 (length ms))
members_fall from o [] b = inl refl
members_fall from o (m ∷ ms) b =
    let now = with_object from o m.offset m.bytes in
    let begun = begun_stays now (with_members now o ms) o.number (members_extend now o ms) (begun_now from o m.offset m.bytes) in
    inr (rw (begun, b) (omega arith))

whole_falls : (o : Opened) (from : List LoadedObject) → (turn_of_whole o from ≡ from) ⊎ (left_at true o (turn_of_whole o from) < left_at true o from)
unfolding left_at
whole_falls o from = by_case (is_begun from o.number) (λ b. inl (cond-true (is_begun from o.number) from _ b)) later
  where
    later : is_begun from o.number ≡ false →
        (turn_of_whole o from ≡ from)
        ⊎ (cond (is_begun (turn_of_whole o from) o.number) 0 (length (archive_members o.bytes)) < cond (is_begun from o.number) 0 (length (archive_members o.bytes)))
    later b =
        subst
        (λ (l : List LoadedObject). (l ≡ from) ⊎ (cond (is_begun l o.number) 0 (length (archive_members o.bytes)) < cond (is_begun from o.number) 0 (length (archive_members o.bytes))))
        (sym (cond-false (is_begun from o.number) from (with_members from o (archive_members o.bytes)) b)) (members_fall from o (archive_members o.bytes) b)

turn_if_falls : (b : Bool) (plan : Plan) (o : Opened) (from to : List LoadedObject) → TurnIf b plan o from to → (to ≡ from) ⊎ (left_at b o to < left_at b o from)
unfolding left_at
turn_if_falls true plan o from to t = subst (λ (l : List LoadedObject). (l ≡ from) ⊎ (left_at true o l < left_at true o from)) (sym t) (whole_falls o from)
turn_if_falls false plan o from to t = searched_falls t.0 plan o from to t.1

pub turn_falls : (plan : Plan) (o : Opened) (from to : List LoadedObject) → Turn plan o from to → (to ≡ from) ⊎ (left o to < left o from)
unfolding left_at
turn_falls plan o from to t = turn_if_falls o.whole plan o from to t

pub round_falls : (plan : Plan) (os : List Opened) (from to : List LoadedObject) → Round plan os from to → (to ≡ from) ⊎ (left_of_all os to < left_of_all os from)
round_falls plan [] from to r = inl r
round_falls plan (o ∷ os) from to r = by (turn_falls plan o from r.0 r.1) (round_falls plan os r.0 to r.2)
  where
    one : Extends from r.0
    one = turn_extends plan o from r.0 r.1

    rest : Extends r.0 to
    rest = round_extends plan os r.0 to r.2

    by : (r.0 ≡ from) ⊎ (left o r.0 < left o from) → (to ≡ r.0) ⊎ (left_of_all os to < left_of_all os r.0) → (to ≡ from) ⊎ (left_of_all (o ∷ os) to < left_of_all (o ∷ os) from)
    by (inl a) (inl b) = inl (b ∙ a)
    by (inr a) b =
        let x = left_le o r.0 to rest in
        let y = left_all_le os from to (extends_trans from r.0 to one rest) in
        inr (omega (arith, a, x, y))
    by (inl a) (inr b) =
        let x = left_le o from to (extends_trans from r.0 to one rest) in
        let y = left_all_le os from r.0 one in
        inr (omega (arith, b, x, y))

-- The rules leave no choice.
searched_only :
    (n m : ℕ) (plan : Plan) (o : Opened) (from to other : List LoadedObject) → SearchedBy n plan o from to → SearchedBy m plan o from other →
    other ≡ to
searched_only zero zero plan o from to other s t = t.1 ∙ sym s.1
searched_only zero (suc m) plan o from to other s t = absurd (none-some t.0 (sym s.0 ∙ t.1))
searched_only (suc n) zero plan o from to other s t = absurd (none-some s.0 (sym t.0 ∙ s.1))
searched_only (suc n) (suc m) plan o from to other s t =
    let same : t.0 ≡ s.0 = same_Some t.0 s.0 (sym t.1 ∙ s.1) in
    searched_only n m plan o (with_member from o s.0) to other s.2
    (subst (λ (e : IndexEntry). SearchedBy m plan o (with_member from o e) other) same t.2)

turn_if_only : (b : Bool) (plan : Plan) (o : Opened) (from to other : List LoadedObject) → TurnIf b plan o from to → TurnIf b plan o from other → other ≡ to
turn_if_only true plan o from to other s t = t ∙ sym s
turn_if_only false plan o from to other s t = searched_only s.0 t.0 plan o from to other s.1 t.1

pub turn_only : (plan : Plan) (o : Opened) (from to other : List LoadedObject) → Turn plan o from to → Turn plan o from other → other ≡ to
turn_only plan o from to other s t = turn_if_only o.whole plan o from to other s t

pub round_only : (plan : Plan) (os : List Opened) (from to other : List LoadedObject) → Round plan os from to → Round plan os from other → other ≡ to
round_only plan [] from to other s t = t ∙ sym s
round_only plan (o ∷ os) from to other s t =
    round_only plan os s.0 to other s.2
    (subst (λ (l : List LoadedObject). Round plan os l other) (turn_only plan o from s.0 t.0 s.1 t.1) t.2)

pub rounds_by_only :
    (n m : ℕ) (plan : Plan) (os : List Opened) (from to other : List LoadedObject) → RoundsBy n plan os from to → RoundsBy m plan os from other →
    other ≡ to
rounds_by_only zero zero plan os from to other s t = t.1 ∙ sym s.1
rounds_by_only zero (suc m) plan os from to other s t = absurd (t.2 (round_only plan os from from t.0 s.0 t.1))
rounds_by_only (suc n) zero plan os from to other s t = absurd (s.2 (round_only plan os from from s.0 t.0 s.1))
rounds_by_only (suc n) (suc m) plan os from to other s t =
    rounds_by_only n m plan os s.0 to other s.3
    (subst (λ (l : List LoadedObject). RoundsBy m plan os l other) (round_only plan os from s.0 t.0 s.1 t.1) t.3)

single_only :
    (b : Bool) (plan : Plan) (o : Opened) (from to other : List LoadedObject) → LoadsSingle b plan o from to → LoadsSingle b plan o from other →
    other ≡ to
single_only true plan o from to other s t = turn_only plan o from to other s t
single_only false plan o from to other s t = t ∙ sym s

step_only : (plan : Plan) (s : Step) (from to other : List LoadedObject) → LoadsStep plan s from to → LoadsStep plan s from other → other ≡ to
step_only plan (Single o) from to other s t = single_only o.archive plan o from to other s t
step_only plan (Group g os) from to other s t = rounds_by_only s.0 t.0 plan os from to other s.1 t.1

pub steps_only : (plan : Plan) (ss : List Step) (from to other : List LoadedObject) → LoadsSteps plan ss from to → LoadsSteps plan ss from other → other ≡ to
steps_only plan [] from to other s t = t ∙ sym s
steps_only plan (x ∷ xs) from to other s t =
    steps_only plan xs s.0 to other s.2 (subst (λ (l : List LoadedObject). LoadsSteps plan xs l other) (step_only plan x from s.0 t.0 s.1 t.1) t.2)

-- The loaded objects follow the rules.
abbrev goes_on : ℕ → Plan → Opened → List LoadedObject → Option IndexEntry → List LoadedObject
goes_on n plan o from found = elim found as (λ _. List LoadedObject) [ None ↦ from | Some e ↦ searched n plan o (with_member from o e) ]

-- where fewer entries are left, a search ends
abbrev EndsFrom : ℕ → Plan → Opened → List LoadedObject → List LoadedObject → Type 0
EndsFrom n plan o from to = (k : ℕ) × SearchedBy k plan o from to

one_more :
    (n : ℕ) (plan : Plan) (o : Opened) (from : List LoadedObject) → untaken from o.number (archive_entries o.bytes) ≤ suc n →
    ((e : IndexEntry) → untaken (with_member from o e) o.number (archive_entries o.bytes) ≤ n →
    EndsFrom n plan o (with_member from o e) (searched n plan o (with_member from o e))) → (found : Option IndexEntry) → next plan from o ≡ found →
    EndsFrom n plan o from (goes_on n plan o from (next plan from o))
one_more n plan o from few rest None is = (0, (is, ap (goes_on n plan o from) is))
one_more n plan o from few rest (Some e) is =
    let falls = untaken_falls plan from o e is in
    let later = rest e (omega (arith, few, falls)) in
    (suc later.0, (e, is, subst (SearchedBy later.0 plan o (with_member from o e)) (sym (ap (goes_on n plan o from) is)) later.1))

searched_ends :
    (n : ℕ) (plan : Plan) (o : Opened) (from : List LoadedObject) → untaken from o.number (archive_entries o.bytes) ≤ n →
    EndsFrom n plan o from (searched n plan o from)
searched_ends zero plan o from few =
    (0, (untaken_none (is_next plan from o) from o.number (next_is_free plan from o) (archive_entries o.bytes) (omega (arith, few)), refl))
searched_ends (suc n) plan o from few =
    one_more n plan o from few (λ e more. searched_ends n plan o (with_member from o e) more) (next plan from o) refl

turn_if_ends : (b : Bool) (plan : Plan) (o : Opened) (from : List LoadedObject) → TurnIf b plan o from (cond b (turn_of_whole o from) (searched (length (archive_entries o.bytes)) plan o from))
turn_if_ends true plan o from = refl
turn_if_ends false plan o from = searched_ends (length (archive_entries o.bytes)) plan o from (untaken_most from o.number (archive_entries o.bytes))

pub turn_ends : (plan : Plan) (o : Opened) (from : List LoadedObject) → Turn plan o from (turn plan o from)
turn_ends plan o from = turn_if_ends o.whole plan o from

pub round_ends : (plan : Plan) (os : List Opened) (from : List LoadedObject) → Round plan os from (round plan os from)
round_ends plan [] from = refl
round_ends plan (o ∷ os) from = (turn plan o from, turn_ends plan o from, round_ends plan os (turn plan o from))

pub falls_strictly : {P Q : Type 0} → (P → ⊥) → P ⊎ Q → Q
falls_strictly never (inl p) = absurd (never p)
falls_strictly never (inr q) = q

abbrev RoundsEnd : ℕ → Plan → List Opened → List LoadedObject → Type 0
RoundsEnd n plan os from = (k : ℕ) × RoundsBy k plan os from (rounds_within n plan os from)

one_round :
    (n : ℕ) (plan : Plan) (os : List Opened) (from more : List LoadedObject) → Round plan os from more → left_of_all os from < suc n →
    (left_of_all os more < n → RoundsEnd n plan os more) →
    (k : ℕ) × RoundsBy k plan os from (cond (length more == length from) from (rounds_within n plan os more))
one_round n plan os from more once few rest = by_case (length more == length from) last further
  where
    last : (length more == length from) ≡ true → (k : ℕ) × RoundsBy k plan os from (cond (length more == length from) from (rounds_within n plan os more))
    last b =
        let same : more ≡ from = extends_length from more (round_extends plan os from more once) (eqb-true (length more) (length from) b) in
        (0, (subst (Round plan os from) same once, cond-true (length more == length from) from (rounds_within n plan os more) b))

    further : (length more == length from) ≡ false → (k : ℕ) × RoundsBy k plan os from (cond (length more == length from) from (rounds_within n plan os more))
    further b =
        let other : more ≢ from = λ same. eqb-false (length more) (length from) b (ap length same) in
        let less : left_of_all os more < left_of_all os from = falls_strictly other (round_falls plan os from more once) in
        let later = rest (omega (arith, few, less)) in
        (suc later.0, (more, once, other, subst (RoundsBy later.0 plan os more) (sym (cond-false (length more == length from) from (rounds_within n plan os more) b)) later.1))

pub rounds_end : (n : ℕ) (plan : Plan) (os : List Opened) (from : List LoadedObject) → left_of_all os from < n → RoundsEnd n plan os from
rounds_end zero plan os from few = absurd (omega (arith, few))
rounds_end (suc n) plan os from few =
    one_round n plan os from (round plan os from) (round_ends plan os from) few (λ less. rounds_end n plan os (round plan os from) less)

pub left_most : (os : List Opened) (from : List LoadedObject) → left_of_all os from < most_rounds os
left_most [] from = omega arith
left_most (o ∷ os) from =
    let entries = untaken_most from o.number (archive_entries o.bytes) in
    let rest = left_most os from in
    let one : left o from ≤ length (archive_entries o.bytes) + length (archive_members o.bytes) = most o.whole (is_begun from o.number) in
    omega (arith, one, rest)
  where
    most : (w b : Bool) → cond w (cond b 0 (length (archive_members o.bytes))) (untaken from o.number (archive_entries o.bytes))
        ≤ length (archive_entries o.bytes) + length (archive_members o.bytes)
    most true true = omega arith
    most true false = omega arith
    most false b = let entries = untaken_most from o.number (archive_entries o.bytes) in omega (arith, entries)

single_ends : (b : Bool) (plan : Plan) (o : Opened) (from : List LoadedObject) → LoadsSingle b plan o from (cond b (turn plan o from) (with_object from o 0 o.bytes))
single_ends true plan o from = turn_ends plan o from
single_ends false plan o from = refl

step_ends : (plan : Plan) (s : Step) (from : List LoadedObject) → LoadsStep plan s from (loaded_step plan s from)
step_ends plan (Single o) from = single_ends o.archive plan o from
step_ends plan (Group g os) from = rounds_end (most_rounds os) plan os from (left_most os from)

steps_end : (plan : Plan) (ss : List Step) (from : List LoadedObject) → LoadsSteps plan ss from (loaded_steps plan ss from)
steps_end plan [] from = refl
steps_end plan (s ∷ ss) from = (loaded_step plan s from, step_ends plan s from, steps_end plan ss (loaded_step plan s from))

pub follows_rules : (files : List File) (plan : Plan) → FollowsRules files plan
unfolding loaded_objects
follows_rules files plan = record {
  loads = steps_end plan (steps (opened files plan)) [];
  only = λ other ls. steps_only plan (steps (opened files plan)) [] (loaded_objects files plan) other (steps_end plan (steps (opened files plan)) []) ls;
}
