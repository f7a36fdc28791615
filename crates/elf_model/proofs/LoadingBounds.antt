-- Each step of loading that takes something leaves less to take.
use Rattle.std.proofs.Common.{◌≡◌, ℕ, ◌+◌, ◌<◌, ◌≤◌, ◌==◌, ◌&&◌, ◌||◌, not, Bool, true, false, cond, List, [], ◌∷◌, ◌++◌, length, Some, None, refl, sym, ◌∙◌, ap, arith, append_assoc, length-append, eq-eqb}
use Rattle.std.specs.List.{find}
use Rattle.std.proofs.lemmas.Bool.{and_from, and_parts, false≢true, not-true, or_left, or_right}
use Rattle.std.proofs.lemmas.List.{append-nil}
use Rattle.std.proofs.lemmas.List.Folds.{list_any-append}
use Rattle.std.proofs.lemmas.Option.{none-some, same_Some}
use Rattle.elf_model.specs.Inputs.ArchiveFile.{IndexEntry}
use Rattle.elf_model.specs.Inputs.Command.{Plan}
use Rattle.elf_model.specs.Link.Loading.{LoadedObject, is_begun, is_next, is_taken, needed, next, object_behind, with_member, with_object}
use Rattle.elf_model.specs.Link.LoadingBounds.{untaken}
use Rattle.elf_model.specs.Inputs.Opening.{Opened, archive_entries}

-- both cases of a test
pub by_case : {P : Type 0} (b : Bool) → (b ≡ true → P) → (b ≡ false → P) → P
by_case true yes_ no_ = yes_ refl
by_case false yes_ no_ = no_ refl

-- What is loaded later stands behind what is loaded now.
abbrev pub Extends : List LoadedObject → List LoadedObject → Type 0
Extends from to = (more : List LoadedObject) × (to ≡ from ++ more)

pub extends_refl : (from : List LoadedObject) → Extends from from
extends_refl from = ([], sym (append-nil from))

pub extends_same : (from to : List LoadedObject) → to ≡ from → Extends from to
extends_same from to same = ([], same ∙ sym (append-nil from))

pub extends_trans : (from mid to : List LoadedObject) → Extends from mid → Extends mid to → Extends from to
extends_trans from mid to a b = (a.0 ++ b.0, b.1 ∙ ap (λ (l : List LoadedObject). l ++ b.0) a.1 ∙ append_assoc from a.0 b.0)

pub extends_with : (from : List LoadedObject) (o : Opened) (offset : ℕ) (bytes : List ℕ) → Extends from (with_object from o offset bytes)
extends_with from o offset bytes = (object_behind from o offset bytes ∷ [], refl)

-- the same length is the same list
pub extends_length : (from to : List LoadedObject) → Extends from to → length to ≡ length from → to ≡ from
extends_length from to e same = by e.0 e.1
  where
    by : (more : List LoadedObject) → to ≡ from ++ more → to ≡ from
    by [] is = is ∙ append-nil from
    by (x ∷ xs) is =
        let n : length to ≡ length (from ++ x ∷ xs) = ap length is in
        let m = length-append from (x ∷ xs) in
        absurd (omega (arith, same, n, m))

pub taken_append : (from more : List LoadedObject) (item offset : ℕ) → is_taken (from ++ more) item offset ≡ (is_taken from item offset || is_taken more item offset)
unfolding is_taken
taken_append from more item offset = list_any-append (λ x. x.item == item && x.offset == offset) from more

pub begun_append : (from more : List LoadedObject) (item : ℕ) → is_begun (from ++ more) item ≡ (is_begun from item || is_begun more item)
unfolding is_begun
begun_append from more item = list_any-append (λ x. x.item == item) from more

pub taken_stays : (from to : List LoadedObject) (item offset : ℕ) → Extends from to → is_taken from item offset ≡ true → is_taken to item offset ≡ true
taken_stays from to item offset e taken =
    ap (λ (l : List LoadedObject). is_taken l item offset) e.1 ∙ taken_append from e.0 item offset ∙ or_left _ _ taken

pub begun_stays : (from to : List LoadedObject) (item : ℕ) → Extends from to → is_begun from item ≡ true → is_begun to item ≡ true
begun_stays from to item e begun = ap (λ (l : List LoadedObject). is_begun l item) e.1 ∙ begun_append from e.0 item ∙ or_left _ _ begun

pub taken_now : (from : List LoadedObject) (o : Opened) (offset : ℕ) (bytes : List ℕ) → is_taken (with_object from o offset bytes) o.number offset ≡ true
unfolding is_taken
taken_now from o offset bytes =
    list_any-append (λ x. x.item == o.number && x.offset == offset) from (object_behind from o offset bytes ∷ [])
    ∙ or_right _ _ (or_left _ false (and_from (o.number == o.number) (offset == offset) (eq-eqb o.number o.number refl) (eq-eqb offset offset refl)))

pub begun_now : (from : List LoadedObject) (o : Opened) (offset : ℕ) (bytes : List ℕ) → is_begun (with_object from o offset bytes) o.number ≡ true
unfolding is_begun
begun_now from o offset bytes =
    list_any-append (λ x. x.item == o.number) from (object_behind from o offset bytes ∷ [])
    ∙ or_right _ _ (or_left (o.number == o.number) false (eq-eqb o.number o.number refl))

-- Entries that aren't taken.
no_more : (b c : Bool) → (b ≡ true → c ≡ true) → cond c 0 1 ≤ cond b 0 1
no_more true c grows = let e = grows refl in rw e (omega arith)
no_more false true grows = omega arith
no_more false false grows = omega arith

pub untaken_le :
    (from to : List LoadedObject) (item : ℕ) → ((k : ℕ) → is_taken from item k ≡ true → is_taken to item k ≡ true) → (es : List IndexEntry) →
    untaken to item es ≤ untaken from item es
untaken_le from to item grows [] = omega arith
untaken_le from to item grows (e ∷ es) =
    let head = no_more (is_taken from item e.offset) (is_taken to item e.offset) (grows e.offset) in
    let rest = untaken_le from to item grows es in
    omega (arith, head, rest)

untaken_lt :
    (p : IndexEntry → Bool) (from to : List LoadedObject) (item : ℕ) → ((k : ℕ) → is_taken from item k ≡ true → is_taken to item k ≡ true) →
    ((x : IndexEntry) → p x ≡ true → is_taken from item x.offset ≡ false) → (es : List IndexEntry) (e : IndexEntry) → find p es ≡ Some e →
    is_taken to item e.offset ≡ true → untaken to item es < untaken from item es
untaken_lt p from to item grows free [] e found now = absurd (none-some e found)
untaken_lt p from to item grows free (x ∷ es) e found now =
    by_case (p x) here (λ fails. there (untaken_lt p from to item grows free es e (later fails) now))
  where
    later : p x ≡ false → find p es ≡ Some e
    later fails = sym (ap (λ (b : Bool). cond b (Some x) (find p es)) fails) ∙ found

    here : p x ≡ true → untaken to item (x ∷ es) < untaken from item (x ∷ es)
    here passes =
        let same : x ≡ e = same_Some x e (sym (ap (λ (b : Bool). cond b (Some x) (find p es)) passes) ∙ found) in
        let old = free x passes in
        let new : is_taken to item x.offset ≡ true = ap (λ (y : IndexEntry). is_taken to item y.offset) same ∙ now in
        let rest = untaken_le from to item grows es in
        rw (old, new) (omega (arith, rest))

    there : untaken to item es < untaken from item es → untaken to item (x ∷ es) < untaken from item (x ∷ es)
    there rest =
        let head = no_more (is_taken from item x.offset) (is_taken to item x.offset) (grows x.offset) in
        omega (arith, head, rest)

-- what is next isn't taken
pub next_is_free : (plan : Plan) (from : List LoadedObject) (o : Opened) (e : IndexEntry) → is_next plan from o e ≡ true → is_taken from o.number e.offset ≡ false
next_is_free plan from o e passes =
    not-true (is_taken from o.number e.offset) ((and_parts (needed plan from e.name) (not (is_taken from o.number e.offset)) passes).1)

pub untaken_falls :
    (plan : Plan) (from : List LoadedObject) (o : Opened) (e : IndexEntry) → next plan from o ≡ Some e →
    untaken (with_member from o e) o.number (archive_entries o.bytes) < untaken from o.number (archive_entries o.bytes)
untaken_falls plan from o e is =
    untaken_lt (is_next plan from o) from (with_member from o e) o.number
    (λ k taken. taken_stays from (with_member from o e) o.number k (extends_with from o e.offset _) taken)
    (next_is_free plan from o) (archive_entries o.bytes) e is (taken_now from o e.offset _)

pub untaken_most : (from : List LoadedObject) (item : ℕ) (es : List IndexEntry) → untaken from item es ≤ length es
untaken_most from item [] = omega arith
untaken_most from item (e ∷ es) = let rest = untaken_most from item es in by_case (is_taken from item e.offset) (λ t. rw t (omega (arith, rest))) (λ t. rw t (omega (arith, rest)))

-- none is next where all are taken
pub untaken_none : (p : IndexEntry → Bool) (from : List LoadedObject) (item : ℕ) → ((x : IndexEntry) → p x ≡ true → is_taken from item x.offset ≡ false) →
    (es : List IndexEntry) → untaken from item es ≡ 0 → find p es ≡ None
untaken_none p from item free [] zero_ = refl
untaken_none p from item free (e ∷ es) zero_ =
    by_case (is_taken from item e.offset) (λ t. taken_ t (untaken_none p from item free es (less t))) free_
  where
    less : is_taken from item e.offset ≡ true → untaken from item es ≡ 0
    less t = let n : 0 + untaken from item es ≡ 0 = rw t at zero_ in omega (arith, n)

    taken_ : is_taken from item e.offset ≡ true → find p es ≡ None → find p (e ∷ es) ≡ None
    taken_ t rest =
        by_case (p e) (λ passes. absurd (false≢true (sym (free e passes) ∙ t))) (λ fails. ap (λ (b : Bool). cond b (Some e) (find p es)) fails ∙ rest)

    free_ : is_taken from item e.offset ≡ false → find p (e ∷ es) ≡ None
    free_ t = let more : 1 + untaken from item es ≡ 0 = rw t at zero_ in absurd (omega (arith, more))
