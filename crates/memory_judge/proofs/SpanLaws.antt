-- Spans have the addresses of the things of which they are made, and stand apart.
use Rattle.std.proofs.Common.{◌≡◌, ℕ, suc, ◌+◌, ◌^◌, ◌<◌, ◌≤◌, ◌⊎◌, inl, inr, Bool, true, false, cond, List, [], ◌∷◌, length, get_or, refl, sym, ap, subst, ◌∙◌, arith}
use Rattle.std.specs.Prelude.{◌↔◌, All, AllPairs, Any, Contains, IsPermutation, IsTrue, max, nat_le, nat_lt}
use Rattle.std.specs.List.Sorted.{IsNonDecreasingBy}
use Rattle.std.proofs.lemmas.Bool.{false≢true, leb-false, leb-true, ltb-false, ltb-true}
use Rattle.std.proofs.lemmas.List.{get_or_default}
use Rattle.std.proofs.lemmas.List.Elements.{All-cons, All-head, All-nil, All-tail, All-weaker}
use Rattle.std.proofs.lemmas.List.Kept.{AllPairs-cons}
use Rattle.std.proofs.lemmas.List.Sorted.{Contains-permutation, IsPermutation-sym}
use Rattle.elf_model.proofs.Finding.{Any-from_contains, Any-here, Any-there}
use Rattle.elf_model.proofs.Listed.{Contains-cons_cases, Contains-nil}
use Rattle.elf_model.specs.Link.Placement.{Covers}
use Rattle.elf_model.specs.declared.thing.Thing.{Thing}
use Rattle.memory_judge.proofs.Padded.{below_or_not}
use Rattle.judge_model.specs.Fields.{slot_thing}
use Rattle.memory_judge.specs.Slots.{IsApartFrom, IsClear}
use Rattle.memory_judge.specs.Spans.{AreSpansOf, IsInSpan, IsSpanBefore, end_of, far, merged, span, with_span}
use Rattle.memory_judge.specs.declared.spans.Span.{Span}

pub Any-cases : {X : Type 0} (P : X → Type 0) (x : X) (xs : List X) → Any P (x ∷ xs) → P x ⊎ Any P xs
Any-cases {X} P x xs (i, y, low, is, p) = by (Contains-cons_cases x xs y (i, low, is))
  where
    by : (x ≡ y) ⊎ Contains xs y → P x ⊎ Any P xs
    by (inl here) = inl (subst P (sym here) p)
    by (inr there) = inr (Any-from_contains P xs y there p)

pub Any-none : {X : Type 0} (P : X → Type 0) → Any P [] → ⊥
Any-none P (i, y, low, is, p) = Contains-nil y (i, low, is)

abbrev Has : ℕ → List Span → Type 0
Has a ss = Any (IsInSpan a) ss

abbrev Takes : ℕ → List Thing → Type 0
Takes a ts = Any (λ (t : Thing). Covers t a) ts

abbrev IsOpen : ℕ → ℕ → ℕ → Type 0
IsOpen a from to = (from ≤ a) × (a < to)

-- a span in front
with_here : (a from to : ℕ) (ss : List Span) → IsOpen a from to → Has a (with_span from to ss)
with_here a from to ss open_ = by (nat_lt from to) refl
  where
    by : (b : Bool) → nat_lt from to ≡ b → Any (IsInSpan a) (cond b (span from to ∷ ss) ss)
    by true e = Any-here (IsInSpan a) (span from to) ss open_
    by false e = let no = ltb-false from to e in absurd (omega (arith, no, open_.0, open_.1))

with_there : (a from to : ℕ) (ss : List Span) → Has a ss → Has a (with_span from to ss)
with_there a from to ss has = by (nat_lt from to)
  where
    by : (b : Bool) → Any (IsInSpan a) (cond b (span from to ∷ ss) ss)
    by true = Any-there (IsInSpan a) (span from to) ss has
    by false = has

with_cases : (a from to : ℕ) (ss : List Span) → Has a (with_span from to ss) → IsOpen a from to ⊎ Has a ss
with_cases a from to ss has = by (nat_lt from to) has
  where
    by : (b : Bool) → Any (IsInSpan a) (cond b (span from to ∷ ss) ss) → IsOpen a from to ⊎ Has a ss
    by true h = Any-cases (IsInSpan a) (span from to) ss h
    by false h = inr h

-- things behind the first one
abbrev Rising : List Thing → Type 0
Rising ts = IsNonDecreasingBy (λ (t : Thing). t.at) ts

behind : (t : Thing) (ts : List Thing) → Rising (t ∷ ts) → All (λ u. t.at ≤ u.at) ts
behind t ts rising k d within = rising 0 (suc k) d (omega arith) (omega (arith, within))

rest_rises : (t : Thing) (ts : List Thing) → Rising (t ∷ ts) → Rising ts
rest_rises t ts rising i j d order within = rising (suc i) (suc j) d (omega (arith, order)) (omega (arith, within))

above : (from : ℕ) (t : Thing) (ts : List Thing) → from ≤ t.at → Rising (t ∷ ts) → All (λ u. from ≤ u.at) ts
above from t ts low rising = All-weaker (λ (u : Thing). t.at ≤ u.at) (λ u. from ≤ u.at) (λ u h. omega (arith, low, h)) ts (behind t ts rising)

-- the spans have the addresses of the open one and of the things, and no others
pub has_taken :
    (a from to : ℕ) (ts : List Thing) → a < far → Rising ts → All (λ t. from ≤ t.at) ts → Has a (merged from to ts) → IsOpen a from to ⊎ Takes a ts
has_taken a from to [] low rising all has = by (with_cases a from to [] has)
  where
    by : IsOpen a from to ⊎ Has a [] → IsOpen a from to ⊎ Takes a []
    by (inl here) = inl here
    by (inr none) = absurd (Any-none (IsInSpan a) none)
has_taken a from to (t ∷ ts) low rising all has = by (nat_le t.at to) refl has (has_taken a from (max to (end_of t)) ts low (rest_rises t ts rising) (All-tail (λ (u : Thing). from ≤ u.at) t ts all)) (has_taken a t.at (end_of t) ts low (rest_rises t ts rising) (behind t ts rising))
  where
    lengthened : t.at ≤ to → IsOpen a from (max to (end_of t)) ⊎ Takes a ts → IsOpen a from to ⊎ Takes a (t ∷ ts)
    lengthened near (inr there) = inr (Any-there (λ (u : Thing). Covers u a) t ts there)
    lengthened near (inl here) = part (below_or_not a to)
      where
        part : (a < to) ⊎ (to ≤ a) → IsOpen a from to ⊎ Takes a (t ∷ ts)
        part (inl inside) = inl (here.0, inside)
        part (inr past) = inr (Any-here (λ (u : Thing). Covers u a) t ts (omega (arith, near, past), let h = here.1 in omega (arith, h, past)))

    fresh : IsOpen a t.at (end_of t) ⊎ Takes a ts → IsOpen a from to ⊎ Takes a (t ∷ ts)
    fresh (inl here) = inr (Any-here (λ (u : Thing). Covers u a) t ts (here.0, let h = here.1 in omega (arith, h)))
    fresh (inr there) = inr (Any-there (λ (u : Thing). Covers u a) t ts there)

    next : IsOpen a from to ⊎ Has a (merged t.at (end_of t) ts) → (Has a (merged t.at (end_of t) ts) → IsOpen a t.at (end_of t) ⊎ Takes a ts) → IsOpen a from to ⊎ Takes a (t ∷ ts)
    next (inl here) more = inl here
    next (inr there) more = fresh (more there)

    by :
        (b : Bool) → nat_le t.at to ≡ b → Any (IsInSpan a) (cond b (merged from (max to (end_of t)) ts) (with_span from to (merged t.at (end_of t) ts))) →
        (Has a (merged from (max to (end_of t)) ts) → IsOpen a from (max to (end_of t)) ⊎ Takes a ts) →
        (Has a (merged t.at (end_of t) ts) → IsOpen a t.at (end_of t) ⊎ Takes a ts) → IsOpen a from to ⊎ Takes a (t ∷ ts)
    by true e h more other = lengthened (leb-true t.at to e) (more h)
    by false e h more other = next (with_cases a from to (merged t.at (end_of t) ts) h) other

pub taken_has :
    (a from to : ℕ) (ts : List Thing) → a < far → Rising ts → All (λ t. from ≤ t.at) ts → IsOpen a from to ⊎ Takes a ts → Has a (merged from to ts)
taken_has a from to [] low rising all (inl here) = with_here a from to [] here
taken_has a from to [] low rising all (inr none) = absurd (Any-none (λ (u : Thing). Covers u a) none)
taken_has a from to (t ∷ ts) low rising all some = by (nat_le t.at to) refl (taken_has a from (max to (end_of t)) ts low (rest_rises t ts rising) (All-tail (λ (u : Thing). from ≤ u.at) t ts all)) (taken_has a t.at (end_of t) ts low (rest_rises t ts rising) (behind t ts rising))
  where
    first : from ≤ t.at
    first = All-head (λ (u : Thing). from ≤ u.at) t ts all

    ends : Covers t a → a < end_of t
    ends c = let h = c.1 in omega (arith, h, low)

    longer : IsOpen a from to ⊎ Takes a (t ∷ ts) → IsOpen a from (max to (end_of t)) ⊎ Takes a ts
    longer (inl here) = inl (here.0, let h = here.1 in omega (arith, h))
    longer (inr more) = part (Any-cases (λ (u : Thing). Covers u a) t ts more)
      where
        part : Covers t a ⊎ Takes a ts → IsOpen a from (max to (end_of t)) ⊎ Takes a ts
        part (inl c) = inl (let h = c.0 in omega (arith, h, first), let e = ends c in omega (arith, e))
        part (inr there) = inr there

    closed : IsOpen a from to ⊎ Takes a (t ∷ ts) → (IsOpen a t.at (end_of t) ⊎ Takes a ts → Has a (merged t.at (end_of t) ts)) → Has a (with_span from to (merged t.at (end_of t) ts))
    closed (inl here) more = with_here a from to (merged t.at (end_of t) ts) here
    closed (inr there) more = with_there a from to (merged t.at (end_of t) ts) (more (part (Any-cases (λ (u : Thing). Covers u a) t ts there)))
      where
        part : Covers t a ⊎ Takes a ts → IsOpen a t.at (end_of t) ⊎ Takes a ts
        part (inl c) = inl (c.0, ends c)
        part (inr there) = inr there

    by :
        (b : Bool) → nat_le t.at to ≡ b → (IsOpen a from (max to (end_of t)) ⊎ Takes a ts → Has a (merged from (max to (end_of t)) ts)) →
        (IsOpen a t.at (end_of t) ⊎ Takes a ts → Has a (merged t.at (end_of t) ts)) →
        Any (IsInSpan a) (cond b (merged from (max to (end_of t)) ts) (with_span from to (merged t.at (end_of t) ts)))
    by true e more other = more (longer some)
    by false e more other = closed some other

-- each has something, and they rise apart, from where the open one begins
record IsApart (from : ℕ) (ss : List Span) : Type 0 where
  some : All (λ s. s.from < s.to) ss
  rising : AllPairs IsSpanBefore ss
  from_there : All (λ s. from ≤ s.from) ss

nothing_apart : (from : ℕ) → IsApart from []
nothing_apart from = record {
  some = All-nil (λ (s : Span). s.from < s.to);
  rising = λ i j d order within. absurd (omega (arith, within));
  from_there = All-nil (λ (s : Span). from ≤ s.from);
}

-- a span that ends before the others begin, in front of them
in_front : (from to next : ℕ) (ss : List Span) → from ≤ next → to < next → IsApart next ss → IsApart from (with_span from to ss)
in_front from to next ss low ends apart = by (nat_lt from to) refl
  where
    by : (b : Bool) → nat_lt from to ≡ b → IsApart from (cond b (span from to ∷ ss) ss)
    by true e = record {
      some = All-cons (λ (s : Span). s.from < s.to) (span from to) ss (ltb-true from to e) apart.some;
      rising =
          AllPairs-cons IsSpanBefore (span from to) ss
          (All-weaker (λ (s : Span). next ≤ s.from) (λ s. to < s.from) (λ s h. omega (arith, h, ends)) ss apart.from_there) apart.rising;
      from_there =
          All-cons (λ (s : Span). from ≤ s.from) (span from to) ss (omega arith)
          (All-weaker (λ (s : Span). next ≤ s.from) (λ s. from ≤ s.from) (λ s h. omega (arith, h, low)) ss apart.from_there);
    }
    by false e = record {
      some = apart.some;
      rising = apart.rising;
      from_there = All-weaker (λ (s : Span). next ≤ s.from) (λ s. from ≤ s.from) (λ s h. omega (arith, h, low)) ss apart.from_there;
    }

merged_apart : (from to : ℕ) (ts : List Thing) → Rising ts → All (λ t. from ≤ t.at) ts → IsApart from (merged from to ts)
merged_apart from to [] rising all = in_front from to (max from (to + 1)) [] (omega arith) (omega arith) (nothing_apart (max from (to + 1)))
merged_apart from to (t ∷ ts) rising all =
    by (nat_le t.at to) refl (merged_apart from (max to (end_of t)) ts (rest_rises t ts rising) (All-tail (λ (u : Thing). from ≤ u.at) t ts all))
    (merged_apart t.at (end_of t) ts (rest_rises t ts rising) (behind t ts rising))
  where
    by :
        (b : Bool) → nat_le t.at to ≡ b → IsApart from (merged from (max to (end_of t)) ts) → IsApart t.at (merged t.at (end_of t) ts) →
        IsApart from (cond b (merged from (max to (end_of t)) ts) (with_span from to (merged t.at (end_of t) ts)))
    by true e more other = more
    by false e more other =
        in_front from to t.at (merged t.at (end_of t) ts) (All-head (λ (u : Thing). from ≤ u.at) t ts all) (leb-false t.at to e) other

-- none ends past what is looked at
with_low : (from to : ℕ) (ss : List Span) → to ≤ far → All (λ s. s.to ≤ far) ss → All (λ s. s.to ≤ far) (with_span from to ss)
with_low from to ss low all = by (nat_lt from to)
  where
    by : (b : Bool) → All (λ s. s.to ≤ far) (cond b (span from to ∷ ss) ss)
    by true = All-cons (λ (s : Span). s.to ≤ far) (span from to) ss low all
    by false = all

merged_low : (from to : ℕ) (ts : List Thing) → to ≤ far → All (λ s. s.to ≤ far) (merged from to ts)
merged_low from to [] low = with_low from to [] low (All-nil (λ (s : Span). s.to ≤ far))
merged_low from to (t ∷ ts) low =
    by (nat_le t.at to) (merged_low from (max to (end_of t)) ts (omega (arith, low))) (merged_low t.at (end_of t) ts (omega arith))
  where
    by :
        (b : Bool) → All (λ s. s.to ≤ far) (merged from (max to (end_of t)) ts) → All (λ s. s.to ≤ far) (merged t.at (end_of t) ts) →
        All (λ s. s.to ≤ far) (cond b (merged from (max to (end_of t)) ts) (with_span from to (merged t.at (end_of t) ts)))
    by true more other = more
    by false more other = with_low from to (merged t.at (end_of t) ts) low other

-- the spans of things by rising addresses are those of the things in any order
pub are_spans : (things sorted : List Thing) (spans : List Span) → IsPermutation things sorted → Rising sorted → spans ≡ merged 0 0 sorted → AreSpansOf things spans
are_spans things sorted spans same rising is =
    let apart = subst (IsApart 0) (sym is) (merged_apart 0 0 sorted rising (λ k d within. omega arith)) in
    record {
      covers = λ a low. (
        λ has. taken a (has_taken a 0 0 sorted low rising (λ k d within. omega arith) (subst (Has a) is has)),
        λ some. subst (Has a) (sym is) (taken_has a 0 0 sorted low rising (λ k d within. omega arith) (inr (moved a things sorted same some))),
      );
      some = apart.some;
      rising = apart.rising;
      low = subst (All (λ (s : Span). s.to ≤ far)) (sym is) (merged_low 0 0 sorted (omega arith));
    }
  where
    moved : (a : ℕ) (xs ys : List Thing) → IsPermutation xs ys → Takes a xs → Takes a ys
    moved a xs ys perm (i, t, low, at, c) = Any-from_contains (λ (u : Thing). Covers u a) ys t (Contains-permutation xs ys t perm (i, low, at)) c

    taken : (a : ℕ) → IsOpen a 0 0 ⊎ Takes a sorted → Takes a things
    taken a (inl none) = let h = none.1 in absurd (omega (arith, h))
    taken a (inr some) = moved a sorted things (IsPermutation-sym things sorted same) some

-- their ends rise too
pub rises_by_end : (spans : List Span) → All (λ s. s.from < s.to) spans → AllPairs IsSpanBefore spans → IsNonDecreasingBy (λ s. s.to) spans
rises_by_end spans some rising i j d order within = by (below_or_not i j)
  where
    by : (i < j) ⊎ (j ≤ i) → (get_or spans i d).to ≤ (get_or spans j d).to
    by (inl before) = let r = rising i j d before within in let n = some j d within in omega (arith, r, n)
    by (inr same_place) = let e : i ≡ j = omega (arith, order, same_place) in subst (λ (k : ℕ). (get_or spans i d).to ≤ (get_or spans k d).to) e (omega arith)

-- none of the eight bytes from an address on is in a span, by the first span that ends behind it
module _ (at i : ℕ) (spans : List Span) (some : All (λ s. s.from < s.to) spans) (rising : AllPairs IsSpanBefore spans) (ended : (k : ℕ) (d : Span) → k < i → (get_or spans k d).to ≤ at) where
  pub apart_at :
      (next : Span) (b : Bool) → i < length spans → ((d : Span) → next ≡ get_or spans i d) → at < next.to →
      IsTrue b ↔ (at + 8 ≤ next.from) → IsTrue b ↔ All (IsApartFrom at) spans
  apart_at next b low is not_yet same = (λ e k d within. part (same.0 e) k d within (below_or_not k i), λ all. same.1 (back (all i next low)))
    where
      part : at + 8 ≤ next.from → (k : ℕ) (d : Span) → k < length spans → (k < i) ⊎ (i ≤ k) → IsApartFrom at (get_or spans k d)
      part far_off k d within (inl before) = inl (ended k d before)
      part far_off k d within (inr behind) = inr (at_or_later (below_or_not i k))
        where
          at_or_later : (i < k) ⊎ (k ≤ i) → at + 8 ≤ (get_or spans k d).from
          at_or_later (inl later) =
              let r = subst (λ (s : Span). s.to < (get_or spans k d).from) (sym (is d)) (rising i k d later within) in
              let n = subst (λ (s : Span). s.from < s.to) (sym (is d)) (some i d low) in
              omega (arith, r, n, far_off)
          at_or_later (inr same_place) =
              let e : i ≡ k = omega (arith, behind, same_place) in
              subst (λ (j : ℕ). at + 8 ≤ (get_or spans j d).from) e (subst (λ (s : Span). at + 8 ≤ s.from) (is d) far_off)

      back : IsApartFrom at (get_or spans i next) → at + 8 ≤ next.from
      back apart = by (subst (IsApartFrom at) (sym (is next)) apart)
        where
          by : (next.to ≤ at) ⊎ (at + 8 ≤ next.from) → at + 8 ≤ next.from
          by (inl early) = absurd (omega (arith, early, not_yet))
          by (inr there) = there

-- an address is in a span where it is in the first one that ends behind it
module _ (at i : ℕ) (spans : List Span) (rising : AllPairs IsSpanBefore spans) (ended : (k : ℕ) (d : Span) → k < i → (get_or spans k d).to ≤ at) where
  pub has_at :
      (next : Span) (b : Bool) → i < length spans → ((d : Span) → next ≡ get_or spans i d) → at < next.to →
      IsTrue b ↔ (next.from ≤ at) → IsTrue b ↔ Any (IsInSpan at) spans
  has_at next b low is not_yet same = (λ e. (i, next, low, sym (is next), (same.0 e, not_yet)), λ has. same.1 (begun has))
    where
      begun : Any (IsInSpan at) spans → next.from ≤ at
      begun (k, s, below, there, p) = by (below_or_not k i) (below_or_not i k)
        where
          by : (k < i) ⊎ (i ≤ k) → (i < k) ⊎ (k ≤ i) → next.from ≤ at
          by (inl before) other =
              let e = subst (λ (t : Span). t.to ≤ at) there (ended k s before) in let q = p.1 in absurd (omega (arith, e, q))
          by (inr behind_it) (inl later) =
              let r = subst (λ (t : Span). t.to < (get_or spans k s).from) (sym (is s)) (rising i k s later below) in
              let f = subst (λ (t : Span). next.to < t.from) there r in
              let q = p.0 in
              absurd (omega (arith, f, q, not_yet))
          by (inr behind_it) (inr up_to) =
              let e : k ≡ i = omega (arith, behind_it, up_to) in
              let same_span : s ≡ next = sym there ∙ (ap (λ (j : ℕ). get_or spans j s) e ∙ sym (is s)) in
              subst (λ (t : Span). t.from ≤ at) same_span p.0

pub has_none :
    (at i : ℕ) (spans : List Span) → ((k : ℕ) (d : Span) → k < i → (get_or spans k d).to ≤ at) → length spans ≤ i →
    IsTrue false ↔ Any (IsInSpan at) spans
has_none at i spans ended end = (λ e. absurd (false≢true e), λ has. absurd (never has))
  where
    never : Any (IsInSpan at) spans → ⊥
    never (k, s, below, there, p) =
        let e = subst (λ (t : Span). t.to ≤ at) there (ended k s (omega (arith, below, end))) in let q = p.1 in omega (arith, e, q)

-- things have none of the eight bytes exactly where their spans have none
pub clear_of : (at : ℕ) (things : List Thing) (spans : List Span) → AreSpansOf things spans → at + 8 < 2 ^ 64 → All (IsApartFrom at) spans ↔ All (IsClear at) things
clear_of at things spans are low = (to, from)
  where
    to : All (IsApartFrom at) spans → All (IsClear at) things
    to all k d within = record { apart = λ a here there. taken a here ((are.covers a (let h = here.1 in omega (arith, h, low))).1 (k, get_or things k d, within, get_or_default things k (get_or things k d) d within, there)) }
      where
        taken : (a : ℕ) → Covers (slot_thing at) a → Has a spans → ⊥
        taken a here (i, s, below, is, p) = by (subst (IsApartFrom at) is (all i s below))
          where
            by : IsApartFrom at s → ⊥
            by (inl early) = let h = here.0 in let q = p.1 in omega (arith, early, h, q)
            by (inr late) = let h = here.1 in let q = p.0 in omega (arith, late, h, q)

    from : All (IsClear at) things → All (IsApartFrom at) spans
    from all k d within = by (below_or_not at (get_or spans k d).to) (below_or_not (get_or spans k d).from (at + 8))
      where
        never : (a : ℕ) → Covers (slot_thing at) a → Takes a things → ⊥
        never a here (j, t, below, is, c) = (subst (IsClear at) is (all j t below)).apart a here c

        by : (at < (get_or spans k d).to) ⊎ ((get_or spans k d).to ≤ at) → ((get_or spans k d).from < at + 8) ⊎ (at + 8 ≤ (get_or spans k d).from) → IsApartFrom at (get_or spans k d)
        by (inr early) other = inl early
        by (inl late) (inr behind_it) = inr behind_it
        by (inl late) (inl begun) =
            let a = max at (get_or spans k d).from in
            let some = are.some k d within in
            let has : Has a spans = (k, get_or spans k d, within, get_or_default spans k (get_or spans k d) d within, (omega (arith), omega (arith, late, some))) in
            absurd (never a (omega arith, omega (arith, begun)) ((are.covers a (omega (arith, begun, low))).0 has))
