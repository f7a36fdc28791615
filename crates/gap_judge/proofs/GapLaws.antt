-- The gaps between spans are the stretches of addresses that the spans leave, and all of them.
use Rattle.std.proofs.Common.{◌≡◌, ℕ, zero, suc, ◌+◌, ◌-◌, ◌<◌, ◌≤◌, ◌⊎◌, inl, inr, Bool, true, false, cond, List, [], ◌∷◌, length, get_or, refl, sym, subst, ap, ◌∙◌, arith}
use Rattle.std.specs.Prelude.{◌↔◌, All, AllPairs, Any, Contains, max, min, nat_lt}
use Rattle.std.proofs.lemmas.Bool.{cases_lt, lt-ltb, ltb-false, ltb-true}
use Rattle.std.proofs.lemmas.List.Elements.{All-cons, All-contains, All-head, All-nil, All-tail}
use Rattle.elf_model.proofs.Finding.{Any-here}
use Rattle.elf_model.proofs.Listed.{All-from_contains, Contains-here, Contains-there}
use Rattle.memory_judge.proofs.SpanLaws.{Any-cases, Any-none}
use Rattle.memory_judge.specs.Spans.{IsInSpan, IsSpanBefore, span, with_span}
use Rattle.memory_judge.specs.declared.spans.Span.{Span}
use Rattle.gap_judge.specs.Gaps.{IsGapBetween, gaps}

-- all of spans of which the first is there only where it has anything
with_all : (P : Span → Type 0) (from to : ℕ) (ss : List Span) → (from < to → P (span from to)) → All P ss → All P (with_span from to ss)
with_all P from to ss here rest = by (nat_lt from to) refl
  where
    by : (b : Bool) → nat_lt from to ≡ b → All P (cond b (span from to ∷ ss) ss)
    by true e = All-cons P (span from to) ss (here (ltb-true from to e)) rest
    by false e = rest

with_here : (from to : ℕ) (ss : List Span) → from < to → Contains (with_span from to ss) (span from to)
with_here from to ss low = subst (λ (b : Bool). Contains (cond b (span from to ∷ ss) ss) (span from to)) (sym (lt-ltb from to low)) (Contains-here ss (span from to))

with_there : (from to : ℕ) (ss : List Span) (s : Span) → Contains ss s → Contains (with_span from to ss) s
with_there from to ss s there = by (nat_lt from to)
  where
    by : (b : Bool) → Contains (cond b (span from to ∷ ss) ss) s
    by true = Contains-there (span from to) ss s there
    by false = there

-- spans, from an address on and up to another: what they explain, and that the address comes first or behind what is explained
pub record AreLeft (Explained : ℕ → Type 0) (low top x : ℕ) (ss : List Span) : Type 0 where
  pub at : low ≤ x
  pub first : x ≤ top → (low ≡ x) ⊎ Explained (x - 1)
  pub explain : (a : ℕ) → x ≤ a → a ≤ top → Explained a → Any (IsInSpan a) ss
  pub explained : (a : ℕ) → x ≤ a → a ≤ top → Any (IsInSpan a) ss → Explained a
  pub some : All (λ s. s.from < s.to) ss
  pub rising : AllPairs IsSpanBefore ss

module _ (Explained : ℕ → Type 0) (low top : ℕ) where
  behind : (s : Span) (ss : List Span) → AllPairs IsSpanBefore (s ∷ ss) → All (λ u. s.to < u.from) ss
  behind s ss rising k d within = rising 0 (suc k) d (omega arith) (omega (arith, within))

  never_behind : (a : ℕ) (s : Span) (ss : List Span) → AllPairs IsSpanBefore (s ∷ ss) → a ≤ s.to → Any (IsInSpan a) ss → ⊥
  never_behind a s ss rising early (i, u, below, is, p) =
      let later = subst (λ (t : Span). s.to < t.from) is (behind s ss rising i u below) in let q = p.0 in omega (arith, later, q, early)

  module _ (x : ℕ) (s : Span) (ss : List Span) (left : AreLeft Explained low top x (s ∷ ss)) where
    some_here : s.from < s.to
    some_here = All-head (λ (t : Span). t.from < t.to) s ss left.some

    -- nothing explains an address in front of the next span
    free : (a : ℕ) → x ≤ a → a ≤ top → a < s.from → ¬ Explained a
    free a from within before e = by (Any-cases (IsInSpan a) s ss (left.explain a from within e))
      where
        by : IsInSpan a s ⊎ Any (IsInSpan a) ss → ⊥
        by (inl here) = let h = here.0 in omega (arith, h, before)
        by (inr later) = let n = some_here in never_behind a s ss left.rising (omega (arith, before, n)) later

    here_explained : (a : ℕ) → x ≤ a → a ≤ top → s.from ≤ a → a < s.to → Explained a
    here_explained a high within from to = left.explained a high within (Any-here (IsInSpan a) s ss (from, to))

    next : AreLeft Explained low top (max x s.to) ss
    next = record {
      at = let a = left.at in omega (arith, a);
      first = λ within. by within (cases_lt x s.to);
      explain = λ a high within e. past a high (Any-cases (IsInSpan a) s ss (left.explain a (omega (arith, high)) within e));
      explained = λ a high within p. left.explained a (omega (arith, high)) within (there a p);
      some = All-tail (λ (t : Span). t.from < t.to) s ss left.some;
      rising = λ i j d order within. left.rising (suc i) (suc j) d (omega (arith, order)) (omega (arith, within));
    }
      where
        there : (a : ℕ) → Any (IsInSpan a) ss → Any (IsInSpan a) (s ∷ ss)
        there a (i, u, below, is, p) = (suc i, u, omega (arith, below), is, p)

        past : (a : ℕ) → max x s.to ≤ a → IsInSpan a s ⊎ Any (IsInSpan a) ss → Any (IsInSpan a) ss
        past a high (inl here) = let h = here.1 in absurd (omega (arith, h, high))
        past a high (inr later) = later

        by : max x s.to ≤ top → (x < s.to) ⊎ (s.to ≤ x) → (low ≡ max x s.to) ⊎ Explained (max x s.to - 1)
        by within (inl longer) =
            let e : s.to - 1 ≡ max x s.to - 1 = omega (arith, longer) in
            let n = some_here in
            inr (subst Explained e (here_explained (s.to - 1) (omega (arith, longer)) (omega (arith, within)) (omega (arith, n)) (omega (arith, n))))
        by within (inr behind_it) =
            let e : x ≡ max x s.to = omega (arith, behind_it) in
            subst (λ (y : ℕ). (low ≡ y) ⊎ Explained (y - 1)) e (left.first (omega (arith, within)))

  -- each is a stretch that nothing explains
  pub are_gaps : (x : ℕ) (ss : List Span) → AreLeft Explained low top x ss → All (λ g. IsGapBetween Explained low top g.from g.to) (gaps x top ss)
  are_gaps x [] left =
      with_all (λ (g : Span). IsGapBetween Explained low top g.from g.to) x top []
      (λ some. record {
        some = some;
        inside = (left.at, omega arith);
        gap = λ a from to e. Any-none (IsInSpan a) (left.explain a from (omega (arith, to)) e);
        first = left.first (omega (arith, some));
        last = inl refl;
      })
      (All-nil (λ (g : Span). IsGapBetween Explained low top g.from g.to))
  are_gaps x (s ∷ ss) left =
      with_all (λ (g : Span). IsGapBetween Explained low top g.from g.to) x (min s.from top) (gaps (max x s.to) top ss)
      (λ some. record {
        some = some;
        inside = (left.at, omega arith);
        gap = λ a from to. free x s ss left a from (omega (arith, to)) (omega (arith, to));
        first = left.first (omega (arith, some));
        last = last (cases_lt s.from top) some;
      })
      (are_gaps (max x s.to) ss (next x s ss left))
    where
      last : (s.from < top) ⊎ (top ≤ s.from) → x < min s.from top → (min s.from top ≡ top) ⊎ Explained (min s.from top)
      last (inl before) some =
          let e : s.from ≡ min s.from top = omega (arith, before) in
          inr (subst Explained e (here_explained x s ss left s.from (omega (arith, some)) (omega (arith, before)) (omega arith) (some_here x s ss left)))
      last (inr behind_it) some = inl (omega (arith, behind_it))

  -- and each such stretch is one of them
  pub all_gaps : (x : ℕ) (ss : List Span) (from to : ℕ) → AreLeft Explained low top x ss → x ≤ from → IsGapBetween Explained low top from to → Contains (gaps x top ss) (span from to)
  all_gaps x [] from to left high gap = by (begins gap.first) (ends gap.last)
    where
      begins : (low ≡ from) ⊎ Explained (from - 1) → x ≡ from
      begins (inl e) = let a = left.at in omega (arith, a, e, high)
      begins (inr e) = part (cases_lt x from)
        where
          part : (x < from) ⊎ (from ≤ x) → x ≡ from
          part (inl later) = absurd (Any-none (IsInSpan (from - 1)) (left.explain (from - 1) (omega (arith, later)) (let t = gap.inside.1 in let some = gap.some in omega (arith, t, some)) e))
          part (inr same_place) = omega (arith, same_place, high)

      ends : (to ≡ top) ⊎ Explained to → to ≡ top
      ends (inl e) = e
      ends (inr e) = let some = gap.some in absurd (Any-none (IsInSpan to) (left.explain to (omega (arith, some, high)) gap.inside.1 e))

      by : x ≡ from → to ≡ top → Contains (with_span x top []) (span from to)
      by e f =
          let some = gap.some in
          subst (λ (a : ℕ). Contains (with_span x top []) (span a to)) e
          (subst (λ (b : ℕ). Contains (with_span x top []) (span x b)) (sym f) (with_here x top [] (omega (arith, some, e, f))))
  all_gaps x (s ∷ ss) from to left high gap = part (cases_lt from (max x s.to)) (all_gaps (max x s.to) ss from to (next x s ss left))
    where
      rest : List Span
      rest = gaps (max x s.to) top ss

      in_front : from < s.to → from < s.from
      in_front early = by (cases_lt from s.from)
        where
          by : (from < s.from) ⊎ (s.from ≤ from) → from < s.from
          by (inl before) = before
          by (inr inside) = let some = gap.some in let t = gap.inside.1 in absurd (gap.gap from (omega arith) some (here_explained x s ss left from high (omega (arith, some, t)) inside early))

      begins : from < s.from → (low ≡ from) ⊎ Explained (from - 1) → x ≡ from
      begins before (inl e) = let a = left.at in omega (arith, a, e, high)
      begins before (inr e) = by (cases_lt x from)
        where
          by : (x < from) ⊎ (from ≤ x) → x ≡ from
          by (inl later) = let t = gap.inside.1 in let some = gap.some in absurd (free x s ss left (from - 1) (omega (arith, later)) (omega (arith, t, some)) (omega (arith, before)) e)
          by (inr same_place) = omega (arith, same_place, high)

      short : from < s.from → to ≤ s.from
      short before = by (cases_lt s.from to)
        where
          by : (s.from < to) ⊎ (to ≤ s.from) → to ≤ s.from
          by (inl over) = let t = gap.inside.1 in absurd (gap.gap s.from (omega (arith, before)) over (here_explained x s ss left s.from (omega (arith, before, high)) (omega (arith, t, over)) (omega arith) (some_here x s ss left)))
          by (inr within) = within

      ends : from < s.from → to ≤ s.from → (to ≡ top) ⊎ Explained to → min s.from top ≡ to
      ends before within (inl e) = omega (arith, e, within)
      ends before within (inr e) = by (cases_lt to s.from)
        where
          by : (to < s.from) ⊎ (s.from ≤ to) → min s.from top ≡ to
          by (inl less) = let some = gap.some in absurd (free x s ss left to (omega (arith, some, high)) gap.inside.1 less e)
          by (inr same_place) = let t = gap.inside.1 in omega (arith, same_place, within, t)

      found : from < s.from → Contains (with_span x (min s.from top) (gaps (max x s.to) top ss)) (span from to)
      found before =
          let e = begins before gap.first in
          let f = ends before (short before) gap.last in
          let some = gap.some in
          subst (λ (a : ℕ). Contains (with_span x (min s.from top) (gaps (max x s.to) top ss)) (span a to)) e
          (subst (λ (b : ℕ). Contains (with_span x (min s.from top) (gaps (max x s.to) top ss)) (span x b)) f
          (with_here x (min s.from top) (gaps (max x s.to) top ss) (omega (arith, some, e, f))))

      part :
          (from < max x s.to) ⊎ (max x s.to ≤ from) →
          (max x s.to ≤ from → IsGapBetween Explained low top from to → Contains (gaps (max x s.to) top ss) (span from to)) →
          Contains (with_span x (min s.from top) (gaps (max x s.to) top ss)) (span from to)
      part (inl early) more = found (in_front (omega (arith, early, high)))
      part (inr late) more = with_there x (min s.from top) (gaps (max x s.to) top ss) (span from to) (more late gap)

  -- what is so of all stretches that the spans leave is so of all gaps between them
  pub of_gaps :
      (P : ℕ → ℕ → Type 0) (ss : List Span) → AreLeft Explained low top low ss →
      All (λ g. P g.from g.to) (gaps low top ss) ↔ ((from to : ℕ) → IsGapBetween Explained low top from to → P from to)
  of_gaps P ss left = (
    λ all from to gap. All-contains (λ (g : Span). P g.from g.to) (gaps low top ss) (span from to) all (all_gaps low ss from to left gap.inside.0 gap),
    λ each k d within. each _ _ (are_gaps low ss left k d within),
  )
