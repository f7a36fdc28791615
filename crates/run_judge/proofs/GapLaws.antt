-- The gaps between neighbours, and runs that are right by these.
use Rattle.std.proofs.Common.{◌≡◌, ◌∙◌, ℕ, ◌+◌, ◌<◌, ◌≤◌, ◌⊎◌, inl, inr, Bool, true, false, not, ◌&&◌, List, [], ◌∷◌, ◌++◌, map, refl, sym, ap, subst, arith}
use Rattle.std.specs.Prelude.{◌↔◌, All, Any, Contains, filter, slice_index_or}
use Rattle.std.specs.Str.{bytes_eq}
use Rattle.std.proofs.lemmas.List.Elements.{All-append, All-contains, All-map, All-weaker, Contains-append_cases, Contains-append_left, Contains-append_right}
use Rattle.elf_model.proofs.Finding.{Any-from_contains}
use Rattle.elf_model.proofs.Listed.{All-from_contains, All-parts, All-unmap, Contains-cons_cases, Contains-filter, Contains-from_filter, Contains-here, Contains-nil}
use Rattle.elf_model.specs.Link.Placement.{Covers, IsNear, Placed, thing_of}
use Rattle.elf_model.specs.declared.thing.Thing.{Thing}
use Rattle.check_link.specs.Views.{placed_view}
use Rattle.judge_model.specs.Fill.{IsRunThrough, runs_through}
use Rattle.judge_model.specs.Links.{ForeignLink, placed_of, sections_of}
use Rattle.judge_model.specs.Placed.{AreRuns, is_other, made_things, other_things, things_of}
use Rattle.judge_model.specs.Runs.{AreNeighbours, IsBetween, in_run_order, is_free, run_name}
use Rattle.link_fields.specs.Parts.{AreTaken}
use Rattle.memory_judge.proofs.SpanLaws.{Any-none}
use Rattle.memory_judge.specs.Spans.{AreSpansOf, IsInSpan, far, span}
use Rattle.memory_judge.specs.declared.spans.Span.{Span}
use Rattle.run_judge.specs.Clear.{AreStretches, IsBesideGap, IsBesideIfStrange, IsGapClear, IsInGap, gap_from, gap_to, is_strange}
use Rattle.run_judge.specs.Pairs.{AreRunPairs, IsPair, is_code_pair}
use Rattle.run_judge.specs.declared.pairs.RunPair.{RunPair}
use Rattle.run_judge.specs.declared.stretches.Stretch.{Stretch}
use Rattle.run_judge.proofs.RunSteps.{one_run}

-- the pair of two neighbours, and the neighbours of a pair
module _ (qs : List Placed) (ps : List RunPair) (are : AreRunPairs qs ps) where
  pub neighbours_of : (n : RunPair) → Contains ps n → AreNeighbours qs (placed_view n.first) (placed_view n.second)
  neighbours_of n there =
      (are.told (placed_view n.first) (placed_view n.second)).1
      (Any-from_contains (IsPair (placed_view n.first) (placed_view n.second)) ps n there (record { first = refl; second = refl }))

  -- an address between two neighbours is in the gap of a pair, and the other way round
  gap_some : (a : ℕ) → (p q : Placed) → IsBetween qs p q a → Any (λ n. IsInGap a n × (placed_view n.first ≡ p)) ps
  gap_some a p q b = by ((are.told p q).0 b.neighbours)
    where
      by : Any (IsPair p q) ps → Any (λ n. IsInGap a n × (placed_view n.first ≡ p)) ps
      by (i, n, low, is, pair) =
          Any-from_contains (λ (m : RunPair). IsInGap a m × (placed_view m.first ≡ p)) ps n (i, low, is) (
            record {
              behind = subst (λ (r : Placed). r.at + r.piece.size ≤ a) (sym pair.first) b.behind;
              before = subst (λ (r : Placed). a < r.at) (sym pair.second) b.before;
            },
            pair.first,
          )

  between_of : (a : ℕ) (n : RunPair) → Contains ps n → IsInGap a n → IsBetween qs (placed_view n.first) (placed_view n.second) a
  between_of a n there h = record { neighbours = neighbours_of n there; behind = h.behind; before = h.before }

-- where no slot may be
pub taken_told :
    (l : ForeignLink) (ps : List RunPair) (things taken : List Thing) → AreRunPairs (sections_of l) ps → things_of l ≡ things →
    ((a : ℕ) → Any (λ t. Covers t a) taken ↔ (Any (λ t. Covers t a) things ⊎ Any (IsInGap a) ps)) → AreTaken l taken
taken_told l ps things taken are is told = record {
  taken_is = λ a. (λ some. to a ((told a).0 some), λ some. (told a).1 (from a some));
}
  where
    to : (a : ℕ) → Any (λ t. Covers t a) things ⊎ Any (IsInGap a) ps → Any (λ t. Covers t a) (things_of l) ⊎ ((p : Placed) × (q : Placed) × IsBetween (sections_of l) p q a)
    to a (inl some) = inl (subst (Any (λ (t : Thing). Covers t a)) (sym is) some)
    to a (inr (i, n, low, at, h)) =
        inr (placed_view n.first, placed_view n.second, between_of (sections_of l) ps are a n (i, low, at) h)

    from : (a : ℕ) → Any (λ t. Covers t a) (things_of l) ⊎ ((p : Placed) × (q : Placed) × IsBetween (sections_of l) p q a) → Any (λ t. Covers t a) things ⊎ Any (IsInGap a) ps
    from a (inl some) = inl (subst (Any (λ (t : Thing). Covers t a)) is some)
    from a (inr (p, q, between)) = inr (one (gap_some (sections_of l) ps are a p q between))
      where
        one : Any (λ n. IsInGap a n × (placed_view n.first ≡ p)) ps → Any (IsInGap a) ps
        one (i, n, low, at, h) = Any-from_contains (IsInGap a) ps n (i, low, at) h.0

-- the gaps of runs of code
pub code_gaps_told :
    (l : ForeignLink) (ps code : List RunPair) (gaps : List Thing) (spans : List Span) → AreRunPairs (sections_of l) ps →
    code ≡ filter is_code_pair ps → All (λ n. gap_to n ≤ far) ps → ((a : ℕ) → Any (λ t. Covers t a) gaps ↔ Any (IsInGap a) code) →
    AreSpansOf gaps spans → (a : ℕ) → Any (IsInSpan a) spans ↔ IsRunThrough l a
code_gaps_told l ps code gaps spans are code_is low told own a = (to, from)
  where
    in_code : (n : RunPair) → Contains code n → Contains ps n × (is_code_pair n ≡ true)
    in_code n there = Contains-from_filter is_code_pair ps n (subst (λ (ns : List RunPair). Contains ns n) code_is there)

    to : Any (IsInSpan a) spans → IsRunThrough l a
    to (i, s, within, at, h) =
        let here : Contains spans s = (i, within, at) in
        let short = All-contains (λ (u : Span). u.to ≤ far) spans s own.low here in
        let before = h.1 in
        by ((told a).0 ((own.covers a (omega (arith, short, before))).0 (Any-from_contains (IsInSpan a) spans s here h)))
      where
        by : Any (IsInGap a) code → IsRunThrough l a
        by (k, n, inside, is, g) =
            let both = in_code n (k, inside, is) in
            (placed_view n.first, placed_view n.second, both.1, between_of (sections_of l) ps are a n both.0 g)

    from : IsRunThrough l a → Any (IsInSpan a) spans
    from (p, q, through, between) = by (gap_some (sections_of l) ps are a p q between)
      where
        by : Any (λ n. IsInGap a n × (placed_view n.first ≡ p)) ps → Any (IsInSpan a) spans
        by (k, n, inside, is, g) =
            let here : Contains ps n = (k, inside, is) in
            let top = All-contains (λ (m : RunPair). gap_to m ≤ far) ps n low here in
            let before = g.0.before in
            let executed : is_code_pair n ≡ true = subst (λ (r : Placed). runs_through r.piece ≡ true) (sym g.1) through in
            let there : Contains code n = subst (λ (ns : List RunPair). Contains ns n) (sym code_is) (Contains-filter is_code_pair ps n here executed) in
            (own.covers a (omega (arith, top, before))).1 ((told a).1 (Any-from_contains (IsInGap a) code n there g.0))

-- Runs are right where all pairs are near and their gaps clear.
module _ (l : ForeignLink) (ps : List RunPair) (are : AreRunPairs (sections_of l) ps) where
  pub near_of : AreRuns l → All (λ (n : RunPair). IsNear (placed_view n.first) (placed_view n.second)) ps
  near_of r =
      All-from_contains (λ (n : RunPair). IsNear (placed_view n.first) (placed_view n.second)) ps
      (λ n there. r.near (placed_view n.first) (placed_view n.second) (neighbours_of (sections_of l) ps are n there))

  near_to : All (λ (n : RunPair). IsNear (placed_view n.first) (placed_view n.second)) ps → (p q : Placed) → AreNeighbours (sections_of l) p q → IsNear p q
  near_to all p q b = by ((are.told p q).0 b)
    where
      by : Any (IsPair p q) ps → IsNear p q
      by (i, n, low, is, pair) =
          subst (λ (r : Placed). IsNear r q) pair.first
          (subst (IsNear (placed_view n.first)) pair.second
          (All-contains (λ (m : RunPair). IsNear (placed_view m.first) (placed_view m.second)) ps n all (i, low, is)))

  -- neighbours are of no name that may stand anywhere
  counted : (p q : Placed) → AreNeighbours (sections_of l) p q → is_free p.piece.name ≡ false
  counted p q b =
      subst (λ (r : Placed). is_free r.piece.name ≡ false) b.first
      (one_run (slice_index_or (in_run_order (sections_of l)) b.i p).piece (slice_index_or (in_run_order (sections_of l)) b.j p).piece b.next.2).counted

  other_is : (p : Placed) → is_free p.piece.name ≡ false → (q : Placed) → is_other p.piece q ≡ is_strange (run_name p.piece.name) q.piece
  other_is p free q = ap (λ (b : Bool). not (not b && bytes_eq (run_name p.piece.name) (run_name q.piece.name))) free

  module _ (ss : List Stretch) (placed : List Placed) (made : List Thing) (placed_is : placed_of l ≡ placed) (made_is : made_things l ≡ made) (stretched : AreStretches made placed ss) (low : All (λ (n : RunPair). gap_to n ≤ far) ps) where
    clear_pair : AreRuns l → (n : RunPair) → Contains ps n → IsGapClear ss n
    clear_pair r n there = record {
      clear = λ some.
          (stretched.told (run_name n.first.piece.name.now) (gap_from n) (gap_to n) some (All-contains (λ (m : RunPair). gap_to m ≤ far) ps n low there)).1
          (beside_made, beside_placed);
    }
      where
        p : Placed
        p = placed_view n.first

        free : is_free p.piece.name ≡ false
        free = counted p (placed_view n.second) (neighbours_of (sections_of l) ps are n there)

        none_at : (a : ℕ) → gap_from n ≤ a → a < gap_to n → All (λ t. ¬ Covers t a) (other_things l p.piece)
        none_at a behind before =
            r.clear p (placed_view n.second) a
            (record { neighbours = neighbours_of (sections_of l) ps are n there; behind = behind; before = before })

        beside_made : All (IsBesideGap (gap_from n) (gap_to n)) made
        beside_made =
            subst (All (IsBesideGap (gap_from n) (gap_to n))) made_is
            (All-from_contains (IsBesideGap (gap_from n) (gap_to n)) (made_things l)
            (λ t in_made. record {
              beside = λ a behind before.
                  All-contains (λ (u : Thing). ¬ Covers u a) (made_things l) t
                  (All-parts (λ (u : Thing). ¬ Covers u a) (made_things l) (map thing_of (filter (is_other p.piece) (placed_of l)))
                  (none_at a behind before)).0
                  in_made;
            }))

        beside_placed : All (IsBesideIfStrange (run_name p.piece.name) (gap_from n) (gap_to n)) placed
        beside_placed =
            subst (All (IsBesideIfStrange (run_name p.piece.name) (gap_from n) (gap_to n))) placed_is
            (All-from_contains (IsBesideIfStrange (run_name p.piece.name) (gap_from n) (gap_to n)) (placed_of l)
            (λ q in_placed. record {
              beside = λ strange. record {
                beside = λ a behind before.
                    All-contains (λ (u : Placed). ¬ Covers (thing_of u) a) (filter (is_other p.piece) (placed_of l)) q
                    (All-unmap (λ (u : Thing). ¬ Covers u a) thing_of (filter (is_other p.piece) (placed_of l))
                    (All-parts (λ (u : Thing). ¬ Covers u a) (made_things l) (map thing_of (filter (is_other p.piece) (placed_of l)))
                    (none_at a behind before)).1)
                    (Contains-filter (is_other p.piece) (placed_of l) q in_placed (other_is p free q ∙ strange));
              };
            }))

    clear_to :
        All (IsGapClear ss) ps → (p q : Placed) (a : ℕ) → IsBetween (sections_of l) p q a → All (λ t. ¬ Covers t a) (other_things l p.piece)
    clear_to all p q a between = by ((are.told p q).0 between.neighbours)
      where
        free : is_free p.piece.name ≡ false
        free = counted p q between.neighbours

        by : Any (IsPair p q) ps → All (λ t. ¬ Covers t a) (other_things l p.piece)
        by (i, n, within, is, pair) =
            All-append (λ (t : Thing). ¬ Covers t a) (made_things l) (map thing_of (filter (is_other p.piece) (placed_of l))) in_made
            (All-map (λ (t : Thing). ¬ Covers t a) thing_of (filter (is_other p.piece) (placed_of l)) in_placed)
          where
            there : Contains ps n
            there = (i, within, is)

            behind : gap_from n ≤ a
            behind = subst (λ (r : Placed). r.at + r.piece.size ≤ a) (sym pair.first) between.behind

            before : a < gap_to n
            before = subst (λ (r : Placed). a < r.at) (sym pair.second) between.before

            name : run_name n.first.piece.name.now ≡ run_name p.piece.name
            name = ap (λ (r : Placed). run_name r.piece.name) pair.first

            both : All (IsBesideGap (gap_from n) (gap_to n)) made × All (IsBesideIfStrange (run_name n.first.piece.name.now) (gap_from n) (gap_to n)) placed
            both =
                (stretched.told (run_name n.first.piece.name.now) (gap_from n) (gap_to n) (omega (arith, behind, before))
                (All-contains (λ (m : RunPair). gap_to m ≤ far) ps n low there)).0
                ((All-contains (IsGapClear ss) ps n all there).clear (omega (arith, behind, before)))

            in_made : All (λ t. ¬ Covers t a) (made_things l)
            in_made =
                subst (All (λ (t : Thing). ¬ Covers t a)) (sym made_is)
                (All-weaker (IsBesideGap (gap_from n) (gap_to n)) (λ t. ¬ Covers t a) (λ t b. b.beside a behind before) made both.0)

            in_placed : All (λ u. ¬ Covers (thing_of u) a) (filter (is_other p.piece) (placed_of l))
            in_placed =
                All-from_contains (λ (u : Placed). ¬ Covers (thing_of u) a) (filter (is_other p.piece) (placed_of l))
                (λ u has.
                let found = Contains-from_filter (is_other p.piece) (placed_of l) u has in
                let strange : is_strange (run_name n.first.piece.name.now) u.piece ≡ true =
                ap (λ (m : List ℕ). is_strange m u.piece) name ∙ (sym (other_is p free u) ∙ found.1) in
                let own =
                All-contains (IsBesideIfStrange (run_name n.first.piece.name.now) (gap_from n) (gap_to n)) placed u both.1
                (subst (λ (qs : List Placed). Contains qs u) placed_is found.0) in
                (own.beside strange).beside a behind before)

    pub runs_told :
        All (λ (n : RunPair). IsNear (placed_view n.first) (placed_view n.second)) ps → All (IsGapClear ss) ps ↔ AreRuns l
    runs_told near = (
      λ all. record { near = near_to near; clear = clear_to all },
      λ r. All-from_contains (IsGapClear ss) ps (clear_pair r),
    )

-- the gap of two neighbours as one more thing
pub gap_added :
    (xs ys : List Thing) (t : Thing) (gap : Span) (n : RunPair) (a : ℕ) → ys ≡ xs ++ t ∷ [] → Covers t a ↔ IsInSpan a gap →
    gap ≡ span (gap_from n) (gap_to n) → Any (λ u. Covers u a) ys ↔ (Any (λ u. Covers u a) xs ⊎ IsInGap a n)
gap_added xs ys t gap n a pushed covers is = (to, from)
  where
    there : IsInSpan a gap → IsInGap a n
    there h = record { behind = subst (λ (s : Span). s.from ≤ a) is h.0; before = subst (λ (s : Span). a < s.to) is h.1 }

    back : IsInGap a n → IsInSpan a gap
    back h = (subst (λ (s : Span). s.from ≤ a) (sym is) h.behind, subst (λ (s : Span). a < s.to) (sym is) h.before)

    last : (u : Thing) → Contains (t ∷ []) u → Covers u a → IsInGap a n
    last u c h = by (Contains-cons_cases t [] u c)
      where
        by : (t ≡ u) ⊎ Contains [] u → IsInGap a n
        by (inl e) = there (covers.0 (subst (λ (w : Thing). Covers w a) (sym e) h))
        by (inr none) = absurd (Contains-nil u none)

    to : Any (λ u. Covers u a) ys → Any (λ u. Covers u a) xs ⊎ IsInGap a n
    to (i, u, low, at, h) = by (Contains-append_cases xs (t ∷ []) u (subst (λ (zs : List Thing). Contains zs u) pushed (i, low, at)))
      where
        by : Contains xs u ⊎ Contains (t ∷ []) u → Any (λ u. Covers u a) xs ⊎ IsInGap a n
        by (inl before) = inl (Any-from_contains (λ (w : Thing). Covers w a) xs u before h)
        by (inr here) = inr (last u here h)

    from : Any (λ u. Covers u a) xs ⊎ IsInGap a n → Any (λ u. Covers u a) ys
    from (inl (i, u, low, at, h)) =
        subst (Any (λ (w : Thing). Covers w a)) (sym pushed)
        (Any-from_contains (λ (w : Thing). Covers w a) (xs ++ t ∷ []) u (Contains-append_left xs (t ∷ []) u (i, low, at)) h)
    from (inr h) =
        subst (Any (λ (w : Thing). Covers w a)) (sym pushed)
        (Any-from_contains (λ (w : Thing). Covers w a) (xs ++ t ∷ []) t (Contains-append_right xs (t ∷ []) t (Contains-here [] t)) (covers.1 (back h)))

-- where nothing was before
pub gaps_alone :
    (ys : List Thing) (none : List Thing) (ps : List RunPair) (a : ℕ) → none ≡ [] →
    Any (λ t. Covers t a) ys ↔ (Any (λ t. Covers t a) none ⊎ Any (IsInGap a) ps) → Any (λ t. Covers t a) ys ↔ Any (IsInGap a) ps
gaps_alone ys none ps a empty told = (λ some. by (told.0 some), λ some. told.1 (inr some))
  where
    by : Any (λ t. Covers t a) none ⊎ Any (IsInGap a) ps → Any (IsInGap a) ps
    by (inl never) = absurd (Any-none (λ (t : Thing). Covers t a) (subst (Any (λ (t : Thing). Covers t a)) empty never))
    by (inr some) = some
