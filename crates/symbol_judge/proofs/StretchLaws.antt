-- How far stretches reach that begin by an address, and whether one of them has a stretch.
use Rattle.std.proofs.Common.{◌≡◌, ◌∙◌, ℕ, zero, suc, ◌+◌, ◌-◌, ◌<◌, ◌≤◌, ◌⊎◌, inl, inr, ◌==◌, Bool, true, false, cond, List, [], ◌∷◌, length, get_or, drop, refl, sym, ap, subst, arith}
use Rattle.std.specs.Prelude.{◌↔◌, All, Any, Contains, IsPermutation, filter, map, max}
use Rattle.std.proofs.lemmas.Bool.{cases_lt, eq-eqb, eqb-true}
use Rattle.std.proofs.Math.Nat.{le-max_left, le-max_right, max-le}
use Rattle.std.proofs.lemmas.List.{get_or_default}
use Rattle.std.proofs.lemmas.List.Elements.{All-contains_itself, All-map, All-weaker}
use Rattle.std.proofs.lemmas.List.Sorted.{Contains-permutation, IsPermutation-sym, length_permutation}
use Rattle.elf_model.proofs.Finding.{Any-from_contains}
use Rattle.elf_model.proofs.Listed.{All-unmap, Contains-filter, Contains-from_filter, Contains-from_map, Contains-map}
use Rattle.elf_model.proofs.Rests.{rest_at}
use Rattle.elf_model.specs.declared.records.SectionHeader.{SectionHeader}
use Rattle.elf_model.specs.Link.Pieces.{load_size}
use Rattle.elf_model.specs.Link.Placement.{Placed}
use Rattle.check_link.specs.Views.{placed_view, placed_views}
use Rattle.check_link.specs.declared.things.Placed as held
use Rattle.judge_model.specs.Links.{ForeignLink, placed_of}
use Rattle.judge_model.specs.Tables.{AreCovered, LiesInSection, image_sections, is_in_memory}
use Rattle.symbol_judge.specs.Stretches.{AreCoveredBy, Has, IsCovered, no_stretch, reach_among, reached, stretch_of, stretches_of}
use Rattle.symbol_judge.specs.declared.stretches.Stretch.{Stretch}
use Rattle.symbol_judge.proofs.TableLaws.{positive}

-- The stretches of sections, one section more.
abbrev pub listed_stretch : Bool → SectionHeader → List Stretch → List Stretch
listed_stretch b h ss = cond b (stretch_of h ∷ ss) ss

pub stretches_at :
    (hs : List SectionHeader) (i : ℕ) (d : SectionHeader) (b : Bool) → i < length hs → is_in_memory (get_or hs i d) ≡ b →
    stretches_of (drop i hs) ≡ listed_stretch b (get_or hs i d) (stretches_of (drop (i + 1) hs))
stretches_at hs i d b within is =
    ap stretches_of (rest_at hs i d within)
    ∙ ap (λ (t : Bool). map stretch_of (cond t (get_or hs i d ∷ filter is_in_memory (drop (i + 1) hs)) (filter is_in_memory (drop (i + 1) hs)))) is
    ∙ by b
  where
    by : (t : Bool) →
        map stretch_of (cond t (get_or hs i d ∷ filter is_in_memory (drop (i + 1) hs)) (filter is_in_memory (drop (i + 1) hs)))
        ≡ listed_stretch t (get_or hs i d) (stretches_of (drop (i + 1) hs))
    by true = refl
    by false = refl

-- Reached stretches begin where the stretches do.
pub length_reached : (far : ℕ) (ss : List Stretch) → length (reached far ss) ≡ length ss
length_reached far [] = refl
length_reached far (s ∷ ss) = ap (λ (n : ℕ). suc n) (length_reached (max far s.to) ss)

-- what is at or below the greater of two numbers is at or below one of them
split_max : (a b end : ℕ) → end ≤ max a b → (end ≤ a) ⊎ (end ≤ b)
split_max a b end h = by (cases_lt a end) (cases_lt b end)
  where
    by : (a < end) ⊎ (end ≤ a) → (b < end) ⊎ (end ≤ b) → (end ≤ a) ⊎ (end ≤ b)
    by (inr p) other = inl p
    by (inl p) (inr q) = inr q
    by (inl p) (inl q) =
        let m = max-le {a = a} {b = b} {k = end - 1} (omega (arith, p)) (omega (arith, q)) in
        absurd (omega (arith, m, h, p))

-- one of the stretches up to a number reaches an end
record Reaches (ss : List Stretch) (k end : ℕ) : Type 0 where
  at : ℕ
  low : at ≤ k
  far : end ≤ (get_or ss at no_stretch).to

earlier : (s : Stretch) (ss : List Stretch) (k end : ℕ) → Reaches ss k end → Reaches (s ∷ ss) (suc k) end
earlier s ss k end r = record { at = suc r.at; low = (let l = r.low in omega (arith, l)); far = r.far }

far_to :
    (far end : ℕ) (ss : List Stretch) (k : ℕ) → k < length ss → end ≤ (get_or (reached far ss) k no_stretch).to →
    (end ≤ far) ⊎ Reaches ss k end
far_to far end [] k within h = absurd (omega (arith, within))
far_to far end (s ∷ ss) zero within h = by (split_max far s.to end h)
  where
    by : (end ≤ far) ⊎ (end ≤ s.to) → (end ≤ far) ⊎ Reaches (s ∷ ss) zero end
    by (inl a) = inl a
    by (inr b) = inr (record { at = zero; low = omega arith; far = b })
far_to far end (s ∷ ss) (suc k) within h = by (far_to (max far s.to) end ss k (omega (arith, within)) h)
  where
    here : (end ≤ far) ⊎ (end ≤ s.to) → (end ≤ far) ⊎ Reaches (s ∷ ss) (suc k) end
    here (inl a) = inl a
    here (inr b) = inr (record { at = zero; low = omega arith; far = b })

    by : (end ≤ max far s.to) ⊎ Reaches ss k end → (end ≤ far) ⊎ Reaches (s ∷ ss) (suc k) end
    by (inl a) = here (split_max far s.to end a)
    by (inr r) = inr (earlier s ss k end r)

above : (far end : ℕ) (ss : List Stretch) (k : ℕ) → k < length ss → end ≤ far → end ≤ (get_or (reached far ss) k no_stretch).to
above far end [] k within h = absurd (omega (arith, within))
above far end (s ∷ ss) zero within h = let m = le-max_left far s.to in omega (arith, m, h)
above far end (s ∷ ss) (suc k) within h =
    let m = le-max_left far s.to in
    above (max far s.to) end ss k (omega (arith, within)) (omega (arith, m, h))

far_of :
    (far end : ℕ) (ss : List Stretch) (k at : ℕ) → k < length ss → at ≤ k → end ≤ (get_or ss at no_stretch).to →
    end ≤ (get_or (reached far ss) k no_stretch).to
far_of far end [] k at within low h = absurd (omega (arith, within))
far_of far end (s ∷ ss) zero zero within low h = let m = le-max_right far s.to in omega (arith, m, h)
far_of far end (s ∷ ss) zero (suc at) within low h = absurd (omega (arith, low))
far_of far end (s ∷ ss) (suc k) zero within low h =
    let m = le-max_right far s.to in
    above (max far s.to) end ss k (omega (arith, within)) (omega (arith, m, h))
far_of far end (s ∷ ss) (suc k) (suc at) within low h =
    far_of (max far s.to) end ss k at (omega (arith, within)) (omega (arith, low)) h

-- Stretches by rising beginnings, of which the first ones begin at or below an address.
module _ (ss : List Stretch) (at end count : ℕ) (some : 0 < end) (begun : (k : ℕ) (d : Stretch) → k < count → (get_or ss k d).from ≤ at) (behind : (k : ℕ) (d : Stretch) → count ≤ k → k < length ss → at < (get_or ss k d).from) (within : count ≤ length ss) where
  found : (k : ℕ) → suc k ≡ count → end ≤ (get_or (reached 0 ss) k no_stretch).to → Any (Has at end) ss
  found k is h = by (far_to 0 end ss k (omega (arith, is, within)) h)
    where
      by : (end ≤ 0) ⊎ Reaches ss k end → Any (Has at end) ss
      by (inl none) = absurd (omega (arith, none, some))
      by (inr r) =
          let low = r.low in
          let there : r.at < length ss = omega (arith, low, is, within) in
          Any-from_contains (Has at end) ss (get_or ss r.at no_stretch) (All-contains_itself ss r.at no_stretch there)
          (record { from = begun r.at no_stretch (omega (arith, low, is)); to = r.far })

  lost : Any (Has at end) ss → (j : ℕ) × (j < count) × (end ≤ (get_or ss j no_stretch).to)
  lost (j, x, low, is, h) = by (cases_lt j count)
    where
      by : (j < count) ⊎ (count ≤ j) → (i : ℕ) × (i < count) × (end ≤ (get_or ss i no_stretch).to)
      by (inl before) = (j, before, subst (λ (s : Stretch). end ≤ s.to) (sym is ∙ get_or_default ss j x no_stretch low) h.to)
      by (inr past) =
          let far = behind j x past low in
          let near = subst (λ (s : Stretch). s.from ≤ at) (sym is) h.from in
          absurd (omega (arith, far, near))

  reach_is : (k : ℕ) → suc k ≡ count → reach_among (reached 0 ss) count ≡ (get_or (reached 0 ss) k no_stretch).to
  reach_is k is = by (count == 0) refl
    where
      by : (b : Bool) → (count == 0) ≡ b → cond b 0 (get_or (reached 0 ss) (count - 1) no_stretch).to ≡ (get_or (reached 0 ss) k no_stretch).to
      by true e = let none = eqb-true count 0 e in absurd (omega (arith, none, is))
      by false e = let last : count - 1 ≡ k = omega (arith, is) in ap (λ (i : ℕ). (get_or (reached 0 ss) i no_stretch).to) last

  none_reached : count ≡ 0 → reach_among (reached 0 ss) count ≡ 0
  none_reached none = ap (λ (b : Bool). cond b 0 (get_or (reached 0 ss) (count - 1) no_stretch).to) (eq-eqb count 0 none)

  pub has_iff : (rs : List Stretch) → rs ≡ reached 0 ss → (end ≤ reach_among rs count) ↔ Any (Has at end) ss
  has_iff rs are = subst (λ (qs : List Stretch). (end ≤ reach_among qs count) ↔ Any (Has at end) ss) (sym are) (by count refl)
    where
      by : (n : ℕ) → n ≡ count → (end ≤ reach_among (reached 0 ss) count) ↔ Any (Has at end) ss
      by zero is = (
        λ h. let none = none_reached (sym is) in absurd (omega (arith, h, none, some)),
        λ a. let l = lost a in let low = l.1 in absurd (omega (arith, low, is)),
      )
      by (suc k) is = (
        λ h. found k is (subst (λ (n : ℕ). end ≤ n) (reach_is k is) h),
        λ a.
            let l = lost a in
            let low = l.1 in
            subst (λ (n : ℕ). end ≤ n) (sym (reach_is k is))
            (far_of 0 end ss k l.0 (omega (arith, is, within)) (omega (arith, low, is)) l.2),
      )

-- In another order.
pub any_permuted : {X : Type 0} (P : X → Type 0) (xs ys : List X) → IsPermutation xs ys → Any P xs → Any P ys
any_permuted P xs ys same (i, x, low, is, p) = Any-from_contains P ys x (Contains-permutation xs ys x same (i, low, is)) p

-- Sections that take up memory have stretches.
pub some_stretch : (hs : List SectionHeader) → Any (λ h. is_in_memory h ≡ true) hs → 0 < length (stretches_of hs)
some_stretch hs (i, h, low, is, p) =
    let c : Contains (stretches_of hs) (stretch_of h) = Contains-map stretch_of (filter is_in_memory hs) h (Contains-filter is_in_memory hs h (i, low, is) p) in
    let w = c.1 in
    omega (arith, w)

pub some_section : (hs : List SectionHeader) → 0 < length (stretches_of hs) → Any (λ h. is_in_memory h ≡ true) hs
some_section hs some =
    let c = All-contains_itself (stretches_of hs) 0 no_stretch some in
    let m = Contains-from_map stretch_of (filter is_in_memory hs) (get_or (stretches_of hs) 0 no_stretch) c in
    let f = Contains-from_filter is_in_memory hs m.of m.there in
    Any-from_contains (λ h. is_in_memory h ≡ true) hs m.of f.0 f.1

module _ (hs : List SectionHeader) (q : Placed) where
  pub lies_of : Any (Has q.at (q.at + load_size q.piece)) (stretches_of hs) → Any (LiesInSection q) hs
  lies_of (i, s, low, is, h) =
      let m = Contains-from_map stretch_of (filter is_in_memory hs) s (i, low, is) in
      let f = Contains-from_filter is_in_memory hs m.of m.there in
      let g = subst (Has q.at (q.at + load_size q.piece)) (sym m.is) h in
      Any-from_contains (LiesInSection q) hs m.of f.0 (f.1, g.from, g.to)

  pub lies_in : Any (LiesInSection q) hs → Any (Has q.at (q.at + load_size q.piece)) (stretches_of hs)
  lies_in (i, h, low, is, (memory, from, to)) =
      Any-from_contains (Has q.at (q.at + load_size q.piece)) (stretches_of hs) (stretch_of h)
      (Contains-map stretch_of (filter is_in_memory hs) h (Contains-filter is_in_memory hs h (i, low, is) memory))
      (record { from = from; to = to })

-- Pieces are covered by stretches, in any order, exactly where each lies in a section.
pub covered_iff :
    (l : ForeignLink) (hs : List SectionHeader) (qs : List Placed) → image_sections l.image ≡ hs → placed_of l ≡ qs →
    AreCoveredBy (stretches_of hs) qs ↔ AreCovered l
covered_iff l hs qs sections placed =
    subst (λ (gs : List SectionHeader). AreCoveredBy (stretches_of gs) qs ↔ AreCovered l) sections
    (subst (λ (ps : List Placed). AreCoveredBy (stretches_of (image_sections l.image)) ps ↔ AreCovered l) placed own)
  where
    own : AreCoveredBy (stretches_of (image_sections l.image)) (placed_of l) ↔ AreCovered l
    own = (
      λ a some.
          All-weaker (IsCovered (stretches_of (image_sections l.image)))
          (λ q. 0 < load_size q.piece → Any (LiesInSection q) (image_sections l.image))
          (λ q c has. lies_of (image_sections l.image) q (c.covered has)) (placed_of l)
          (a.covered (some_stretch (image_sections l.image) some)),
      λ a. record {
        covered = λ some.
            All-weaker (λ q. 0 < load_size q.piece → Any (LiesInSection q) (image_sections l.image))
            (IsCovered (stretches_of (image_sections l.image)))
            (λ q c. record { covered = λ has. lies_in (image_sections l.image) q (c has) }) (placed_of l)
            (a (some_section (image_sections l.image) some));
      },
    )

-- Placed pieces, as the code has them, and stretches in another order.
module _ (xs ys : List Stretch) (qs : List held.Placed) (same : IsPermutation xs ys) where
  pub covered_of : All (λ q. IsCovered ys (placed_view q)) qs → AreCoveredBy xs (placed_views qs)
  covered_of all = record {
    covered = λ some.
        All-map (IsCovered xs) placed_view qs
        (All-weaker (λ q. IsCovered ys (placed_view q)) (λ q. IsCovered xs (placed_view q))
        (λ q c. record {
          covered = λ has.
              any_permuted (Has q.at (q.at + load_size (placed_view q).piece)) ys xs (IsPermutation-sym xs ys same) (c.covered has);
        }) qs all);
  }

  pub covered_in : (length ys ≡ 0 → ⊥) → AreCoveredBy xs (placed_views qs) → All (λ q. IsCovered ys (placed_view q)) qs
  covered_in some a =
      let n = length_permutation xs ys same in
      All-weaker (λ q. IsCovered xs (placed_view q)) (λ q. IsCovered ys (placed_view q))
      (λ q c. record { covered = λ has. any_permuted (Has q.at (q.at + load_size (placed_view q).piece)) xs ys same (c.covered has) }) qs
      (All-unmap (IsCovered xs) placed_view qs (a.covered (positive (length xs) (λ none. some (n ∙ none)))))

  pub covered_none : length ys ≡ 0 → AreCoveredBy xs (placed_views qs)
  covered_none none = let n = length_permutation xs ys same in record { covered = λ some. absurd (omega (arith, n, none, some)) }
