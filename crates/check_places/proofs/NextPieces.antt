-- The rule on neighbours, piece by piece: the last piece of each output section is kept.
use Rattle.std.proofs.Common.{◌≡◌, ℕ, ◌+◌, ◌-◌, ◌<◌, ◌≤◌, ◌⊎◌, inl, inr, Bool, true, false, cond, Option, Some, None, List, length, refl, sym, ◌∙◌, ap, subst, arith}
use Rattle.std.specs.Option.{option_or}
use Rattle.std.specs.Prelude.{IfSome, slice_index_or}
use Rattle.std.specs.Ordering.{is_eq}
use Rattle.std.proofs.lemmas.Bool.{false_from_ne_true}
use Rattle.elf_model.specs.Link.Pieces.{Piece, same_output}
use Rattle.elf_model.specs.Link.Placement.{IsNear, IsNext, Placed}
use Rattle.check_link.specs.OutputSections.{IsOutputSection, IsSameSection, section_order}
use Rattle.check_link.specs.declared.output_sections.OutputSection.{OutputSection}
use Rattle.check_link.proofs.Padded.{below_or_not}
use Rattle.elf_model.proofs.Rests.{Left}
use Rattle.check_link.proofs.SameOutput.{differ_by_third, equal_one, one_equal, one_orders, same_by_third, sections_tie}
use Rattle.check_places.specs.Neighbours.{last_at, over_last}
use Rattle.check_places.specs.declared.c05_placed.neighbours.Last.{Last}

-- of the first j pieces, number i is the last that is of one output section with q
pub record IsLastAt (ps : List Placed) (j : ℕ) (q : Piece) (i : ℕ) : Type 0 where
  pub before : i < j
  pub same : (d : Placed) → same_output (slice_index_or ps i d).piece q ≡ true
  pub between : (k : ℕ) (d : Placed) → i < k → k < j → same_output (slice_index_or ps k d).piece q ≡ false

abbrev pub IsLast : List Placed → ℕ → Piece → Option ℕ → Type 0
IsLast ps j q None = (k : ℕ) (d : Placed) → k < j → same_output (slice_index_or ps k d).piece q ≡ false
IsLast ps j q (Some i) = IsLastAt ps j q i

-- these are the last ones of the first j pieces for each output section
abbrev pub LastsAre : List Placed → ℕ → (OutputSection → Option ℕ) → Type 0
LastsAre ps j f = (q : Piece) (t : OutputSection) → IsOutputSection q t → IsLast ps j q (f t)

pub no_lasts : (ps : List Placed) (f : OutputSection → Option ℕ) → ((t : OutputSection) → f t ≡ None) → LastsAre ps 0 f
no_lasts ps f none = λ q t of_q. subst (IsLast ps 0 q) (sym (none t)) (λ k d below. absurd (omega (arith, below)))

-- the rule for the pieces from number j on
abbrev pub NearFrom : List Placed → ℕ → Type 0
NearFrom ps j = (i k : ℕ) (d : Placed) → j ≤ k → IsNext ps i k d → IsNear (slice_index_or ps i d) (slice_index_or ps k d)

-- piece j is x
abbrev pub StandsAt : List Placed → ℕ → Placed → Type 0
StandsAt ps j x = (d : Placed) → slice_index_or ps j d ≡ x

-- A piece of another output section leaves the last one of this, and one of this is the last.
module _ (ps : List Placed) (j : ℕ) (x : Placed) (at : StandsAt ps j x) (q : Piece) where
  other_more : (o : Option ℕ) → same_output x.piece q ≡ false → IsLast ps j q o → IsLast ps (j + 1) q o
  other_more None differ none = λ k d below. by k d below (below_or_not k j)
    where
      by : (k : ℕ) (d : Placed) → k < j + 1 → (k < j) ⊎ (j ≤ k) → same_output (slice_index_or ps k d).piece q ≡ false
      by k d below (inl low) = none k d low
      by k d below (inr high) =
          let e : j ≡ k = omega (arith, below, high) in
          subst (λ (n : ℕ). same_output (slice_index_or ps n d).piece q ≡ false) e
          (ap (λ (y : Placed). same_output y.piece q) (at d) ∙ differ)
  other_more (Some i) differ last = record {
    before = let b = last.before in omega (arith, b);
    same = last.same;
    between = λ k d low below. by k d low below (below_or_not k j);
  }
    where
      by : (k : ℕ) (d : Placed) → i < k → k < j + 1 → (k < j) ⊎ (j ≤ k) → same_output (slice_index_or ps k d).piece q ≡ false
      by k d low below (inl under) = last.between k d low under
      by k d low below (inr high) =
          let e : j ≡ k = omega (arith, below, high) in
          subst (λ (n : ℕ). same_output (slice_index_or ps n d).piece q ≡ false) e
          (ap (λ (y : Placed). same_output y.piece q) (at d) ∙ differ)

  own_more : same_output x.piece q ≡ true → IsLastAt ps (j + 1) q j
  own_more same = record {
    before = omega arith;
    same = λ d. ap (λ (y : Placed). same_output y.piece q) (at d) ∙ same;
    between = λ k d low below. absurd (omega (arith, low, below));
  }

  pub last_more : (o : Option ℕ) (b : Bool) → same_output x.piece q ≡ b → IsLast ps j q o → IsLast ps (j + 1) q (cond b (Some j) o)
  last_more o true e last = own_more e
  last_more o false e last = other_more o e last

-- piece j is the last one of its output section
pub lasts_more :
    (ps : List Placed) (j : ℕ) (x : Placed) (s : OutputSection) (f g : OutputSection → Option ℕ) → StandsAt ps j x →
    IsOutputSection x.piece s → ((t : OutputSection) → g t ≡ over_last s j f t) → LastsAre ps j f → LastsAre ps (j + 1) g
lasts_more ps j x s f g at is more lasts = λ q t of_q.
    let tie = sections_tie x.piece q s t is of_q in
    subst (IsLast ps (j + 1) q) (sym (more t))
    (last_more ps j x at q (f t) (is_eq (section_order s t)) (sym tie) (lasts q t of_q))

-- What is known of output sections, once another piece of one is the last: of that one the new piece, of others what was known.
module _ (s : OutputSection) (i : ℕ) where
  pub in_front :
      (f g : OutputSection → Option ℕ) (t : OutputSection) → (is_eq (section_order s t) ≡ false → f t ≡ g t) →
      option_or (cond (is_eq (section_order s t)) (Some i) None) (f t) ≡ over_last s i g t
  in_front f g t others = by (is_eq (section_order s t)) refl
    where
      by : (b : Bool) → is_eq (section_order s t) ≡ b → option_or (cond {A = Option ℕ} b (Some i) None) (f t) ≡ cond b (Some i) (g t)
      by true e = refl
      by false e = others e

  -- the one at hand that it replaces is of no other
  of_no_other : (last : Option Last) (old : ℕ) → Some old ≡ last_at last s → (t : OutputSection) → is_eq (section_order s t) ≡ false → last_at last t ≡ None
  of_no_other None old found t differ = refl
  of_no_other (Some l) old found t differ = by (is_eq (section_order l.section s)) refl found
    where
      by : (b : Bool) → is_eq (section_order l.section s) ≡ b → Some old ≡ cond b (Some l.at) None → last_at (Some l) t ≡ None
      by true same f =
          ap (λ (b : Bool). cond {A = Option ℕ} b (Some l.at) None) (ap is_eq (one_orders l.section s t (equal_one l.section s same)) ∙ differ)
      by false same f = absurd (let n : Some old ≡ None = f in cc)

  pub without :
      (last : Option Last) (old : ℕ) → Some old ≡ last_at last s → (t : OutputSection) → is_eq (section_order s t) ≡ false →
      (below : Option ℕ) → below ≡ option_or (last_at last t) below
  without last old found t differ below = sym (ap (λ (o : Option ℕ). option_or o below) (of_no_other last old found t differ))

-- what one at hand tells of an output section
pub at_same : (o : Option Last) (l : Last) (s : OutputSection) → o ≡ Some l → IsSameSection l.section s → Some l.at ≡ last_at o s
at_same o l s is same =
    sym
    (ap (λ (p : Option Last). last_at p s) is
    ∙ ap (λ (b : Bool). cond {A = Option ℕ} b (Some l.at) None) (one_equal l.section s same))

pub at_other : (o : Option Last) (l : Last) (s : OutputSection) → o ≡ Some l → (IsSameSection l.section s → ⊥) → None ≡ last_at o s
at_other o l s is never =
    sym
    (ap (λ (p : Option Last). last_at p s) is
    ∙ ap (λ (b : Bool). cond {A = Option ℕ} b (Some l.at) None)
    (false_from_ne_true (is_eq (section_order l.section s)) (λ t. never (equal_one l.section s t))))

-- a map with it has what it tells, or what was there
pub settled : (b : Bool) (x : ℕ) (o : Option ℕ) → cond {A = Option ℕ} b (Some x) o ≡ option_or (cond b (Some x) None) o
settled true x o = refl
settled false x o = refl

-- What stands before piece j in its output section, if there is anything.
module _ (ps : List Placed) (j : ℕ) (x : Placed) (at : StandsAt ps j x) (within : j < length ps) where
  same_at : (i : ℕ) (d : Placed) → same_output (slice_index_or ps i d).piece (slice_index_or ps j d).piece ≡ true → same_output (slice_index_or ps i d).piece x.piece ≡ true
  same_at i d e = subst (λ (y : Placed). same_output (slice_index_or ps i d).piece y.piece ≡ true) (at d) e

  -- the last one is the one before piece j
  next_is_last : (i : ℕ) (d : Placed) → IsNext ps i j d → (o : Option ℕ) → IsLast ps j x.piece o → o ≡ Some i
  next_is_last i d next None none = absurd (let n : false ≡ true = sym (none i d next.0) ∙ same_at i d next.2 in cc)
  next_is_last i d next (Some h) last = by (below_or_not i h) (below_or_not h i)
    where
      by : (i < h) ⊎ (h ≤ i) → (h < i) ⊎ (i ≤ h) → Some h ≡ Some i
      by (inl low) other =
          let same =
          same_by_third (slice_index_or ps i d).piece (slice_index_or ps h d).piece x.piece (same_at i d next.2) (last.same d) in
          absurd (let n : false ≡ true = sym (next.3 h low last.before) ∙ same in cc)
      by (inr high) (inl low) = absurd (let n : false ≡ true = sym (last.between i d low next.0) ∙ same_at i d next.2 in cc)
      by (inr high) (inr low) = let e : h ≡ i = omega (arith, high, low) in ap (λ (k : ℕ). Some k) e

  pub last_is_next : (i : ℕ) (d : Placed) → IsLastAt ps j x.piece i → IsNext ps i j d
  last_is_next i d last = (
    last.before,
    within,
    subst (λ (y : Placed). same_output (slice_index_or ps i d).piece y.piece ≡ true) (sym (at d)) (last.same d),
    λ k low high. differ_by_third (slice_index_or ps i d).piece (slice_index_or ps k d).piece x.piece (last.same d) (last.between k d low high),
  )

  -- the rule holds of piece j where the last one is near
  here : (o : Option ℕ) → IsLast ps j x.piece o → IfSome o (λ i. (d : Placed) → IsNear (slice_index_or ps i d) x) →
      (i : ℕ) (d : Placed) → IsNext ps i j d → IsNear (slice_index_or ps i d) (slice_index_or ps j d)
  here o last near i d next =
      let found : IfSome (Some i) (λ k. (e : Placed) → IsNear (slice_index_or ps k e) x) =
      subst (λ (p : Option ℕ). IfSome p (λ k. (e : Placed) → IsNear (slice_index_or ps k e) x)) (next_is_last i d next o last) near in
      subst (IsNear (slice_index_or ps i d)) (sym (at d)) (found d)

  pub near_more :
      (Q : Type 0) (o : Option ℕ) → IsLast ps j x.piece o → IfSome o (λ i. (d : Placed) → IsNear (slice_index_or ps i d) x) →
      Left Q (NearFrom ps j) → Left Q (NearFrom ps (j + 1))
  near_more Q o last near q = (
    λ h i k d low next. q.0 h i k d (omega (arith, low)) next,
    λ r. q.1 (λ i k d low next. by r i k d low next (below_or_not j k)),
  )
    where
      by : NearFrom ps (j + 1) → (i k : ℕ) (d : Placed) → j ≤ k → IsNext ps i k d → (j < k) ⊎ (k ≤ j) → IsNear (slice_index_or ps i d) (slice_index_or ps k d)
      by r i k d low next (inl above) = r i k d (omega (arith, above)) next
      by r i k d low next (inr under) =
          let e : j ≡ k = omega (arith, low, under) in
          subst (λ (n : ℕ). IsNear (slice_index_or ps i d) (slice_index_or ps n d)) e
          (here o last near i d (subst (λ (n : ℕ). IsNext ps i n d) (sym e) next))

  pub near_stop :
      (Q : Type 0) (i : ℕ) (d : Placed) → IsLastAt ps j x.piece i → (IsNear (slice_index_or ps i d) x → ⊥) →
      Left Q (NearFrom ps j) → Q → ⊥
  near_stop Q i d last never q h =
      never (subst (IsNear (slice_index_or ps i d)) (at d) (q.0 h i j d (omega arith) (last_is_next i d last)))
