-- The neighbours of runs, section by section: the last section that is like each is kept.
use Rattle.std.proofs.Common.{◌≡◌, ℕ, ◌+◌, ◌<◌, ◌≤◌, ◌⊎◌, inl, inr, Bool, true, false, Option, Some, None, List, length, cond, refl, sym, ◌∙◌, ap, subst, arith}
use Rattle.std.specs.Prelude.{◌↔◌, IfSome, not, slice_index_or}
use Rattle.std.specs.Ordering.{is_eq}
use Rattle.std.proofs.lemmas.Bool.{and_from, and_parts, false_from_ne_true, false≢true}
use Rattle.std.proofs.lemmas.Slice.Eq.{bytes_eq-Decides}
use Rattle.elf_model.specs.Link.Pieces.{Piece, is_executable, is_nobits, is_thread_local, is_writable, same_bool}
use Rattle.elf_model.specs.Link.Placement.{Placed}
use Rattle.check_link.specs.OutputSections.{section_order}
use Rattle.check_link.specs.declared.output_sections.OutputSection.{OutputSection}
use Rattle.check_link.proofs.Padded.{below_or_not}
use Rattle.check_link.proofs.SameOutput.{equal_one, one_equal}
use Rattle.judge_model.specs.Runs.{IsNext, is_free, run_name, same_name, same_run}
use Rattle.run_judge.specs.Pairs.{AreLasts, IsAlike, IsBefore, IsLast, IsLastAt, IsRunSection, over_last}

-- Sections of one run.

same_is : (a b : Bool) → same_bool a b ≡ true → a ≡ b
same_is true true e = refl
same_is true false e = absurd (false≢true e)
same_is false true e = absurd (false≢true e)
same_is false false e = refl

same_of : (a b : Bool) → a ≡ b → same_bool a b ≡ true
same_of true true e = refl
same_of true false e = absurd (false≢true (sym e))
same_of false true e = absurd (false≢true e)
same_of false false e = refl

not_is : (b : Bool) → not b ≡ true → b ≡ false
not_is true e = absurd (false≢true e)
not_is false e = refl

not_of : (b : Bool) → b ≡ false → not b ≡ true
not_of b e = ap not e

pub record IsOneRun (p q : Piece) : Type 0 where
  pub counted : is_free p.name ≡ false
  pub alike : IsAlike p q

pub one_run : (p q : Piece) → same_run p q ≡ true → IsOneRun p q
one_run p q e =
    let a = and_parts (same_name p q) _ e in
    let n = and_parts (not (is_free p.name)) _ a.0 in
    let w = and_parts (same_bool (is_writable p.header) (is_writable q.header)) _ a.1 in
    let x = and_parts (same_bool (is_executable p.header) (is_executable q.header)) _ w.1 in
    let t = and_parts (same_bool (is_thread_local p.header) (is_thread_local q.header)) _ x.1 in
    record {
      counted = not_is (is_free p.name) n.0;
      alike = record {
        name = (bytes_eq-Decides (run_name p.name) (run_name q.name)).0 n.1;
        writable = same_is (is_writable p.header) (is_writable q.header) w.0;
        executable = same_is (is_executable p.header) (is_executable q.header) x.0;
        thread_local = same_is (is_thread_local p.header) (is_thread_local q.header) t.0;
        nobits = same_is (is_nobits p.header) (is_nobits q.header) t.1;
      };
    }

pub same_from : (p q : Piece) → is_free p.name ≡ false → IsAlike p q → same_run p q ≡ true
same_from p q counted a =
    and_from _ _
    (and_from _ _ (not_of (is_free p.name) counted) ((bytes_eq-Decides (run_name p.name) (run_name q.name)).1 a.name))
    (and_from _ _ (same_of (is_writable p.header) (is_writable q.header) a.writable)
    (and_from _ _ (same_of (is_executable p.header) (is_executable q.header) a.executable)
    (and_from _ _ (same_of (is_thread_local p.header) (is_thread_local q.header) a.thread_local)
    (same_of (is_nobits p.header) (is_nobits q.header) a.nobits))))

-- two that are like a third
alike_by_third : (p q r : Piece) → IsAlike p r → IsAlike q r → IsAlike p q
alike_by_third p q r a b = record {
  name = a.name ∙ sym b.name;
  writable = a.writable ∙ sym b.writable;
  executable = a.executable ∙ sym b.executable;
  thread_local = a.thread_local ∙ sym b.thread_local;
  nobits = a.nobits ∙ sym b.nobits;
}

-- what alike sections have in common compares as equal, and nothing else does
module _ (p q : Piece) (s t : OutputSection) (of_p : IsRunSection p s) (of_q : IsRunSection q t) where
  alike_equal : IsAlike p q → is_eq (section_order s t) ≡ true
  alike_equal a =
      one_equal s t (record {
        name = of_p.name ∙ (a.name ∙ sym of_q.name);
        writable = of_p.writable ∙ (a.writable ∙ sym of_q.writable);
        executable = of_p.executable ∙ (a.executable ∙ sym of_q.executable);
        thread_local = of_p.thread_local ∙ (a.thread_local ∙ sym of_q.thread_local);
        nobits = of_p.nobits ∙ (a.nobits ∙ sym of_q.nobits);
      })

  equal_alike : is_eq (section_order s t) ≡ true → IsAlike p q
  equal_alike e =
      let same = equal_one s t e in record {
        name = sym of_p.name ∙ (same.name ∙ of_q.name);
        writable = sym of_p.writable ∙ (same.writable ∙ of_q.writable);
        executable = sym of_p.executable ∙ (same.executable ∙ of_q.executable);
        thread_local = sym of_p.thread_local ∙ (same.thread_local ∙ of_q.thread_local);
        nobits = sym of_p.nobits ∙ (same.nobits ∙ of_q.nobits);
      }

-- section j is x
abbrev pub StandsAt : List Placed → ℕ → Placed → Type 0
StandsAt qs j x = (d : Placed) → slice_index_or qs j d ≡ x

-- One that isn't like x leaves the last one, and x is the last that is like it.
module _ (qs : List Placed) (j : ℕ) (x : Placed) (at : StandsAt qs j x) (q : Piece) where
  none_here : (IsAlike x.piece q → ⊥) → (k : ℕ) (d : Placed) → j ≤ k → k < j + 1 → IsAlike (slice_index_or qs k d).piece q → ⊥
  none_here never k d high below a =
      let e : k ≡ j = omega (arith, high, below) in
      never (subst (λ (y : Placed). IsAlike y.piece q) (at d) (subst (λ (n : ℕ). IsAlike (slice_index_or qs n d).piece q) e a))

  other_more : (o : Option ℕ) → (IsAlike x.piece q → ⊥) → IsLast qs j q o → IsLast qs (j + 1) q o
  other_more None never none = λ k d below. by k d below (below_or_not k j)
    where
      by : (k : ℕ) (d : Placed) → k < j + 1 → (k < j) ⊎ (j ≤ k) → IsAlike (slice_index_or qs k d).piece q → ⊥
      by k d below (inl low) = none k d low
      by k d below (inr high) = none_here never k d high below
  other_more (Some i) never last = record {
    before = let b = last.before in omega (arith, b);
    same = last.same;
    between = λ k d low below. by k d low below (below_or_not k j);
  }
    where
      by : (k : ℕ) (d : Placed) → i < k → k < j + 1 → (k < j) ⊎ (j ≤ k) → IsAlike (slice_index_or qs k d).piece q → ⊥
      by k d low below (inl under) = last.between k d low under
      by k d low below (inr high) = none_here never k d high below

  own_more : IsAlike x.piece q → IsLastAt qs (j + 1) q j
  own_more a = record {
    before = omega arith;
    same = λ d. subst (λ (y : Placed). IsAlike y.piece q) (sym (at d)) a;
    between = λ k d low below. absurd (omega (arith, low, below));
  }

pub lasts_more :
    (qs : List Placed) (j : ℕ) (x : Placed) (s : OutputSection) (f g : OutputSection → Option ℕ) → StandsAt qs j x →
    IsRunSection x.piece s → ((t : OutputSection) → g t ≡ over_last s j f t) → AreLasts qs j f → AreLasts qs (j + 1) g
lasts_more qs j x s f g at is more lasts = record {
  last = λ q t of_q.
      subst (IsLast qs (j + 1) q) (sym (more t)) (by q t of_q (is_eq (section_order s t)) refl);
}
  where
    by : (q : Piece) (t : OutputSection) → IsRunSection q t → (b : Bool) → is_eq (section_order s t) ≡ b → IsLast qs (j + 1) q (cond b (Some j) (f t))
    by q t of_q true e = own_more qs j x at q (equal_alike x.piece q s t is of_q e)
    by q t of_q false e =
        other_more qs j x at q (f t) (λ a. false≢true (sym e ∙ alike_equal x.piece q s t is of_q a)) (lasts.last q t of_q)

pub no_lasts : (qs : List Placed) (f : OutputSection → Option ℕ) → ((t : OutputSection) → f t ≡ None) → AreLasts qs 0 f
no_lasts qs f none = record {
  last = λ q t of_q. subst (IsLast qs 0 q) (sym (none t)) (λ k d below. absurd (omega (arith, below)));
}

-- What stands before section j in its run.
module _ (qs : List Placed) (j : ℕ) (x : Placed) (at : StandsAt qs j x) (within : j < length qs) where
  run_at : (i : ℕ) (d : Placed) → same_run (slice_index_or qs i d).piece (slice_index_or qs j d).piece ≡ true → IsOneRun (slice_index_or qs i d).piece x.piece
  run_at i d e = one_run _ _ (subst (λ (y : Placed). same_run (slice_index_or qs i d).piece y.piece ≡ true) (at d) e)

  next_is_last : (i : ℕ) (d : Placed) → IsNext qs i j d → (o : Option ℕ) → IsLast qs j x.piece o → o ≡ Some i
  next_is_last i d next None none = absurd (none i d next.0 (run_at i d next.2).alike)
  next_is_last i d next (Some h) last = by (below_or_not i h) (below_or_not h i)
    where
      one : IsOneRun (slice_index_or qs i d).piece x.piece
      one = run_at i d next.2

      by : (i < h) ⊎ (h ≤ i) → (h < i) ⊎ (i ≤ h) → Some h ≡ Some i
      by (inl low) other =
          absurd
          (false≢true
          (sym (next.3 h low last.before)
          ∙ same_from (slice_index_or qs i d).piece (slice_index_or qs h d).piece one.counted
          (alike_by_third (slice_index_or qs i d).piece (slice_index_or qs h d).piece x.piece one.alike (last.same d))))
      by (inr high) (inl low) = absurd (last.between i d low next.0 one.alike)
      by (inr high) (inr low) = let e : h ≡ i = omega (arith, high, low) in ap (λ (k : ℕ). Some k) e

  last_is_next : (i : ℕ) (d : Placed) → is_free (slice_index_or qs i d).piece.name ≡ false → IsLastAt qs j x.piece i → IsNext qs i j d
  last_is_next i d counted last = (
    last.before,
    within,
    subst (λ (y : Placed). same_run (slice_index_or qs i d).piece y.piece ≡ true) (sym (at d))
        (same_from (slice_index_or qs i d).piece x.piece counted (last.same d)),
    λ k low high. false_from_ne_true _
        (λ t.
        last.between k d low high
        (turned (slice_index_or qs i d).piece (slice_index_or qs k d).piece (one_run _ _ t).alike (last.same d))),
  )
    where
      turned : (p k : Piece) → IsAlike p k → IsAlike p x.piece → IsAlike k x.piece
      turned p k a b = record {
        name = sym a.name ∙ b.name;
        writable = sym a.writable ∙ b.writable;
        executable = sym a.executable ∙ b.executable;
        thread_local = sym a.thread_local ∙ b.thread_local;
        nobits = sym a.nobits ∙ b.nobits;
      }

  pub last_within : (o : Option ℕ) → IsLast qs j x.piece o → IfSome o (λ i. i < length qs)
  last_within None l = tt
  last_within (Some i) l = let b = l.before in omega (arith, b, within)

  -- the last one that is like it, where that isn't one that may stand anywhere
  pub before_is :
      (o r : Option ℕ) → IsLast qs j x.piece o →
      ((i : ℕ) (d : Placed) → (r ≡ Some i) ↔ ((o ≡ Some i) × (is_free (slice_index_or qs i d).piece.name ≡ false))) →
      IsBefore qs j r
  before_is o r last counted = record {
    told = λ i d. (
      λ next. (counted i d).1 (next_is_last i d next o last, (run_at i d next.2).counted),
      λ e.
          let both = (counted i d).0 e in
          last_is_next i d both.1 (subst (IsLast qs j x.piece) both.0 last),
    );
    within = by r refl;
  }
    where
      inside : (i : ℕ) → r ≡ Some i → i < length qs
      inside i e =
          let found = ((counted i x).0 e).0 in
          subst (λ (p : Option ℕ). IfSome p (λ k. k < length qs)) found (last_within o last)

      by : (p : Option ℕ) → r ≡ p → IfSome p (λ i. i < length qs)
      by None e = tt
      by (Some i) e = inside i e
