-- Stretches of addresses: which gaps they miss, and of which names.
use Rattle.std.proofs.Common.{◌≡◌, ◌∙◌, ℕ, ◌+◌, ◌<◌, ◌≤◌, ◌⊎◌, inl, inr, Bool, true, false, not, List, [], ◌∷◌, ◌++◌, length, get_or, drop, max, refl, sym, subst, arith}
use Rattle.std.specs.Prelude.{◌↔◌, All, IsPermutation}
use Rattle.std.proofs.lemmas.Bool.{false≢true}
use Rattle.std.proofs.lemmas.List.{drop_all}
use Rattle.std.proofs.lemmas.List.Elements.{All-cons, All-head, All-nil, All-push, All-tail}
use Rattle.std.proofs.lemmas.List.Sorted.{All-permutation, IsPermutation-sym}
use Rattle.elf_model.proofs.Listed.{All-parts}
use Rattle.elf_model.proofs.Rests.{rest_at}
use Rattle.elf_model.specs.declared.thing.Thing.{Thing}
use Rattle.memory_judge.proofs.Padded.{below_or_not}
use Rattle.memory_judge.specs.Spans.{end_of, far}
use Rattle.run_judge.specs.Clear.{IsBesideGap, Misses, is_named}
use Rattle.run_judge.specs.declared.stretches.Stretch.{Stretch}

-- a thing that covers nothing, and one that covers something
pub ends_nowhere : (t : Thing) (from to end : ℕ) → t.size ≡ 0 → end ≡ 0 → (t.at < to → end ≤ from) ↔ IsBesideGap from to t
ends_nowhere t from to end none zero_ = (
  λ h. record { beside = λ a low high c. let d = c.1 in let e = c.0 in omega (arith, none, d, e) },
  λ b before. omega (arith, zero_),
)

pub ends_there :
    (t : Thing) (from to end : ℕ) → from < to → to ≤ far → (t.size ≡ 0 → ⊥) → end ≡ end_of t → (t.at < to → end ≤ from) ↔ IsBesideGap from to t
ends_there t from to end some low size is = (
  λ h. record {
    beside = λ a behind before c.
        let inside = c.1 in
        let there = c.0 in
        let e = h (omega (arith, there, before)) in
        omega (arith, e, is, behind, before, low, inside);
  },
  λ b before. by (below_or_not from end) b before,
)
  where
    by : (from < end) ⊎ (end ≤ from) → IsBesideGap from to t → t.at < to → end ≤ from
    by (inr e) b before = e
    by (inl past) b before =
        absurd
        (b.beside (max t.at from) (omega arith) (omega (arith, some, before))
        (omega arith, omega (arith, past, is, nonzero t.size size)))
      where
        nonzero : (n : ℕ) → (n ≡ 0 → ⊥) → 0 < n
        nonzero n never = omega (arith, never)

-- a stretch misses a gap where it is of the name, or ends in front
pub misses_made : (s : Stretch) (name : List ℕ) (from to : ℕ) (B : Type 0) → is_named s.name name ≡ false → (s.from < to → s.to ≤ from) ↔ B → Misses name from to s ↔ B
misses_made s name from to B unnamed told = (
  λ m. told.0 (λ before. (m.misses before).end unnamed),
  λ b. record { misses = λ before. record { end = λ e. told.1 b before } },
)

pub misses_named :
    (s : Stretch) (name : List ℕ) (from to : ℕ) (B : Type 0) (b : Bool) → is_named s.name name ≡ b → (s.from < to → s.to ≤ from) ↔ B →
    Misses name from to s ↔ (not b ≡ true → B)
misses_named s name from to B true named told = (
  λ m e. absurd (false≢true e),
  λ h. record { misses = λ before. record { end = λ e. absurd (false≢true (sym e ∙ named)) } },
)
misses_named s name from to B false named told = (
  λ m e. told.0 (λ before. (m.misses before).end named),
  λ h. record { misses = λ before. record { end = λ e. told.1 (h refl) before } },
)

-- A claim on stretches so far and on what is left of a list: one more, and all.
module _ {X Y : Type 0} (P : Y → Type 0) (R : X → Type 0) (xs : List X) where
  pub noted_more :
      (ys : List Y) (y : Y) (Q : Type 0) (i : ℕ) (d : X) → i < length xs → P y ↔ R (get_or xs i d) → (All P ys × All R (drop i xs)) ↔ Q →
      (All P (ys ++ y ∷ []) × All R (drop (i + 1) xs)) ↔ Q
  noted_more ys y Q i d within same rest = (
    λ h.
        let parts = All-parts P ys (y ∷ []) h.0 in
        rest.0 (
          parts.0,
          subst (All R) (sym (rest_at xs i d within)) (All-cons R (get_or xs i d) (drop (i + 1) xs) (same.0 (All-head P y [] parts.1)) h.1),
        ),
    λ q.
        let r = rest.1 q in
        let all = subst (All R) (rest_at xs i d within) r.1 in
        (All-push P ys y r.0 (same.1 (All-head R (get_or xs i d) (drop (i + 1) xs) all)), All-tail R (get_or xs i d) (drop (i + 1) xs) all),
  )

  pub noted_all : (ys : List Y) (Q : Type 0) (i : ℕ) → length xs ≤ i → (All P ys × All R (drop i xs)) ↔ Q → All P ys ↔ Q
  noted_all ys Q i behind rest =
      (λ s. rest.0 (s, subst (All R) (sym (drop_all i xs behind)) (All-nil R)), λ q. (rest.1 q).0)

-- stretches of two kinds, in any order
pub stretched :
    {X Y Z : Type 0} (P : X → Type 0) (Q : Y → Type 0) (R : Z → Type 0) (none mid all sorted : List X) (ys : List Y) (zs : List Z) → none ≡ [] →
    IsPermutation all sorted → All P mid ↔ (All P none × All Q ys) → All P all ↔ (All P mid × All R zs) → All P sorted ↔ (All Q ys × All R zs)
stretched P Q R none mid all sorted ys zs empty same first second = (
  λ h.
      let both = second.0 (All-permutation P sorted all (IsPermutation-sym all sorted same) h) in
      ((first.0 both.0).1, both.1),
  λ h. All-permutation P all sorted same (second.1 (first.1 (subst (All P) (sym empty) (All-nil P), h.0), h.1)),
)
