-- The comparison of a section's bytes beside its fields, field by field.
use Rattle.std.proofs.Common.{◌≡◌, ℕ, suc, ◌+◌, ◌-◌, ◌^◌, ◌<◌, ◌≤◌, ◌⊎◌, inl, inr, Bool, List, [], ◌∷◌, ap, sym, subst, ◌∙◌, arith}
use Rattle.std.specs.Prelude.{◌↔◌, All, IsTrue, Some, max, min, slice_index}
use Rattle.std.specs.List.Sorted.{IsNonDecreasingBy}
use Rattle.std.proofs.lemmas.List.Elements.{All-cons, All-head, All-tail, All-weaker}
use Rattle.std.proofs.lemmas.Option.{same_Some}
use Rattle.elf_model.proofs.Rests.{Left}
use Rattle.memory_judge.proofs.Padded.{below_or_not}
use Rattle.loader_model.specs.Memory.{IsRun}
use Rattle.memory_judge.specs.Rests.{AreEqual, HoldsBetween, IsIn, IsRestFrom}
use Rattle.memory_judge.specs.declared.rests.FieldSpan.{FieldSpan}

-- later fields begin where this one does, or behind
later : (s : FieldSpan) (ss : List FieldSpan) → IsNonDecreasingBy (λ t. t.at) (s ∷ ss) → All (λ t. s.at ≤ t.at) ss
later s ss rising k d low = rising 0 (suc k) d (omega arith) (omega (arith, low))

-- the first byte that is to be compared behind a field, where so many bytes are compared up to it
abbrev pub next : FieldSpan → ℕ → ℕ
next s x = max (min (s.at + s.width) (2 ^ 64 - 1)) x

module _ (Q : Type 0) (held bytes : List ℕ) (s : FieldSpan) (ss : List FieldSpan) (x n : ℕ) (fits : n < 2 ^ 64) (rising : IsNonDecreasingBy (λ t. t.at) (s ∷ ss)) (claim : Left Q (IsRestFrom held bytes (s ∷ ss) x n)) where
  pub front_equal : Q → AreEqual held bytes x (max (min s.at n) x)
  front_equal q k from to =
      let low : k < s.at = omega (arith, from, to) in
      claim.0 q k from (omega (arith, from, to))
      (All-cons (λ (t : FieldSpan). ¬ IsIn k t) s ss (λ is. omega (arith, is.0, low))
      (All-weaker (λ (t : FieldSpan). s.at ≤ t.at) (λ t. ¬ IsIn k t) (λ t behind is. omega (arith, is.0, low, behind)) ss (later s ss rising)))

  rest_equal : Q → IsRestFrom held bytes ss (next s x) n
  rest_equal q k from to beside =
      claim.0 q k (omega (arith, from)) to (All-cons (λ (t : FieldSpan). ¬ IsIn k t) s ss (λ is. omega (arith, is.1, from, to, fits)) beside)

  joined : AreEqual held bytes x (max (min s.at n) x) → IsRestFrom held bytes ss (next s x) n → IsRestFrom held bytes (s ∷ ss) x n
  joined front rest k from to beside = by (below_or_not k s.at) (below_or_not k (s.at + s.width))
    where
      by : (k < s.at) ⊎ (s.at ≤ k) → (k < s.at + s.width) ⊎ (s.at + s.width ≤ k) → slice_index held k ≡ slice_index bytes k
      by (inl low) other = front k from (omega (arith, low, to))
      by (inr high) (inl low) = absurd (All-head (λ (t : FieldSpan). ¬ IsIn k t) s ss beside (high, low))
      by (inr high) (inr past) = rest k (omega (arith, past, from, to, fits)) to (All-tail (λ (t : FieldSpan). ¬ IsIn k t) s ss beside)

  pub rest_more : AreEqual held bytes x (max (min s.at n) x) → Left Q (IsRestFrom held bytes ss (next s x) n)
  rest_more front = (rest_equal, λ rest. claim.1 (joined front rest))

pub rest_end :
    (Q : Type 0) (held bytes : List ℕ) (ss : List FieldSpan) (x n : ℕ) → ss ≡ [] → Left Q (IsRestFrom held bytes ss x n) →
    (AreEqual held bytes x (max n x) → Q) × (Q → AreEqual held bytes x (max n x))
rest_end Q held bytes ss x n none claim =
    let c = subst (λ (ts : List FieldSpan). Left Q (IsRestFrom held bytes ts x n)) none claim in (
      λ same. c.1 (λ k from to beside. same k from (omega (arith, to))),
      λ q k from to. c.0 q k from (omega (arith, from, to)) (λ j d low. absurd (omega (arith, low))),
    )

-- memory holds the rest where the run of its bytes has it
pub held_between :
    (image : List ℕ) (at size : ℕ) (bytes : List ℕ) (spans : List FieldSpan) (run : List ℕ) (tail : ℕ) (b : Bool) →
    IsRun image at size run tail → IsTrue b ↔ IsRestFrom run bytes spans 0 size → IsTrue b ↔ HoldsBetween image at size bytes spans
held_between image at size bytes spans run tail b is same = (
  λ e k low beside. is.same k low ∙ ap Some (same.0 e k (omega arith) low beside),
  λ h. same.1 (λ k from low beside. same_Some (slice_index run k) (slice_index bytes k) (sym (is.same k low) ∙ h k low beside)),
)
