-- The comparison of a record's bytes beside its section's fields, field by field.
use Rattle.std.proofs.Common.{◌≡◌, ℕ, suc, ◌+◌, ◌-◌, ◌^◌, ◌<◌, ◌≤◌, ◌⊎◌, inl, inr, ap, List, [], ◌∷◌, drop, length, length-drop, length-take, get_or, sym, subst, take, ◌∙◌, arith}
use Rattle.std.specs.Prelude.{◌↔◌, All, max, min, slice_index}
use Rattle.std.specs.List.Sorted.{IsNonDecreasingBy}
use Rattle.std.proofs.lemmas.Bool.{cases_lt}
use Rattle.std.proofs.lemmas.List.{get_or-drop, get_or-take, take-append-drop}
use Rattle.std.proofs.lemmas.List.Elements.{All-append, All-cons, All-drop, All-head, All-take, All-tail, All-weaker}
use Rattle.elf_model.proofs.Rests.{Left}
use Rattle.call_frames.specs.Alike.{IsAlike, IsRestAt}
use Rattle.call_frames.specs.Fields.{IsNarrow}
use Rattle.judge_model.specs.declared.frame_record.FrameRecord.{FrameRecord}
use Rattle.memory_judge.specs.Rests.{AreEqual, IsBeside, IsIn}
use Rattle.memory_judge.specs.declared.rests.FieldSpan.{FieldSpan}

-- later fields begin where this one does, or behind
later : (s : FieldSpan) (ss : List FieldSpan) → IsNonDecreasingBy (λ t. t.at) (s ∷ ss) → All (λ t. s.at ≤ t.at) ss
later s ss rising k d low = rising 0 (suc k) d (omega arith) (omega (arith, low))

-- the first byte that is to be compared behind a field, where so many bytes are compared up to it
abbrev pub next : ℕ → FieldSpan → ℕ → ℕ
next start s x = max (min (s.at + s.width) (2 ^ 64 - 1) - start) x

module _ (Q : Type 0) (held bytes : List ℕ) (s : FieldSpan) (ss : List FieldSpan) (start x n : ℕ) (fits : start + n < 2 ^ 64) (rising : IsNonDecreasingBy (λ t. t.at) (s ∷ ss)) (claim : Left Q (IsRestAt held bytes (s ∷ ss) start x n)) where
  pub front_equal : Q → AreEqual held bytes x (max (min (s.at - start) n) x)
  front_equal q k from to =
      let low : start + k < s.at = omega (arith, from, to) in
      claim.0 q k from (omega (arith, from, to))
      (All-cons (λ (t : FieldSpan). ¬ IsIn (start + k) t) s ss (λ is. omega (arith, is.0, low))
      (All-weaker (λ (t : FieldSpan). s.at ≤ t.at) (λ t. ¬ IsIn (start + k) t) (λ t behind is. omega (arith, is.0, low, behind)) ss (later s ss rising)))

  rest_equal : Q → IsRestAt held bytes ss start (next start s x) n
  rest_equal q k from to beside =
      claim.0 q k (omega (arith, from)) to
      (All-cons (λ (t : FieldSpan). ¬ IsIn (start + k) t) s ss (λ is. omega (arith, is.1, from, to, fits)) beside)

  joined :
      AreEqual held bytes x (max (min (s.at - start) n) x) → IsRestAt held bytes ss start (next start s x) n →
      IsRestAt held bytes (s ∷ ss) start x n
  joined front rest k from to beside = by (cases_lt (start + k) s.at) (cases_lt (start + k) (s.at + s.width))
    where
      by : (start + k < s.at) ⊎ (s.at ≤ start + k) → (start + k < s.at + s.width) ⊎ (s.at + s.width ≤ start + k) → slice_index held k ≡ slice_index bytes k
      by (inl low) other = front k from (omega (arith, low, to))
      by (inr high) (inl low) = absurd (All-head (λ (t : FieldSpan). ¬ IsIn (start + k) t) s ss beside (high, low))
      by (inr high) (inr past) =
          rest k (omega (arith, past, from, to, fits)) to (All-tail (λ (t : FieldSpan). ¬ IsIn (start + k) t) s ss beside)

  pub rest_more : AreEqual held bytes x (max (min (s.at - start) n) x) → Left Q (IsRestAt held bytes ss start (next start s x) n)
  rest_more front = (rest_equal, λ rest. claim.1 (joined front rest))

pub rest_end :
    (Q : Type 0) (held bytes : List ℕ) (ss : List FieldSpan) (start x n : ℕ) → ss ≡ [] → Left Q (IsRestAt held bytes ss start x n) →
    (AreEqual held bytes x (max n x) → Q) × (Q → AreEqual held bytes x (max n x))
rest_end Q held bytes ss start x n none claim =
    let c = subst (λ (ts : List FieldSpan). Left Q (IsRestAt held bytes ts start x n)) none claim in (
      λ same. c.1 (λ k from to beside. same k from (omega (arith, to))),
      λ q k from to. c.0 q k from (omega (arith, from, to)) (λ j d low. absurd (omega (arith, low))),
    )

-- the first elements of a list, and those behind them
pub all_below : {X : Type 0} (P : X → Type 0) (xs : List X) (i : ℕ) → ((k : ℕ) (d : X) → k < i → P (get_or xs k d)) → All P (take i xs)
all_below P xs i each k d low =
    let small : k < i = omega (arith, low, length-take i xs) in
    subst P (sym (get_or-take i xs k d small)) (each k d small)

pub all_behind :
    {X : Type 0} (P : X → Type 0) (xs : List X) (i : ℕ) → ((k : ℕ) (d : X) → i ≤ k → k < length xs → P (get_or xs k d)) → All P (drop i xs)
all_behind P xs i each k d low =
    subst P (sym (get_or-drop i xs k d)) (each (i + k) d (omega arith) (omega (arith, low, length-drop i xs)))

-- fields that begin far below a byte don't have it, nor do those that begin behind it
pub near_beside :
    (spans : List FieldSpan) (i j from to k : ℕ) → All IsNarrow spans → All (λ s. s.at < from - 255) (take i spans) →
    All (λ s. to ≤ s.at) (drop j (drop i spans)) → from ≤ k → k < to → IsBeside (take j (drop i spans)) k ↔ IsBeside spans k
near_beside spans i j from to k narrow early late low high = (
  λ beside.
      subst (λ (ss : List FieldSpan). IsBeside ss k) (take-append-drop i spans)
      (All-append (λ (s : FieldSpan). ¬ IsIn k s) (take i spans) (drop i spans) before
      (subst (λ (ss : List FieldSpan). IsBeside ss k) (take-append-drop j (drop i spans))
      (All-append (λ (s : FieldSpan). ¬ IsIn k s) (take j (drop i spans)) (drop j (drop i spans)) beside behind))),
  λ beside. All-take (λ (s : FieldSpan). ¬ IsIn k s) j (drop i spans) (All-drop (λ (s : FieldSpan). ¬ IsIn k s) i spans beside),
)
  where
    behind : All (λ s. ¬ IsIn k s) (drop j (drop i spans))
    behind = All-weaker (λ (s : FieldSpan). to ≤ s.at) (λ s. ¬ IsIn k s) (λ s h is. omega (arith, is.0, h, high)) (drop j (drop i spans)) late

    before : All (λ s. ¬ IsIn k s) (take i spans)
    before n d within is =
        let small = early n d within in
        let thin = (All-take IsNarrow i spans narrow n d within).narrow in
        omega (arith, is.1, small, thin, low)

-- a record of a section and its copy in a list, by the bytes of both, of which n are common
module _ (section list : List ℕ) (fields near : List FieldSpan) (r t : FrameRecord) (bytes part held zeros : List ℕ) (n : ℕ) (common : n ≡ min r.size t.size) (of_section : (k : ℕ) → k < r.size → slice_index section (r.offset + k) ≡ slice_index bytes k) (of_list : (k : ℕ) → k < t.size → slice_index list (t.offset + k) ≡ slice_index part k) (front : (k : ℕ) → k < n → slice_index held k ≡ slice_index part k) (back : (k : ℕ) → slice_index zeros k ≡ slice_index part (n + k)) (len : length zeros + n ≡ t.size) (same_fields : (k : ℕ) → r.offset ≤ k → k < r.offset + r.size → IsBeside near k ↔ IsBeside fields k) (none : (k : ℕ) → k < length zeros → slice_index zeros k ≡ 0) where
  pub alike_from : IsRestAt held bytes near r.offset 8 n → IsAlike section list fields r t
  alike_from rest = record {
    same = λ k low high inside beside.
        let within : k < n = omega (arith, high, inside, common) in
        of_list k inside ∙ (sym (front k within)
        ∙ (rest k low within ((same_fields (r.offset + k) (omega arith) (omega (arith, high))).1 beside) ∙ sym (of_section k high)));
    zeros = λ k low high.
        let whole : n ≡ r.size = omega (arith, low, high, common) in
        let j = k - n in
        let e : k ≡ n + j = omega (arith, low, whole) in
        of_list k high ∙ (ap (slice_index part) e ∙ (sym (back j) ∙ none j (omega (arith, low, high, len, whole))));
  }

  pub alike_to : IsAlike section list fields r t → IsRestAt held bytes near r.offset 8 n
  alike_to alike k low within beside =
      let high : k < r.size = omega (arith, within, common) in
      let inside : k < t.size = omega (arith, within, common) in
      front k within ∙ (sym (of_list k inside)
      ∙ (alike.same k low high inside ((same_fields (r.offset + k) (omega arith) (omega (arith, high))).0 beside) ∙ of_section k high))
