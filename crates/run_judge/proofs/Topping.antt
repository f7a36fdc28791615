-- The greatest ends of stretches, stretch by stretch, and what they tell of a gap.
use Rattle.std.proofs.Common.{◌≡◌, ◌∙◌, ℕ, ◌+◌, ◌<◌, ◌≤◌, ◌⊎◌, inl, inr, Bool, true, false, cond, List, [], ◌∷◌, ◌++◌, length, get_or, take, max, refl, sym, ap, subst, arith}
use Rattle.std.specs.Prelude.{◌↔◌, All, None, slice_index_or}
use Rattle.std.proofs.lemmas.Bool.{false≢true}
use Rattle.std.proofs.lemmas.List.{get_or-take, get_or_append_left, get_or_push, length-take, length_push, take_more}
use Rattle.std.proofs.lemmas.List.Elements.{All-head, All-nil, All-push}
use Rattle.elf_model.proofs.Listed.{All-parts}
use Rattle.memory_judge.proofs.Padded.{below_or_not}
use Rattle.run_judge.specs.Clear.{AreAllTops, AreTops, EndsBy, Misses, beside, is_named}
use Rattle.run_judge.specs.declared.clear.Tops.{Tops}
use Rattle.run_judge.specs.declared.stretches.Stretch.{Stretch}

-- One more stretch: of the same name; of another one, and with the greatest end; of another one, and not so.
module _ (t : Tops) (s : Stretch) (name : List ℕ) (v : ℕ) where
  abbrev Step : ℕ → Type 0
  Step n = (n ≤ v) ↔ ((beside t name ≤ v) × EndsBy name v s)

  ends : (is_named s.name name ≡ false → s.to ≤ v) → EndsBy name v s
  ends h = record { end = h }

  pub same_told : (m : ℕ) → m ≡ max t.end s.to → is_named t.name name ≡ is_named s.name name → Step (cond (is_named t.name name) t.other_end m)
  same_told m is alike = by (is_named t.name name) refl
    where
      by : (b : Bool) → is_named t.name name ≡ b → (cond b t.other_end m ≤ v) ↔ ((cond b t.other_end t.end ≤ v) × EndsBy name v s)
      by true e = (λ h. (h, ends (λ f. absurd (false≢true (sym f ∙ (sym alike ∙ e))))), λ h. h.0)
      by false e = (
        λ h. (omega (arith, h, is), ends (λ f. omega (arith, h, is))),
        λ h. let low = h.1.end (sym alike ∙ e) in let first = h.0 in omega (arith, low, first, is),
      )

  pub above_told :
      t.other_end ≤ t.end → t.end < s.to → (is_named t.name name ≡ true → is_named s.name name ≡ false) → Step (cond (is_named s.name name) t.end s.to)
  above_told low above other = by (is_named t.name name) (is_named s.name name) refl refl
    where
      by :
          (b c : Bool) → is_named t.name name ≡ b → is_named s.name name ≡ c →
          (cond c t.end s.to ≤ v) ↔ ((cond b t.other_end t.end ≤ v) × EndsBy name v s)
      by true true e f = absurd (false≢true (sym (other e) ∙ f))
      by false true e f = (λ h. (h, ends (λ g. absurd (false≢true (sym g ∙ f)))), λ h. h.0)
      by true false e f = (λ h. (omega (arith, h, low, above), ends (λ g. h)), λ h. h.1.end f)
      by false false e f = (λ h. (omega (arith, h, above), ends (λ g. h)), λ h. h.1.end f)

  pub below_told :
      (m : ℕ) → m ≡ max t.other_end s.to → s.to ≤ t.end → (is_named t.name name ≡ true → is_named s.name name ≡ false) →
      Step (cond (is_named t.name name) m t.end)
  below_told m is below other = by (is_named t.name name) refl
    where
      by : (b : Bool) → is_named t.name name ≡ b → (cond b m t.end ≤ v) ↔ ((cond b t.other_end t.end ≤ v) × EndsBy name v s)
      by true e = (
        λ h. (omega (arith, h, is), ends (λ f. omega (arith, h, is))),
        λ h. let low = h.1.end (other e) in let first = h.0 in omega (arith, low, first, is),
      )
      by false e = (λ h. (h, ends (λ f. omega (arith, h, below))), λ h. h.0)

-- None, and one more.
pub no_tops : (t : Tops) → t.name ≡ None → t.end ≡ 0 → t.other_end ≡ 0 → AreTops [] t
no_tops t none zero_ other = record {
  low = omega (arith, other);
  told = λ name v. (λ h. All-nil (EndsBy name v), λ all. subst (λ (n : ℕ). n ≤ v) (sym (ends name)) (omega arith));
}
  where
    ends : (name : List ℕ) → beside t name ≡ 0
    ends name = ap (λ (o : _). cond (is_named o name) t.other_end t.end) none ∙ zero_

pub tops_more :
    (ss : List Stretch) (i : ℕ) (d : Stretch) (t u : Tops) → i < length ss → u.other_end ≤ u.end →
    ((name : List ℕ) (v : ℕ) → (beside u name ≤ v) ↔ ((beside t name ≤ v) × EndsBy name v (get_or ss i d))) →
    AreTops (take i ss) t → AreTops (take (i + 1) ss) u
tops_more ss i d t u within low step are = record {
  low = low;
  told = λ name v.
      let P = EndsBy name v in
      let more = take_more ss i d within in (
        λ h.
            let both = (step name v).0 h in
            subst (All P) (sym more) (All-push P (take i ss) (get_or ss i d) ((are.told name v).0 both.0) both.1),
        λ all.
            let parts = All-parts P (take i ss) (get_or ss i d ∷ []) (subst (All P) more all) in
            (step name v).1 ((are.told name v).1 parts.0, All-head P (get_or ss i d) [] parts.1),
      );
}

-- of all so far
pub record AreTopsTo (ss : List Stretch) (i : ℕ) (ts : List Tops) (t : Tops) : Type 0 where
  pub long : length ts ≡ i + 1
  pub here : AreTops (take i ss) t
  pub each : (k : ℕ) (d : Tops) → k ≤ i → AreTops (take k ss) (get_or ts k d)

pub first_tops : (ss : List Stretch) (ts xs : List Tops) (t : Tops) → xs ≡ [] → ts ≡ xs ++ t ∷ [] → AreTops [] t → AreTopsTo ss 0 ts t
first_tops ss ts xs t none pushed are = record {
  long = ap length own;
  here = are;
  each = λ k d low.
      let e : 0 ≡ k = omega (arith, low) in
      subst (λ (n : ℕ). AreTops (take n ss) (get_or ts n d)) e
      (subst (AreTops []) (sym (ap (λ (us : List Tops). get_or us 0 d) own)) are);
}
  where
    own : ts ≡ t ∷ []
    own = pushed ∙ ap (λ (us : List Tops). us ++ t ∷ []) none

pub next_tops_to :
    (ss : List Stretch) (i : ℕ) (ts us : List Tops) (t u : Tops) → us ≡ ts ++ u ∷ [] → AreTops (take (i + 1) ss) u → AreTopsTo ss i ts t →
    AreTopsTo ss (i + 1) us u
next_tops_to ss i ts us t u pushed new are = record {
  long = ap length pushed ∙ (length_push ts u ∙ (let n = are.long in omega (arith, n)));
  here = new;
  each = λ k d low. subst (λ (ws : List Tops). AreTops (take k ss) (get_or ws k d)) (sym pushed) (by k d low (below_or_not k (i + 1)));
}
  where
    by : (k : ℕ) (d : Tops) → k ≤ i + 1 → (k < i + 1) ⊎ (i + 1 ≤ k) → AreTops (take k ss) (get_or (ts ++ u ∷ []) k d)
    by k d low (inl under) =
        let n = are.long in
        subst (AreTops (take k ss)) (sym (get_or_append_left ts (u ∷ []) d k (omega (arith, n, under)))) (are.each k d (omega (arith, under)))
    by k d low (inr last) =
        let n = are.long in
        let e : i + 1 ≡ k = omega (arith, low, last) in
        subst (λ (m : ℕ). AreTops (take m ss) (get_or (ts ++ u ∷ []) m d)) e
        (subst (AreTops (take (i + 1) ss)) (sym (get_or_push ts u d (i + 1) n)) new)

pub tops_of_all : (ss : List Stretch) (i : ℕ) (ts : List Tops) (t : Tops) → length ss ≤ i → i ≤ length ss → AreTopsTo ss i ts t → AreAllTops ss ts
tops_of_all ss i ts t past within are = record {
  long = let n = are.long in omega (arith, n, past, within);
  each = λ k d low. are.each k d (omega (arith, low, past));
}

-- What begins in front of a gap's end is a beginning of the list, so that the ends of these tell whether the gap is missed.
pub gap_told :
    (ss : List Stretch) (k : ℕ) (name : List ℕ) (from to n : ℕ) → k ≤ length ss →
    ((i : ℕ) (d : Stretch) → i < k → (slice_index_or ss i d).from < to) →
    ((i : ℕ) (d : Stretch) → k ≤ i → i < length ss → to ≤ (slice_index_or ss i d).from) →
    (n ≤ from) ↔ All (EndsBy name from) (take k ss) → (n ≤ from) ↔ All (Misses name from to) ss
gap_told ss k name from to n low before behind told = (
  λ h i d within. record { misses = λ begins. at i d within begins (told.0 h) (below_or_not i k) },
  λ all.
      told.1
      (λ i d within.
      let short = length-take k ss in
      let under : i < k = omega (arith, short, within) in
      subst (EndsBy name from) (sym (get_or-take k ss i d under))
      ((all i d (omega (arith, low, under))).misses (before i d under))),
)
  where
    at :
        (i : ℕ) (d : Stretch) → i < length ss → (get_or ss i d).from < to → All (EndsBy name from) (take k ss) → (i < k) ⊎ (k ≤ i) →
        EndsBy name from (get_or ss i d)
    at i d within begins ends_by (inl under) =
        let short = length-take k ss in
        subst (EndsBy name from) (get_or-take k ss i d under) (ends_by i d (omega (arith, short, low, under)))
    at i d within begins ends_by (inr past) = let b = behind i d past within in absurd (omega (arith, b, begins))
