-- The comparison of a section's bytes with the wanted ones, field by field.
use Rattle.std.proofs.Common.{◌≡◌, ℕ, ◌+◌, ◌-◌, ◌<◌, ◌≤◌, ◌⊎◌, inl, inr, Bool, true, false, cond, List, [], ◌∷◌, Some, None, length, sym, ap, subst, ◌∙◌, arith}
use Rattle.std.specs.Prelude.{All, AllPairs, find, slice_index}
use Rattle.std.proofs.lemmas.Bool.Decides.{nat_tests}
use Rattle.std.proofs.lemmas.List.{get_or_past}
use Rattle.std.proofs.lemmas.List.Elements.{All-head, All-tail, All-weaker}
use Rattle.byteview.specs.Numbers.{le_bytes}
use Rattle.elf_model.proofs.Finding.{find-none}
use Rattle.elf_model.proofs.Pairs.{AllPairs-head, AllPairs-tail}
use Rattle.check_relocs.specs.Bytes.{EndsBefore, FitsIn, WantedFrom, byte_of, covers}
use Rattle.check_relocs.specs.declared.fields.Field.{Field}
use Rattle.check_link.proofs.Padded.{SamePadded, below_or_not}
use Rattle.elf_model.proofs.Rests.{Left}

below_field : (k : ℕ) (f : Field) → k < f.at → covers k f ≡ false
below_field k f low = grind (arith, nat_tests)

behind_field : (k : ℕ) (f : Field) → f.at + f.width ≤ k → covers k f ≡ false
behind_field k f high = grind (arith, nat_tests)

pub in_field : (k : ℕ) (f : Field) → f.at ≤ k → k < f.at + f.width → covers k f ≡ true
in_field k f low high = grind (arith, nat_tests)

-- no field that begins at or above a number has a byte below it
none_below : (k x : ℕ) (fs : List Field) → All (λ g. x ≤ g.at) fs → k < x → find (covers k) fs ≡ None
none_below k x fs low below =
    find-none (covers k) fs (All-weaker (λ (g : Field). x ≤ g.at) (λ g. covers k g ≡ false) (λ g from. below_field k g (omega (arith, from, below))) fs low)

-- bytes that are the same from one on and below another, and a field that has its value
abbrev pub Same : List ℕ → List ℕ → ℕ → ℕ → Type 0
Same held bytes from to = (k : ℕ) → from ≤ k → k < to → slice_index held k ≡ slice_index bytes k

abbrev pub HasValue : List ℕ → Field → Type 0
HasValue held f = (j : ℕ) → j < f.width → slice_index held (f.at + j) ≡ slice_index (le_bytes f.width f.value) j

-- what is left to compare of a claim
pub record Sweeps (Q : Type 0) (held bytes : List ℕ) (fs : List Field) (x n : ℕ) : Type 0 where
  pub claim : Left Q (WantedFrom held bytes fs x n)
  pub low : All (λ f. x ≤ f.at) fs
  pub fit : x ≤ n
  pub inside : All (FitsIn n) fs
  pub rising : AllPairs EndsBefore fs

module _ (Q : Type 0) (held bytes : List ℕ) (f : Field) (fs : List Field) (x n : ℕ) (s : Sweeps Q held bytes (f ∷ fs) x n) where
  pub at_least : x ≤ f.at
  at_least = All-head (λ (g : Field). x ≤ g.at) f fs s.low

  fits : f.at + f.width ≤ n
  fits = (All-head (FitsIn n) f fs s.inside).inside

  later : All (EndsBefore f) fs
  later = AllPairs-head EndsBefore f fs s.rising

  found : (k : ℕ) (b : Bool) → covers k f ≡ b → find (covers k) (f ∷ fs) ≡ cond b (Some f) (find (covers k) fs)
  found k b e = ap (λ (t : Bool). cond t (Some f) (find (covers k) fs)) e

  before : (k : ℕ) → k < f.at → byte_of bytes k (find (covers k) (f ∷ fs)) ≡ slice_index bytes k
  before k low =
      ap (byte_of bytes k)
      (found k false (below_field k f low) ∙ none_below k (f.at + f.width) fs later (omega (arith, low)))

  within : (k : ℕ) → f.at ≤ k → k < f.at + f.width → byte_of bytes k (find (covers k) (f ∷ fs)) ≡ slice_index (le_bytes f.width f.value) (k - f.at)
  within k low high = ap (byte_of bytes k) (found k true (in_field k f low high))

  behind : (k : ℕ) → f.at + f.width ≤ k → byte_of bytes k (find (covers k) (f ∷ fs)) ≡ byte_of bytes k (find (covers k) fs)
  behind k high = ap (byte_of bytes k) (found k false (behind_field k f high))

  -- the bytes in front of the next field, and the field's own
  pub front_same : Q → Same held bytes x f.at
  front_same q k from to = s.claim.0 q k from (omega (arith, to, fits)) ∙ before k to

  pub field_same : Q → HasValue held f
  field_same q j low =
      let e : (f.at + j) - f.at ≡ j = omega arith in
      s.claim.0 q (f.at + j) (omega (arith, at_least)) (omega (arith, low, fits))
      ∙ (within (f.at + j) (omega arith) (omega (arith, low)) ∙ ap (slice_index (le_bytes f.width f.value)) e)

  rest_same : Q → WantedFrom held bytes fs (f.at + f.width) n
  rest_same q k from to = s.claim.0 q k (omega (arith, from, at_least)) to ∙ behind k from

  joined : Same held bytes x f.at → HasValue held f → WantedFrom held bytes fs (f.at + f.width) n → WantedFrom held bytes (f ∷ fs) x n
  joined front own rest k from to = by (below_or_not k f.at) (below_or_not k (f.at + f.width))
    where
      by : (k < f.at) ⊎ (f.at ≤ k) → (k < f.at + f.width) ⊎ (f.at + f.width ≤ k) → slice_index held k ≡ byte_of bytes k (find (covers k) (f ∷ fs))
      by (inl low) other = front k from low ∙ sym (before k low)
      by (inr high) (inl low) =
          let e : f.at + (k - f.at) ≡ k = omega (arith, high) in
          ap (slice_index held) (sym e) ∙ (own (k - f.at) (omega (arith, high, low)) ∙ sym (within k high low))
      by (inr high) (inr past) = rest k past to ∙ sym (behind k past)

  pub sweep_more : Same held bytes x f.at → HasValue held f → Sweeps Q held bytes fs (f.at + f.width) n
  sweep_more front own = record {
    claim = (λ q. rest_same q, λ rest. s.claim.1 (joined front own rest));
    low = later;
    fit = fits;
    inside = All-tail (FitsIn n) f fs s.inside;
    rising = AllPairs-tail EndsBefore f fs s.rising;
  }

pub sweep_all :
    (held bytes : List ℕ) (fs : List Field) (n : ℕ) → All (FitsIn n) fs → AllPairs EndsBefore fs →
    Sweeps (WantedFrom held bytes fs 0 n) held bytes fs 0 n
sweep_all held bytes fs n inside rising = record {
  claim = (λ h. h, λ h. h);
  low = λ k d low. omega arith;
  fit = omega arith;
  inside = inside;
  rising = rising;
}

pub sweep_end : (Q : Type 0) (held bytes : List ℕ) (fs : List Field) (x n : ℕ) → fs ≡ [] → Sweeps Q held bytes fs x n → (Same held bytes x n → Q) × (Q → Same held bytes x n)
sweep_end Q held bytes fs x n none s =
    let t = subst (λ (gs : List Field). Sweeps Q held bytes gs x n) none s in (
      λ same. t.claim.1 (λ k from to. same k from to),
      λ q. λ k from to. t.claim.0 q k from to,
    )

-- parts of two lists that are the same where the lists are between two places
pub same_parts :
    (a b pa pb : List ℕ) (from to : ℕ) → from ≤ to → length pa ≤ to - from → length pb ≤ to - from →
    ((k : ℕ) → k < to - from → slice_index a (from + k) ≡ slice_index pa k) → ((k : ℕ) → k < to - from → slice_index b (from + k) ≡ slice_index pb k) →
    (SamePadded pa pb → Same a b from to) × (Same a b from to → SamePadded pa pb)
same_parts a b pa pb from to fit la lb sa sb = (
  λ h k low high.
      let e : from + (k - from) ≡ k = omega (arith, low) in
      let below : k - from < to - from = omega (arith, low, high) in
      ap (slice_index a) (sym e) ∙ (sa (k - from) below ∙ (h (k - from) ∙ (sym (sb (k - from) below) ∙ ap (slice_index b) e))),
  λ same k. by same k (below_or_not k (to - from)),
)
  where
    by : Same a b from to → (k : ℕ) → (k < to - from) ⊎ (to - from ≤ k) → slice_index pa k ≡ slice_index pb k
    by same k (inl low) = sym (sa k low) ∙ (same (from + k) (omega arith) (omega (arith, low, fit)) ∙ sb k low)
    by same k (inr past) = get_or_past pa k 0 (omega (arith, past, la)) ∙ sym (get_or_past pb k 0 (omega (arith, past, lb)))

-- a part that is a spelling of its width
pub value_parts :
    (held pa low spelled : List ℕ) (at w : ℕ) → length pa ≤ w → ((k : ℕ) → k < w → slice_index held (at + k) ≡ slice_index pa k) →
    low ≡ spelled → length spelled ≡ w →
    (SamePadded pa low → (j : ℕ) → j < w → slice_index held (at + j) ≡ slice_index spelled j)
    × (((j : ℕ) → j < w → slice_index held (at + j) ≡ slice_index spelled j) → SamePadded pa low)
value_parts held pa low spelled at w la sa e long = (
  λ h j below. sa j below ∙ (h j ∙ ap (λ (xs : List ℕ). slice_index xs j) e),
  λ has k. by has k (below_or_not k w),
)
  where
    by : ((j : ℕ) → j < w → slice_index held (at + j) ≡ slice_index spelled j) → (k : ℕ) → (k < w) ⊎ (w ≤ k) → slice_index pa k ≡ slice_index low k
    by has k (inl below) = sym (sa k below) ∙ (has k below ∙ ap (λ (xs : List ℕ). slice_index xs k) (sym e))
    by has k (inr past) =
        get_or_past pa k 0 (omega (arith, past, la))
        ∙ (sym (get_or_past spelled k 0 (omega (arith, past, long))) ∙ ap (λ (xs : List ℕ). slice_index xs k) (sym e))
