-- Stretches of fill.
use Rattle.std.proofs.Common.{◌≡◌, ℕ, ◌+◌, ◌-◌, ◌<◌, ◌≤◌, ◌⊎◌, inl, inr, Bool, List, ◌∷◌, length, get_or, take, drop, sym, ◌∙◌, ap, subst, arith, length-take, length-drop}
use Rattle.std.specs.Prelude.{All, IsTrue, min, max, slice_index}
use Rattle.std.proofs.lemmas.List.{drop_all, get_or-drop, get_or-take}
use Rattle.std.proofs.lemmas.List.Elements.{All-cons, All-head, All-nil, All-tail}
use Rattle.std.specs.List.Sorted.{IsNonDecreasingBy}
use Rattle.elf_model.specs.Link.Placement.{Covers}
use Rattle.elf_model.specs.declared.thing.Thing.{Thing}
use Rattle.check_places.specs.Sweeps.{FilledFrom, GapIs}
use Rattle.check_link.proofs.Padded.{below_or_not}
use Rattle.elf_model.proofs.Rests.{Left}
use Rattle.check_places.proofs.Sweep.{front, rises}

abbrev pub IsFill : List ℕ → ℕ → ℕ → ℕ → Type 0
IsFill bytes low high fill = (k : ℕ) → low ≤ k → k < high → k < length bytes → slice_index bytes k ≡ fill

abbrev pub AllAre : List ℕ → ℕ → Type 0
AllAre xs fill = (k : ℕ) → k < length xs → slice_index xs k ≡ fill

module _ (bytes front part : List ℕ) (low high end fill : ℕ) (end_is : end ≡ min high (length bytes)) (inside : low < end) (front_is : front ≡ take end bytes) (part_is : part ≡ drop low front) where
  part_byte : (k : ℕ) → low + k < end → slice_index part k ≡ slice_index bytes (low + k)
  part_byte k below =
      ap (λ (xs : List ℕ). get_or xs k 0) part_is
      ∙ (get_or-drop low front k 0
      ∙ (ap (λ (xs : List ℕ). get_or xs (low + k) 0) front_is ∙ get_or-take end bytes (low + k) 0 below))

  part_length : length part ≡ end - low
  part_length =
      let d = length-drop low front in
      let t = length-take end bytes in
      ap length part_is ∙ (d ∙ (ap (λ (xs : List ℕ). length xs - low) front_is ∙ omega (arith, t, end_is)))

  pub fill_of_part : (b : Bool) → (IsTrue b → AllAre part fill) × (AllAre part fill → IsTrue b) →
      (IsTrue b → IsFill bytes low high fill) × (IsFill bytes low high fill → IsTrue b)
  fill_of_part b all = (
    λ e k from to within.
        let s : low + (k - low) ≡ k = omega (arith, from) in
        let below : low + (k - low) < end = omega (arith, from, to, within, end_is) in
        subst (λ (j : ℕ). slice_index bytes j ≡ fill) s
        (sym (part_byte (k - low) below) ∙ all.0 e (k - low) (omega (arith, part_length, from, to, within, end_is))),
    λ f. all.1
        (λ k within.
        let below : low + k < end = omega (arith, part_length, within, inside) in
        part_byte k below ∙ f (low + k) (omega arith) (omega (arith, below, end_is)) (omega (arith, below, end_is))),
  )

-- a gap has its fill in the bytes that are there
pub fill_in_gap :
    (bytes : List ℕ) (start top fill from to end low high : ℕ) → start ≤ from → end ≡ min to top → from < end →
    low ≡ from - start → high ≡ end - start → GapIs bytes start top fill from to → IsFill bytes low high fill
fill_in_gap bytes start top fill from to end low high above end_is some low_is high_is gap k lo hi within =
    let e : (start + k) - start ≡ k = omega arith in
    subst (λ (j : ℕ). slice_index bytes j ≡ fill) e
    (gap (start + k) (omega (arith, above, low_is, lo)) (omega (arith, end_is, high_is, hi, some, above)) (omega (arith, end_is, high_is, hi, some, above)))

-- One step of the sweep: the gap in front of a thing, then what is behind it.
abbrev Out : ℕ → List Thing → Type 0
Out a ts = All (λ t. Covers t a → ⊥) ts

pub fill_step :
    (bytes : List ℕ) (start top fill from : ℕ) (t : Thing) (ts : List Thing) → All (λ u. t.at ≤ u.at) ts →
    GapIs bytes start top fill from t.at →
    (FilledFrom bytes start top fill from (t ∷ ts) → FilledFrom bytes start top fill (max from (t.at + t.size)) ts)
    × (FilledFrom bytes start top fill (max from (t.at + t.size)) ts → FilledFrom bytes start top fill from (t ∷ ts))
fill_step bytes start top fill from t ts order gap = (
  λ filled a low high out.
      filled a (omega (arith, low)) high (All-cons (λ (u : Thing). Covers u a → ⊥) t ts (λ c. omega (arith, c, low)) out),
  λ rest a low high out. by rest a low high out (below_or_not a t.at),
)
  where
    behind : FilledFrom bytes start top fill (max from (t.at + t.size)) ts → (a : ℕ) → from ≤ a → a < top → Out a (t ∷ ts) → t.at ≤ a →
        slice_index bytes (a - start) ≡ fill
    behind rest a low high out at =
        let never = All-head (λ (u : Thing). Covers u a → ⊥) t ts out in
        let past : t.at + t.size ≤ a = end_below a at never in
        rest a (omega (arith, low, past)) high (All-tail (λ (u : Thing). Covers u a → ⊥) t ts out)
      where
        end_below : (a : ℕ) → t.at ≤ a → (Covers t a → ⊥) → t.at + t.size ≤ a
        end_below a at never = go (below_or_not a (t.at + t.size))
          where
            go : (a < t.at + t.size) ⊎ (t.at + t.size ≤ a) → t.at + t.size ≤ a
            go (inl inside) = absurd (never (at, inside))
            go (inr past) = past

    by : FilledFrom bytes start top fill (max from (t.at + t.size)) ts → (a : ℕ) → from ≤ a → a < top → Out a (t ∷ ts) →
        (a < t.at) ⊎ (t.at ≤ a) → slice_index bytes (a - start) ≡ fill
    by rest a low high out (inl front) = gap a low front high
    by rest a low high out (inr at) = behind rest a low high out at

-- what is filled in front of things in order is the gap in front of the first
pub gap_of_filled :
    (bytes : List ℕ) (start top fill from : ℕ) (t : Thing) (ts : List Thing) → All (λ u. t.at ≤ u.at) ts →
    FilledFrom bytes start top fill from (t ∷ ts) → GapIs bytes start top fill from t.at
gap_of_filled bytes start top fill from t ts order filled a low front high =
    filled a low high
    (All-cons (λ (u : Thing). Covers u a → ⊥) t ts (λ c. omega (arith, c, front))
    (λ k d within c. let o = order k d within in omega (arith, c, front, o)))

-- The steps at a place of the list.
module _ (Q : Type 0) (bytes : List ℕ) (start top fill : ℕ) (things : List Thing) (rising : IsNonDecreasingBy (λ (t : Thing). t.at) things) where
  pub filled_more :
      (from i : ℕ) (d : Thing) → i < length things → GapIs bytes start top fill from (get_or things i d).at →
      Left Q (FilledFrom bytes start top fill from (drop i things)) →
      Left Q (FilledFrom bytes start top fill (max from ((get_or things i d).at + (get_or things i d).size)) (drop (i + 1) things))
  filled_more from i d within gap q =
      let s = fill_step bytes start top fill from (get_or things i d) (drop (i + 1) things) (rises things i d rising) gap in
      let r = subst (λ (ts : List Thing). Left Q (FilledFrom bytes start top fill from ts)) (front things i d within) q in
      (λ h. s.0 (r.0 h), λ f. r.1 (s.1 f))

  pub filled_stop :
      (from i : ℕ) (d : Thing) → i < length things → (GapIs bytes start top fill from (get_or things i d).at → ⊥) →
      Left Q (FilledFrom bytes start top fill from (drop i things)) → Q → ⊥
  filled_stop from i d within never q h =
      let r = subst (λ (ts : List Thing). Left Q (FilledFrom bytes start top fill from ts)) (front things i d within) q in
      never (gap_of_filled bytes start top fill from (get_or things i d) (drop (i + 1) things) (rises things i d rising) (r.0 h))

  pub filled_end :
      (from i : ℕ) (b : Bool) → length things ≤ i →
      (IsTrue b → GapIs bytes start top fill from top) × (GapIs bytes start top fill from top → IsTrue b) →
      Left Q (FilledFrom bytes start top fill from (drop i things)) → (IsTrue b → Q) × (Q → IsTrue b)
  filled_end from i b behind gap q =
      let r = subst (λ (ts : List Thing). Left Q (FilledFrom bytes start top fill from ts)) (drop_all i things behind) q in (
        λ e. r.1 (λ a low high out. gap.0 e a low high high),
        λ h. gap.1 (λ a low front high. r.0 h a low high (All-nil (λ (u : Thing). Covers u a → ⊥))),
      )
