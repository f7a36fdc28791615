-- Things that reach up to the greatest end so far: they begin where they did, their ends rise, and together
-- they take up what they did.
use Rattle.std.proofs.Common.{◌≡◌, ℕ, zero, suc, ◌+◌, ◌-◌, ◌^◌, ◌<◌, ◌≤◌, ◌⊎◌, inl, inr, List, [], ◌∷◌, length, get_or, refl, arith}
use Rattle.std.specs.Prelude.{All, max}
use Rattle.std.specs.List.Sorted.{IsNonDecreasingBy}
use Rattle.std.proofs.lemmas.List.Elements.{All-cons, All-head, All-nil, All-tail}
use Rattle.elf_model.specs.Link.Placement.{Covers}
use Rattle.elf_model.specs.declared.thing.Thing.{Thing}
use Rattle.check_places.specs.Sweeps.{EndFits, stretched}
use Rattle.check_link.proofs.Padded.{below_or_not}

-- where a thing ends that reaches up to the greatest end so far, and that thing
abbrev reach : ℕ → Thing → ℕ
reach end t = max end (t.at + t.size)

abbrev to_reach : ℕ → Thing → Thing
to_reach end t = record t { size = reach end t - t.at }

end_reached : (end : ℕ) (t : Thing) → (to_reach end t).at + (to_reach end t).size ≡ reach end t
end_reached end t = omega arith

-- as many things, which begin where the others do
length-stretched : (end : ℕ) (ts : List Thing) → length (stretched end ts) ≡ length ts
length-stretched end [] = refl
length-stretched end (t ∷ ts) = let ih = length-stretched (reach end t) ts in omega (arith, ih)

begins_alike : (end : ℕ) (ts : List Thing) (i : ℕ) (d : Thing) → (get_or (stretched end ts) i d).at ≡ (get_or ts i d).at
begins_alike end [] i d = refl
begins_alike end (t ∷ ts) zero d = refl
begins_alike end (t ∷ ts) (suc i) d = begins_alike (reach end t) ts i d

pub stretched_rise : (end : ℕ) (ts : List Thing) → IsNonDecreasingBy (λ t. t.at) ts → IsNonDecreasingBy (λ t. t.at) (stretched end ts)
stretched_rise end ts rising i j d order within =
    let n = length-stretched end ts in
    let a = begins_alike end ts i d in
    let b = begins_alike end ts j d in
    let r = rising i j d order (omega (arith, n, within)) in
    omega (arith, a, b, r)

pub stretched_fit : (end : ℕ) (ts : List Thing) → end < 2 ^ 64 → All EndFits ts → All EndFits (stretched end ts)
stretched_fit end [] small fit = All-nil EndFits
stretched_fit end (t ∷ ts) small fit =
    let here = All-head EndFits t ts fit in
    let e = end_reached end t in
    All-cons EndFits (to_reach end t) (stretched (reach end t) ts) (omega (arith, e, here, small))
    (stretched_fit (reach end t) ts (omega (arith, here, small)) (All-tail EndFits t ts fit))

-- all of them end at or above the greatest end before them
ends_above : (end : ℕ) (ts : List Thing) → All (λ t. end ≤ t.at + t.size) (stretched end ts)
ends_above end [] = All-nil (λ (t : Thing). end ≤ t.at + t.size)
ends_above end (t ∷ ts) =
    let e = end_reached end t in
    All-cons (λ (u : Thing). end ≤ u.at + u.size) (to_reach end t) (stretched (reach end t) ts) (omega (arith, e))
    (λ k d within. let a = ends_above (reach end t) ts k d within in omega (arith, a))

pub stretched_ends_rise : (end : ℕ) (ts : List Thing) → IsNonDecreasingBy (λ t. t.at + t.size) (stretched end ts)
stretched_ends_rise end [] i j d order within = absurd (omega (arith, within))
stretched_ends_rise end (t ∷ ts) zero zero d order within = omega arith
stretched_ends_rise end (t ∷ ts) zero (suc j) d order within =
    let e = end_reached end t in
    let a = ends_above (reach end t) ts j d (omega (arith, within)) in
    omega (arith, e, a)
stretched_ends_rise end (t ∷ ts) (suc i) zero d order within = absurd (omega (arith, order))
stretched_ends_rise end (t ∷ ts) (suc i) (suc j) d order within =
    stretched_ends_rise (reach end t) ts i j d (omega (arith, order)) (omega (arith, within))

abbrev Out : ℕ → List Thing → Type 0
Out a ts = All (λ t. Covers t a → ⊥) ts

-- what no stretched thing takes up, no thing does
pub out_of_stretched : (end a : ℕ) (ts : List Thing) → Out a (stretched end ts) → Out a ts
out_of_stretched end a [] out = All-nil (λ (t : Thing). Covers t a → ⊥)
out_of_stretched end a (t ∷ ts) out =
    let never = All-head (λ (u : Thing). Covers u a → ⊥) (to_reach end t) (stretched (reach end t) ts) out in
    let e = end_reached end t in
    All-cons (λ (u : Thing). Covers u a → ⊥) t ts
    (λ c. never (c.0, let h = c.1 in omega (arith, e, h)))
    (out_of_stretched (reach end t) a ts (All-tail (λ (u : Thing). Covers u a → ⊥) (to_reach end t) (stretched (reach end t) ts) out))

-- what no thing takes up, no stretched one does: what it gained lies in an earlier one
out_before : (end low a : ℕ) (ts : List Thing) → (low ≤ a → a < end → ⊥) → All (λ t. low ≤ t.at) ts → IsNonDecreasingBy (λ t. t.at) ts → Out a ts → Out a (stretched end ts)
out_before end low a [] gap above rising out = All-nil (λ (t : Thing). Covers t a → ⊥)
out_before end low a (t ∷ ts) gap above rising out =
    let never = All-head (λ (u : Thing). Covers u a → ⊥) t ts out in
    let at = All-head (λ (u : Thing). low ≤ u.at) t ts above in
    let e = end_reached end t in
    All-cons (λ (u : Thing). Covers u a → ⊥) (to_reach end t) (stretched (reach end t) ts)
    (λ c. gained never at c.0 (let h = c.1 in omega (arith, e, h)))
    (out_before (reach end t) t.at a ts (λ from to. gained never at from to)
    (λ k d within. rising 0 (suc k) d (omega arith) (omega (arith, within)))
    (λ i j d order within. rising (suc i) (suc j) d (omega (arith, order)) (omega (arith, within)))
    (All-tail (λ (u : Thing). Covers u a → ⊥) t ts out))
  where
    gained : (Covers t a → ⊥) → low ≤ t.at → t.at ≤ a → a < reach end t → ⊥
    gained never at from to = by (below_or_not a (t.at + t.size))
      where
        by : (a < t.at + t.size) ⊎ (t.at + t.size ≤ a) → ⊥
        by (inl inside) = never (from, inside)
        by (inr past) = gap (omega (arith, at, from)) (omega (arith, to, past))

pub out_of_things : (a : ℕ) (ts : List Thing) → IsNonDecreasingBy (λ t. t.at) ts → Out a ts → Out a (stretched 0 ts)
out_of_things a ts rising out =
    out_before 0 0 a ts (λ low high. omega (arith, high)) (λ k d within. omega arith) rising out
