-- The bytes of a section, one run behind the other.
use Rattle.std.proofs.Common.{◌≡◌, ℕ, ◌+◌, ◌-◌, ◌<◌, ◌≤◌, List, [], ◌++◌, drop, length, take, refl, sym, ◌∙◌, ap, arith}
use Rattle.std.specs.Prelude.{map, slice_index}
use Rattle.std.specs.List.{range_with_len}
use Rattle.std.proofs.lemmas.List.{ext_get_or, get_or-drop, get_or-take, length-drop, length-take-le}
use Rattle.std.proofs.lemmas.List.FromFn.{get_or-map-range_with_len, length-map-range_with_len}
use Rattle.image_write.proofs.Runs.{map_between}

-- a run of a list by the numbers of its elements
pub part_at :
    (bytes : List ℕ) (from n k : ℕ) → from + n ≤ length bytes → k < n → slice_index (take n (drop from bytes)) k ≡ slice_index bytes (from + k)
part_at bytes from n k inside within = get_or-take n (drop from bytes) k 0 within ∙ get_or-drop from bytes k 0

pub part_length : (bytes : List ℕ) (from n : ℕ) → from + n ≤ length bytes → length (take n (drop from bytes)) ≡ n
part_length bytes from n inside =
    let rest = length-drop from bytes in
    length-take-le n (drop from bytes) (omega (arith, rest, inside))

-- a run whose elements a function gives
pub part_is :
    (f : ℕ → ℕ) (bytes : List ℕ) (from n : ℕ) → from + n ≤ length bytes →
    ((k : ℕ) → from ≤ k → k < from + n → f k ≡ slice_index bytes k) → take n (drop from bytes) ≡ map f (range_with_len from n)
part_is f bytes from n inside same =
    ext_get_or 0 (take n (drop from bytes)) (map f (range_with_len from n))
    (part_length bytes from n inside ∙ sym (length-map-range_with_len f from n))
    (λ i within.
    let len = part_length bytes from n inside in
    let low : i < n = omega (arith, within, len) in
    part_at bytes from n i inside low
    ∙ (sym (same (from + i) (omega arith) (omega (arith, low)))
    ∙ sym (get_or-map-range_with_len f from n i (from + i) 0 low refl)))

-- the run from one number to the end is that to another one, and that from there
pub run_parts :
    (f : ℕ → ℕ) (from next size : ℕ) → from ≤ next → next ≤ size →
    map f (range_with_len from (size - from)) ≡ map f (range_with_len from (next - from)) ++ map f (range_with_len next (size - next))
run_parts f from next size low high = sym (map_between f from next size low high)

pub run_end : (f : ℕ → ℕ) (from size : ℕ) → size ≤ from → map f (range_with_len from (size - from)) ≡ []
run_end f from size behind = let e : size - from ≡ 0 = omega (arith, behind) in ap (λ (n : ℕ). map f (range_with_len from n)) e
