-- Values over the bytes of a part of a section: one by one, they give the byte of the field that has it.
use Rattle.std.proofs.Common.{◌≡◌, ℕ, ◌+◌, ◌-◌, ◌<◌, ◌≤◌, Bool, true, false, cond, List, [], ◌∷◌, Option, None, Some, add-one, drop, drop-cons, get_or, length, min, nat_lt, refl, slice_index, sym, ap, subst, take, ◌∙◌, arith}
use Rattle.std.specs.Prelude.{AllPairs, find}
use Rattle.std.proofs.lemmas.Bool.{false_from_ne_true, ltb-false, ltb-true}
use Rattle.std.proofs.lemmas.Bool.Decides.{nat_tests}
use Rattle.std.proofs.lemmas.List.{get_or-drop, get_or_default, length-drop, places}
use borrow.Rule.Slice.PartMut.{put_mid}
use Rattle.byteview.proofs.NumberLaws.{take-le_bytes}
use Rattle.byteview.specs.Numbers.{le_bytes}
use Rattle.elf_model.proofs.Finding.{find-none}
use Rattle.reloc_values.specs.Patches.{AreDisjoint, byte_in, covers, patched_byte}
use Rattle.reloc_values.specs.declared.patch.Patch.{Patch}

-- over plain lists: bytes with n others over them, from number at on
over_inside :
    (base here : List ℕ) (at n k : ℕ) → length here ≡ n → at + n ≤ length base → at ≤ k → k < at + n →
    slice_index (put_mid at n base here) k ≡ slice_index here (k - at)
over_inside base here at n k is inside low high = grind (arith, places)

over_below :
    (base here : List ℕ) (at n k : ℕ) → length here ≡ n → at + n ≤ length base → k < at →
    slice_index (put_mid at n base here) k ≡ slice_index base k
over_below base here at n k is inside low = grind (arith, places)

over_above :
    (base here : List ℕ) (at n k : ℕ) → length here ≡ n → at + n ≤ length base → at + n ≤ k →
    slice_index (put_mid at n base here) k ≡ slice_index base k
over_above base here at n k is inside high = grind (arith, places)

part_at : (xs : List ℕ) (m n k : ℕ) → k < n → slice_index (take n (drop m xs)) k ≡ slice_index xs (m + k)
part_at xs m n k low = grind (arith, places)

front_at : (xs : List ℕ) (n k : ℕ) → k < n → slice_index (take n xs) k ≡ slice_index xs k
front_at xs n k low = grind (arith, places)

pub covers_is : (k : ℕ) (p : Patch) → covers k p ≡ true → (p.at ≤ k) × (k < p.at + p.width)
covers_is k p e = (grind (arith, nat_tests), grind (arith, nat_tests))

pub covers_not : (k : ℕ) (p : Patch) → covers k p ≡ false → p.at ≤ k → p.at + p.width ≤ k
covers_not k p e low = grind (arith, nat_tests)

pub is_covered : (k : ℕ) (p : Patch) → p.at ≤ k → k < p.at + p.width → covers k p ≡ true
is_covered k p low high = grind (arith, nat_tests)

-- a value of at most 8 bytes, at its number behind its first ones
value_at : (p : Patch) (spelled : List ℕ) (m n k : ℕ) → spelled ≡ le_bytes 8 p.value → p.width ≤ 8 → k < n → m + n ≤ p.width → slice_index (take n (drop m spelled)) k ≡ slice_index (le_bytes p.width p.value) (m + k)
value_at p spelled m n k is narrow low fits =
    part_at spelled m n k low
    ∙ (ap (λ (bs : List ℕ). slice_index bs (m + k)) is
    ∙ (sym (front_at (le_bytes 8 p.value) p.width (m + k) (omega (arith, low, fits)))
    ∙ ap (λ (bs : List ℕ). slice_index bs (m + k)) (take-le_bytes p.width 8 p.value narrow)))

-- what is written of a field: count bytes of the value, without so many earlier ones, from number at on
pub record IsWritten (p : Patch) (from size at earlier count : ℕ) : Type 0 where
  pub at_is : at ≡ p.at - from
  pub earlier_is : earlier ≡ from - p.at
  pub some : earlier < p.width
  pub within : at < size
  pub count_is : count ≡ min (p.width - earlier) (size - at)

pub written :
    (p : Patch) (from at earlier count k : ℕ) (base spelled here : List ℕ) → IsWritten p from (length base) at earlier count → p.width ≤ 8 →
    spelled ≡ le_bytes 8 p.value → here ≡ take count (drop earlier spelled) → length here ≡ count → k < length base →
    slice_index (put_mid at count base here) k ≡ patched_byte from base (p ∷ []) k
written p from at earlier count k base spelled here is narrow value part long low = by (covers (from + k) p) refl
  where
    fits : at + count ≤ length base
    fits = let a = is.within in let b = is.count_is in omega (arith, a, b)

    by : (b : Bool) → covers (from + k) p ≡ b → slice_index (put_mid at count base here) k ≡ byte_in from base k (cond (covers (from + k) p) (Some p) None)
    by true e =
        let c = covers_is (from + k) p e in
        let a = is.at_is in
        let b = is.earlier_is in
        let n = is.count_is in
        let after : at ≤ k = omega (arith, c, a) in
        let before : k < at + count = omega (arith, c, a, b, n, low) in
        let number : earlier + (k - at) ≡ from + k - p.at = omega (arith, c, a, b) in
        over_inside base here at count k long fits after before
        ∙ (ap (λ (bs : List ℕ). slice_index bs (k - at)) part
        ∙ (value_at p spelled earlier count (k - at) value narrow (omega (arith, after, before)) (omega (arith, n))
        ∙ (ap (λ (j : ℕ). slice_index (le_bytes p.width p.value) j) number
        ∙ sym (ap (λ (t : Bool). byte_in from base k (cond t (Some p) None)) e))))
    by false e =
        outside (covers_not (from + k) p e)
        ∙ sym (ap (λ (t : Bool). byte_in from base k (cond t (Some p) None)) e)
      where
        outside : (p.at ≤ from + k → p.at + p.width ≤ from + k) → slice_index (put_mid at count base here) k ≡ slice_index base k
        outside not = side (nat_lt k at) refl
          where
            side : (t : Bool) → nat_lt k at ≡ t → slice_index (put_mid at count base here) k ≡ slice_index base k
            side true below = over_below base here at count k long fits (ltb-true k at below)
            side false behind =
                let from_at = ltb-false k at behind in
                let a = is.at_is in
                let b = is.earlier_is in
                let n = is.count_is in
                let past = not (omega (arith, a, from_at)) in
                over_above base here at count k long fits (omega (arith, a, b, n, past, from_at))

-- the value of another field, over bytes to which one more value is written
same_byte :
    (from k : ℕ) (base new : List ℕ) (o : Option Patch) → slice_index new k ≡ slice_index base k →
    byte_in from new k o ≡ byte_in from base k o
same_byte from k base new None e = e
same_byte from k base new (Some q) e = refl

-- one value more is written
pub one_more :
    (from : ℕ) (base new : List ℕ) (ps : List Patch) (i k : ℕ) (d : Patch) → i < length ps → AllPairs AreDisjoint ps →
    slice_index new k ≡ patched_byte from base (get_or ps i d ∷ []) k →
    patched_byte from new (drop (i + 1) ps) k ≡ patched_byte from base (drop i ps) k
one_more from base new ps i k d low apart written =
    by (covers (from + k) p) refl
    ∙ sym (ap (λ (qs : List Patch). patched_byte from base qs k) whole)
  where
    p : Patch
    p = get_or ps i d

    rest : List Patch
    rest = drop (i + 1) ps

    whole : drop i ps ≡ p ∷ rest
    whole = rw (add-one, drop-cons ps i d) refl

    apart_later : (j : ℕ) (x : Patch) → j < length rest → AreDisjoint p (get_or rest j x)
    apart_later j x within =
        let long = length-drop (i + 1) ps in
        subst (λ (q : Patch). AreDisjoint q (get_or rest j x)) (get_or_default ps i x d low)
        (subst (AreDisjoint (get_or ps i x)) (sym (get_or-drop (i + 1) ps j x)) (apart i (i + 1 + j) x (omega arith) (omega (arith, long, within))))

    later : covers (from + k) p ≡ true → find (covers (from + k)) rest ≡ None
    later e =
        find-none (covers (from + k)) rest
        (λ j x within.
        false_from_ne_true (covers (from + k) (get_or rest j x)) (λ f. apart_later j x within (from + k) e f))

    by : (b : Bool) → covers (from + k) p ≡ b → byte_in from new k (find (covers (from + k)) rest) ≡ byte_in from base k (cond (covers (from + k) p) (Some p) (find (covers (from + k)) rest))
    by true e =
        ap (byte_in from new k) (later e)
        ∙ (written ∙ (ap (λ (t : Bool). byte_in from base k (cond t (Some p) None)) e ∙ sym (ap (λ (t : Bool). byte_in from base k (cond t (Some p) (find (covers (from + k)) rest))) e)))
    by false e =
        same_byte from k base new (find (covers (from + k)) rest) (written ∙ ap (λ (t : Bool). byte_in from base k (cond t (Some p) None)) e)
        ∙ sym (ap (λ (t : Bool). byte_in from base k (cond t (Some p) (find (covers (from + k)) rest))) e)

-- a field that ends at a byte or before has no later one, and one that begins at a byte or after no earlier one
pub ended_before : (k byte : ℕ) (p : Patch) → p.at + p.width ≤ byte → byte ≤ k → covers k p ≡ false
ended_before k byte p ended from = grind (arith, nat_tests)

pub begun_after : (k byte : ℕ) (p : Patch) → byte ≤ p.at → k < byte → covers k p ≡ false
begun_after k byte p begun below = grind (arith, nat_tests)
