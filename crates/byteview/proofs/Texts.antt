-- The text up to the first NUL, as the search for a byte finds it.
use Rattle.std.proofs.Common.{◌≡◌, ◌↔◌, ℕ, ◌+◌, ◌-◌, ◌<◌, ◌≤◌, List, length, Option, None, Some, SomeIff, drop, slice_index, ap, ◌∙◌, true, inl, inr, sym, arith}
use Rattle.std.specs.List.{position_or_len}
use Rattle.std.proofs.lemmas.Bool.{cases_lt, false_from_ne_true}
use Rattle.std.proofs.lemmas.List.{get_or-drop, length-drop}
use Rattle.std.proofs.lemmas.List.Sums.{fails_before_first, passes_at_first, position_or_len_is}
use Rattle.memchr.specs.Find.{IsFirstByte, IsLastByte, is_byte}
use Rattle.byteview.specs.Numbers.{HasText, is_nul}

-- the first byte that is 0 is where the bytes before a NUL end
pub first_nul_is : (bytes : List ℕ) (r : Option ℕ) → IsFirstByte (is_byte 0) bytes r
    → SomeIff r (position_or_len is_nul bytes < length bytes) (position_or_len is_nul bytes)
first_nul_is bytes None none = λ has. none _ (omega arith) has (passes_at_first is_nul bytes 0 has)
first_nul_is bytes (Some k) first =
    let inside : k ≤ length bytes = omega (arith, first.0.high) in
    let e = position_or_len_is is_nul bytes k 0 inside (λ j below. false_from_ne_true _ (first.0.before j (omega arith) below)) (λ _. first.1) in
    (omega (arith, e, first.0.high), sym e)

-- where a text ends, a NUL stands
nul_at_end : (bytes : List ℕ) (at : ℕ) → HasText bytes at
    → is_nul (slice_index bytes (at + position_or_len is_nul (drop at bytes))) ≡ true
nul_at_end bytes at has =
    let rest = drop at bytes in
    ap is_nul (sym (get_or-drop at bytes (position_or_len is_nul rest) 0)) ∙ passes_at_first is_nul rest 0 has

-- a NUL at or behind the offset ends a text there
text_from_nul : (bytes : List ℕ) (at k : ℕ) → at ≤ k → k < length bytes → is_nul (slice_index bytes k) ≡ true → HasText bytes at
text_from_nul bytes at k below inside nul =
    let rest = drop at bytes in
    let e : at + (k - at) ≡ k = omega arith in
    let here : is_nul (slice_index rest (k - at)) ≡ true = ap is_nul (get_or-drop at bytes (k - at) 0) ∙ ap (λ (j : ℕ). is_nul (slice_index bytes j)) e ∙ nul in
    elim (cases_lt (k - at) (position_or_len is_nul rest)) [
      | inl early ↦ let other = fails_before_first is_nul rest (k - at) 0 early in cc
      | inr late ↦ omega (arith, late, length-drop at bytes)
    ]

-- that NUL stands inside
end_inside : (bytes : List ℕ) (at : ℕ) → HasText bytes at → at + position_or_len is_nul (drop at bytes) < length bytes
end_inside bytes at has = omega (arith, has, length-drop at bytes)

-- no text begins where there is no NUL
pub no_text : (bytes : List ℕ) → IsLastByte (is_byte 0) bytes None → (at : ℕ) → HasText bytes at ↔ at < 0
no_text bytes none at = (
  λ has. absurd (none _ (omega arith) (end_inside bytes at has) (nul_at_end bytes at has)),
  λ below. absurd (omega arith),
)

-- texts begin up to the last NUL
pub texts_to_last : (bytes : List ℕ) (last : ℕ) → IsLastByte (is_byte 0) bytes (Some last) → (at : ℕ) → HasText bytes at ↔ at < last + 1
texts_to_last bytes last is at = (
  λ has. elim (cases_lt at (last + 1)) [
    | inl below ↦ below
    | inr above ↦
        let behind : last + 1 ≤ at + position_or_len is_nul (drop at bytes) = omega arith in
        absurd (is.0.after _ behind (end_inside bytes at has) (nul_at_end bytes at has))
  ],
  λ below. text_from_nul bytes at last (omega arith) is.0.high is.1,
)
