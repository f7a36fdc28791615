-- Where the texts of long names may begin: up to the last slash that a line feed follows.
use Rattle.std.proofs.Common.{◌≡◌, ℕ, ◌+◌, ◌-◌, ◌<◌, ◌≤◌, ◌⊎◌, inl, inr, List, length, drop, ap, ◌∙◌, sym, arith}
use Rattle.std.specs.Prelude.{codes}
use Rattle.std.proofs.lemmas.Bool.{cases_eq}
use Rattle.std.proofs.lemmas.List.{length-drop, length-take}
use Rattle.byteview.specs.Numbers.{part}
use Rattle.ar_index.specs.Reading.{IsLimit}

-- no text ends behind an end
abbrev pub IsNoneBehind : List ℕ → ℕ → Type 0
IsNoneBehind names end = (k : ℕ) → part names k 2 ≡ codes "/\n" → k + 2 ≤ end

pub none_at_all : (names : List ℕ) → IsNoneBehind names (length names)
none_at_all names k is =
    let size : length (part names k 2) ≡ 2 = ap (λ (bs : List ℕ). length bs) is in
    let taken = length-take 2 (drop k names) in
    let left = length-drop k names in
    omega (arith, size, taken, left)

pub none_more : (names : List ℕ) (end : ℕ) → IsNoneBehind names end → 2 ≤ end → (part names (end - 2) 2 ≡ codes "/\n" → ⊥) → IsNoneBehind names (end - 1)
none_more names end none some never k is = by (cases_eq k (end - 2)) where
  by : (k ≡ end - 2) ⊎ (k ≡ end - 2 → ⊥) → k + 2 ≤ end - 1
  by (inl e) = absurd (never (ap (λ (j : ℕ). part names j 2) (sym e) ∙ is))
  by (inr other) = let below = none k is in omega (arith, below, some, other)

pub limit_found : (names : List ℕ) (end : ℕ) → IsNoneBehind names end → 2 ≤ end → part names (end - 2) 2 ≡ codes "/\n" → IsLimit names (end - 1)
limit_found names end none some is at = (
  λ text. let below = none text.0 text.2 in let from = text.1 in omega (arith, below, from, some),
  λ below. (end - 2, omega (arith, below), is),
)

pub limit_none : (names : List ℕ) (end : ℕ) → IsNoneBehind names end → end < 2 → IsLimit names 0
limit_none names end none few at = (λ text. let below = none text.0 text.2 in absurd (omega (arith, below, few)), λ below. absurd (omega (arith, below)))
