-- The bits in properties, one property after the other.
use Rattle.std.proofs.Common.{◌≡◌, ◌≢◌, ℕ, zero, suc, ◌+◌, ◌<◌, ◌≤◌, Bool, true, false, List, length, drop, ap, arith, ◌∙◌}
use Rattle.std.specs.Prelude.{cond, nat_le, ◌==◌}
use Rattle.std.proofs.lemmas.Bool.{eq-eqb, le-leb, ne_eqb}
use Rattle.byteview.specs.Numbers.{le_at}
use Rattle.elf_model.specs.Link.Placement.{round_up}
use Rattle.judge_model.specs.Notes.{bits_behind, feature_1_and}

abbrev next : ℕ → List ℕ → ℕ
next n rest = bits_behind n (drop (round_up 8 (8 + le_at 4 rest 4)) rest)

by_tests : (n : ℕ) (rest : List ℕ) (a b : Bool) → nat_le 8 (length rest) ≡ a → (le_at 4 rest 0 == feature_1_and) ≡ b
    → bits_behind (suc n) rest ≡ cond a (cond b (le_at 4 rest 8) (next n rest)) 0
by_tests n rest a b is_a is_b =
    ap (λ (x : Bool). cond x (cond (le_at 4 rest 0 == feature_1_and) (le_at 4 rest 8) (next n rest)) 0) is_a
    ∙ ap (λ (x : Bool). cond a (cond x (le_at 4 rest 8) (next n rest)) 0) is_b

pub bits_found : (n : ℕ) (rest : List ℕ) → 0 < n → 8 ≤ length rest → le_at 4 rest 0 ≡ feature_1_and → bits_behind n rest ≡ le_at 4 rest 8
bits_found zero rest some long is = absurd (omega (arith, some))
bits_found (suc n) rest some long is = by_tests n rest true true (le-leb 8 (length rest) long) (eq-eqb (le_at 4 rest 0) feature_1_and is)

pub bits_next : (n m : ℕ) (rest : List ℕ) → n ≡ m + 1 → 8 ≤ length rest → le_at 4 rest 0 ≢ feature_1_and → bits_behind n rest ≡ next m rest
bits_next zero m rest more long other = absurd (omega (arith, more))
bits_next (suc n) m rest more long other =
    by_tests n rest true false (le-leb 8 (length rest) long) (ne_eqb (le_at 4 rest 0) feature_1_and other)
    ∙ ap (λ (k : ℕ). next k rest) (omega (arith, more))
