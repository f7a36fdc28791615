-- What one more slot adds to the greatest end of those before zeros.
use Rattle.std.proofs.Common.{◌≡◌, ◌⊎◌, inl, inr, ℕ, ◌+◌, ◌≤◌, Option, None, Some, max, arith}
use Rattle.std.specs.Prelude.{◌↔◌}
use Rattle.judge_model.specs.Fill.{IsBeforeZeros}
use Rattle.name_judge.specs.Clear.{IsInZeros, IsSlotBy}

before_of : (zeros : Option ℕ) (v at : ℕ) → IsInZeros zeros at → IsBeforeZeros zeros v at
before_of None v at among = absurd among
before_of (Some start) v at among = inr among

pub among_zeros : (zeros : Option ℕ) (end at v : ℕ) → IsInZeros zeros at → (end ≤ v) ↔ ((end ≤ v) × IsSlotBy zeros v at)
among_zeros zeros end at v among = (λ low. (low, record { end = before_of zeros v at among }), λ both. both.0)

low_of : (zeros : Option ℕ) (v at : ℕ) → (IsInZeros zeros at → ⊥) → IsBeforeZeros zeros v at → at + 8 ≤ v
low_of None v at never low = low
low_of (Some start) v at never (inl low) = low
low_of (Some start) v at never (inr among) = absurd (never among)

of_low : (zeros : Option ℕ) (v at : ℕ) → at + 8 ≤ v → IsBeforeZeros zeros v at
of_low None v at low = low
of_low (Some start) v at low = inl low

pub before_zeros :
    (zeros : Option ℕ) (r end at v : ℕ) → r ≡ max end (at + 8) → (IsInZeros zeros at → ⊥) →
    (r ≤ v) ↔ ((end ≤ v) × IsSlotBy zeros v at)
before_zeros zeros r end at v is never = (
  λ low. (omega (arith, is, low), record { end = of_low zeros v at (omega (arith, is, low)) }),
  λ both. let slot = low_of zeros v at never both.1.end in let before = both.0 in omega (arith, is, before, slot),
)
