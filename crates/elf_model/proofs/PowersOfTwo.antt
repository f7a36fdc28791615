-- A number with one binary digit set is a power of two; and the lower of two powers divides the other.
use Rattle.std.proofs.Common.{eq-eqb, ◌≡◌, ◌↔◌, ℕ, zero, suc, ◌⊎◌, ◌+◌, ◌-◌, ◌/◌, ◌%◌, ◌^◌, ◌<◌, ◌≤◌, Bool, true, IsTrue, ap, sym, ◌∙◌, arith, inl, inr}
use Rattle.std.specs.Int.{IsPowerOfTwo, is_power_of_two}
use Rattle.std.specs.Int.RustNames.{count_ones}
use Rattle.std.proofs.Math.Nat.{mul-mod_left, pow-suc}
use Rattle.std.proofs.lemmas.Bool.{cases_lt, eqb-true}
use Rattle.std.proofs.lemmas.Nat.{ones_le_self, pow-add, pow_below, zero_from_ones}
use lib.Count.{ones_step}

-- by the lowest digit; the fuel bounds how many there are
power_from_ones : (fuel n : ℕ) → n ≤ fuel → count_ones n ≡ 1 → IsPowerOfTwo n
power_from_ones zero n small one = absurd (omega (arith, ones_le_self n))
power_from_ones (suc fuel) n small one =
    let step = ones_step n in
    elim (cases_lt 0 (n % 2)) [
      | inl odd ↦
          let rest : count_ones (n / 2) ≡ 0 = omega (arith, step, one, odd) in
          let none : n / 2 ≡ 0 = zero_from_ones (n / 2) rest in
          let is : n ≡ 1 = omega (arith, none, odd) in
          (0, is)
      | inr even ↦
          let rest : count_ones (n / 2) ≡ 1 = omega (arith, step, one, even) in
          let half = power_from_ones fuel (n / 2) (omega arith) rest in
          let is : n ≡ 2 ^ suc half.0 = omega (arith, half.1, even, pow-suc 2 half.0) in
          (suc half.0, is)
    ]

-- a power of two has one binary digit set
ones_of_power : (k : ℕ) → count_ones (2 ^ k) ≡ 1
ones_of_power zero = omega (arith, ones_step 1, ones_le_self 0)
ones_of_power (suc k) =
    let half : 2 ^ suc k / 2 ≡ 2 ^ k = omega (arith, pow-suc 2 k) in
    let low : 2 ^ suc k % 2 ≡ 0 = omega (arith, pow-suc 2 k) in
    omega (arith, ones_step (2 ^ suc k), low, ap count_ones half, ones_of_power k)

pub power_test : (n : ℕ) (test : Bool) → test ≡ is_power_of_two n → IsTrue test ↔ IsPowerOfTwo n
power_test n test is = (
  λ holds. let one : is_power_of_two n ≡ true = sym is ∙ holds in power_from_ones n n (omega arith) (eqb-true (count_ones n) 1 one),
  λ power. is ∙ eq-eqb (count_ones n) 1 (ap count_ones power.1 ∙ ones_of_power power.0),
)

power_order : (k m : ℕ) → 2 ^ k ≤ 2 ^ m → k ≤ m
power_order k m low = by (cases_lt m k)
  where
    by : (m < k) ⊎ (k ≤ m) → k ≤ m
    by (inl below) = absurd (let p = pow_below m k below in omega (arith, p, low))
    by (inr order) = order

powers_divide : (k m : ℕ) → k ≤ m → 2 ^ m % 2 ^ k ≡ 0
powers_divide k m order =
    let sum : m ≡ (m - k) + k = omega (arith, order) in
    ap (λ (n : ℕ). 2 ^ n % 2 ^ k) sum ∙ (ap (λ (n : ℕ). n % 2 ^ k) (pow-add 2 (m - k) k) ∙ mul-mod_left (2 ^ (m - k)) (2 ^ k))

pub lower_divides : (a b : ℕ) → IsPowerOfTwo a → IsPowerOfTwo b → a ≤ b → b % a ≡ 0
lower_divides a b p q low =
    let e = p.1 in
    let f = q.1 in
    let order = power_order p.0 q.0 (omega (arith, e, f, low)) in
    rw (e, f) (powers_divide p.0 q.0 order)
