-- Whole characters of a string, by their number.
use Rattle.std.proofs.Common.{◌≡◌, ℕ, suc, ◌+◌, ◌-◌, ◌*◌, ◌/◌, ◌%◌, ◌<◌, ◌≤◌, sym, subst, arith}
use Rattle.std.proofs.Math.Nat.{div-add-mod, div-mul-le_self, lt_of_mul-lt-mul_left, mul_comm, mul-le-mul_right, mul-lt-mul_of_pos_left}
use Rattle.std.proofs.lemmas.Nat.Gcd.{dvd_of_mod-eq-zero, le_of_dvd}

-- what is something, and whole characters, has room for one
pub one_inside : (e size : ℕ) → size % e ≡ 0 → 0 < size → e ≤ size
one_inside e size whole more = le_of_dvd more (dvd_of_mod-eq-zero e whole)

-- all but the last one lie inside
pub inside_before_last : (e size offset len : ℕ) → offset + size ≤ len → offset + (size / e - 1) * e ≤ len
inside_before_last e size offset len inside =
    let less : (size / e - 1) * e ≤ size / e * e = mul-le-mul_right e (omega arith) in
    let all = div-mul-le_self size e in
    omega (arith, less, all, inside)

module _ (e size : ℕ) (some : 0 < e) (whole : size % e ≡ 0) where
  size_is : e * (size / e) ≡ size
  size_is = let d = div-add-mod size e in omega (arith, d, whole)

  pub before_last : (j : ℕ) → j < size / e - 1 → suc j * e < size
  before_last j low =
      subst (λ (n : ℕ). n < size) (mul_comm e (suc j))
      (subst (λ (n : ℕ). e * suc j < n) size_is (mul-lt-mul_of_pos_left (omega (arith, low)) some))

  pub is_before_last : (j : ℕ) → suc j * e < size → j < size / e - 1
  is_before_last j less =
      let two : suc j < size / e =
      lt_of_mul-lt-mul_left e
      (subst (λ (n : ℕ). e * suc j < n) (sym size_is) (subst (λ (n : ℕ). n < size) (mul_comm (suc j) e) less)) in
      omega (arith, two)
