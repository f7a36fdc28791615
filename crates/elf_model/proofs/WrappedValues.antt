-- Values of relocations modulo 2 ^ 64, as wrapping arithmetic computes them: no term need lie below 2 ^ 64.
use Rattle.std.proofs.Common.{◌≡◌, ℕ, suc, ◌+◌, ◌-◌, ◌*◌, ◌/◌, ◌%◌, ◌^◌, ℤ, pos, negsuc, ◌+ℤ◌, ◌-ℤ◌, unsigned_abs, refl, sym, ap, ◌∙◌, arith, lit<}
use Rattle.std.proofs.Math.Nat.{mod-add-mod}
use Rattle.std.proofs.lemmas.Int.{ints, int_rem_euclid_is}
use Rattle.std.proofs.lemmas.Nat.{div-add-mod', mod_below}
use Rattle.std.specs.Int.{cast_unsigned, w64}
use Rattle.std.specs.Int.RustNames.{FitsSigned}
use Rattle.elf_model.specs.Link.Relocation.{modulo_64}

-- a whole number that some multiple of 2 ^ 64 lifts to a natural one
pub modulo_is : (v : ℤ) (k m : ℕ) → v +ℤ pos (k * 2 ^ 64) ≡ pos m → modulo_64 v ≡ m % 2 ^ 64
modulo_is v k m e = ap unsigned_abs (int_rem_euclid_is v (pos (2 ^ 64)) (2 ^ 64) k m (lit< tt) refl e)

-- a natural number and an addend
pub modulo-sum : (n : ℕ) (a : ℤ) → FitsSigned w64 a → modulo_64 (pos n +ℤ a) ≡ (n + cast_unsigned w64 a) % 2 ^ 64
modulo-sum n (pos a) fits = modulo_is (pos n +ℤ pos a) 0 (n + a) (omega (arith, ints))
modulo-sum n (negsuc a) fits =
    modulo_is (pos n +ℤ negsuc a) 1 (n + (2 ^ 64 - suc a)) (omega (arith, ints, fits))

-- the same less a natural number
pub modulo-difference :
    (n : ℕ) (a : ℤ) (p : ℕ) → FitsSigned w64 a →
    modulo_64 ((pos n +ℤ a) -ℤ pos p) ≡ (n + cast_unsigned w64 a + (2 ^ 64 - p % 2 ^ 64)) % 2 ^ 64
modulo-difference n (pos a) p fits =
    let whole = div-add-mod' p (2 ^ 64) in
    let below = mod_below p (2 ^ 64) (lit< tt) in
    modulo_is ((pos n +ℤ pos a) -ℤ pos p) (p / 2 ^ 64 + 1) (n + a + (2 ^ 64 - p % 2 ^ 64)) (omega (arith, ints))
modulo-difference n (negsuc a) p fits =
    let whole = div-add-mod' p (2 ^ 64) in
    let below = mod_below p (2 ^ 64) (lit< tt) in
    modulo_is ((pos n +ℤ negsuc a) -ℤ pos p) (p / 2 ^ 64 + 2) (n + (2 ^ 64 - suc a) + (2 ^ 64 - p % 2 ^ 64)) (omega (arith, ints, fits))

-- what wrapping additions and subtractions of reduced terms compute
pub wrapped-sum :
    (s n : ℕ) (a : ℤ) → FitsSigned w64 a → s ≡ n % 2 ^ 64 → (s + cast_unsigned w64 a) % 2 ^ 64 ≡ modulo_64 (pos n +ℤ a)
wrapped-sum s n a fits e =
    ap (λ (x : ℕ). (x + cast_unsigned w64 a) % 2 ^ 64) e ∙ mod-add-mod n (2 ^ 64) (cast_unsigned w64 a) ∙ sym (modulo-sum n a fits)

pub wrapped-difference :
    (s n : ℕ) (a : ℤ) (q p : ℕ) → FitsSigned w64 a → s ≡ n % 2 ^ 64 → q ≡ p % 2 ^ 64 →
    ((s + cast_unsigned w64 a) % 2 ^ 64 + (2 ^ 64 - q)) % 2 ^ 64 ≡ modulo_64 ((pos n +ℤ a) -ℤ pos p)
wrapped-difference s n a q p fits e f =
    let M : ℕ = 2 ^ 64 in
    ap (λ (x : ℕ). ((x + cast_unsigned w64 a) % 2 ^ 64 + (2 ^ 64 - q)) % 2 ^ 64) e
    ∙ (ap (λ (x : ℕ). ((n % 2 ^ 64 + cast_unsigned w64 a) % 2 ^ 64 + (2 ^ 64 - x)) % 2 ^ 64) f
    ∙ (ap (λ (x : ℕ). (x + (2 ^ 64 - p % 2 ^ 64)) % 2 ^ 64) (mod-add-mod n (2 ^ 64) (cast_unsigned w64 a))
    ∙ (mod-add-mod (n + cast_unsigned w64 a) (2 ^ 64) (2 ^ 64 - p % 2 ^ 64) ∙ sym (modulo-difference n a p fits))))
