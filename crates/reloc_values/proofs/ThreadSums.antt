-- Offsets from the thread pointer with an addend, modulo 2 ^ 64.
use Rattle.std.proofs.Common.{◌≡◌, ℕ, suc, ◌+◌, ◌-◌, ◌*◌, ◌%◌, ◌^◌, ℤ, pos, negsuc, ◌+ℤ◌, sym, ap, ◌∙◌, arith, w64}
use Rattle.std.proofs.Math.Nat.{mod-add-mod}
use Rattle.std.proofs.lemmas.Int.{ints}
use Rattle.std.specs.Int.{cast_unsigned}
use Rattle.std.specs.Int.RustNames.{FitsSigned}
use Rattle.elf_model.specs.Link.Relocation.{modulo_64}
use Rattle.elf_model.proofs.WrappedValues.{modulo_is, modulo-sum}

-- a whole number that some multiple of 2 ^ 64 lifts to a natural one, and an addend
lifted_sum : (t : ℤ) (k m : ℕ) (a : ℤ) → t +ℤ pos (k * 2 ^ 64) ≡ pos m → FitsSigned w64 a → modulo_64 (t +ℤ a) ≡ (m + cast_unsigned w64 a) % 2 ^ 64
lifted_sum t k m (pos a) e fits = modulo_is (t +ℤ pos a) k (m + a) (omega (arith, ints, e))
lifted_sum t k m (negsuc a) e fits = modulo_is (t +ℤ negsuc a) (k + 1) (m + (2 ^ 64 - suc a)) (omega (arith, ints, e, fits))

lifted : (t : ℤ) (k m : ℕ) (a : ℤ) → t +ℤ pos (k * 2 ^ 64) ≡ pos m → FitsSigned w64 a → modulo_64 (pos (modulo_64 t) +ℤ a) ≡ modulo_64 (t +ℤ a)
lifted t k m a e fits =
    ap (λ (n : ℕ). modulo_64 (pos n +ℤ a)) (modulo_is t k m e)
    ∙ (modulo-sum (m % 2 ^ 64) a fits
    ∙ (mod-add-mod m (2 ^ 64) (cast_unsigned w64 a) ∙ sym (lifted_sum t k m a e fits)))

-- an offset modulo 2 ^ 64 serves as the offset itself does
pub thread-sum : (t : ℤ) (a : ℤ) → FitsSigned w64 a → modulo_64 (pos (modulo_64 t) +ℤ a) ≡ modulo_64 (t +ℤ a)
thread-sum (pos n) a fits = lifted (pos n) 0 n a (omega (arith, ints)) fits
thread-sum (negsuc n) a fits = lifted (negsuc n) (suc n) (suc n * 2 ^ 64 - suc n) a (omega (arith, ints)) fits
