-- Offsets from the thread pointer, as wrapping arithmetic computes them.
use Rattle.std.proofs.Common.{◌≡◌, ℕ, ◌+◌, ◌-◌, ◌/◌, ◌%◌, ◌^◌, pos, ◌-ℤ◌, sym, ap, ◌∙◌, arith, lit<}
use Rattle.std.proofs.Math.Nat.{mod-add-mod}
use Rattle.std.proofs.lemmas.Int.{ints}
use Rattle.std.proofs.lemmas.Nat.{div-add-mod', mod_below}
use Rattle.elf_model.proofs.WrappedValues.{modulo_is}
use Rattle.elf_model.specs.Link.Relocation.{modulo_64}
-- the thread pointer, as the sum of the block's beginning, its size and what rounds that up
pub use Rattle.elf_model.proofs.RoundedUp.{pointer_is_rounded as pointer_is}

-- a number less another one
difference : (x p : ℕ) → (x + (2 ^ 64 - p % 2 ^ 64)) % 2 ^ 64 ≡ modulo_64 (pos x -ℤ pos p)
difference x p =
    let whole = div-add-mod' p (2 ^ 64) in
    let below = mod_below p (2 ^ 64) (lit< tt) in
    sym (modulo_is (pos x -ℤ pos p) (p / 2 ^ 64 + 1) (x + (2 ^ 64 - p % 2 ^ 64)) (omega (arith, ints)))

pub offset_is :
    (x y p : ℕ) → y ≡ p % 2 ^ 64 → (x + (2 ^ 64 - y)) % 2 ^ 64 ≡ modulo_64 (pos x -ℤ pos p)
offset_is x y p e = ap (λ (z : ℕ). (x + (2 ^ 64 - z)) % 2 ^ 64) e ∙ difference x p

-- the same of what a number leaves modulo 2 ^ 64
pub offset_of_rest :
    (x n y p : ℕ) → x ≡ n % 2 ^ 64 → y ≡ p % 2 ^ 64 → (x + (2 ^ 64 - y)) % 2 ^ 64 ≡ modulo_64 (pos n -ℤ pos p)
offset_of_rest x n y p e f =
    ap (λ (z : ℕ). (z + (2 ^ 64 - y)) % 2 ^ 64) e ∙ (mod-add-mod n (2 ^ 64) (2 ^ 64 - y) ∙ offset_is n y p f)
