-- Numbers that are rounded up to a multiple, as wrapping arithmetic computes them.
use Rattle.std.proofs.Common.{◌≡◌, ℕ, zero, suc, ◌+◌, ◌-◌, ◌*◌, ◌/◌, ◌%◌, ◌^◌, ◌<◌, sym, ap, ◌∙◌, arith}
use Rattle.std.proofs.Math.Nat.{mod-add-mod, mod_self}
use Rattle.std.proofs.lemmas.Nat.{div-add-mod', div-mul-add, mod-mul-add, mod_below}
use Rattle.elf_model.specs.Link.Placement.{round_up}

-- q times a and r more, rounded up to a multiple of a
round_up_parts : (a q r : ℕ) → r < a → round_up a (q * a + r) ≡ q * a + r + (a - r) % a
round_up_parts a q zero below =
    let less : a - 1 < a = omega (arith, below) in
    let same : q * a + 0 + (a - 1) ≡ q * a + (a - 1) = omega arith in
    let whole : a - 0 ≡ a = omega arith in
    let none : (a - 0) % a ≡ 0 = ap (λ (x : ℕ). x % a) whole ∙ mod_self a in
    ap (λ (x : ℕ). x / a * a) same
    ∙ (ap (λ (x : ℕ). x * a) (div-mul-add q a (a - 1) less)
    ∙ (let e : q * a ≡ q * a + 0 + 0 = omega arith in e ∙ ap (λ (x : ℕ). q * a + 0 + x) (sym none)))
round_up_parts a q (suc r) below =
    let less : r < a = omega (arith, below) in
    let same : q * a + suc r + (a - 1) ≡ (q + 1) * a + r = omega (arith, below) in
    let none : a - suc r ≡ 0 * a + (a - suc r) = omega arith in
    let rest : (a - suc r) % a ≡ a - suc r = ap (λ (x : ℕ). x % a) none ∙ mod-mul-add 0 a (a - suc r) (omega (arith, below)) in
    ap (λ (x : ℕ). x / a * a) same
    ∙ (ap (λ (x : ℕ). x * a) (div-mul-add (q + 1) a r less)
    ∙ (let e : (q + 1) * a ≡ q * a + suc r + (a - suc r) = omega (arith, below) in e ∙ ap (λ (x : ℕ). q * a + suc r + x) (sym rest)))

round_up_is : (a s : ℕ) → 0 < a → round_up a s ≡ s + (a - s % a) % a
round_up_is a s some =
    let whole = div-add-mod' s a in
    ap (round_up a) (sym whole)
    ∙ (round_up_parts a (s / a) (s % a) (mod_below s a some) ∙ ap (λ (x : ℕ). x + (a - s % a) % a) whole)

-- a sum modulo 2 ^ 64, whose second number is rounded up
pub pointer_is_rounded :
    (start size align : ℕ) → 0 < align →
    ((start + size) % 2 ^ 64 + (align - size % align) % align) % 2 ^ 64 ≡ (start + round_up align size) % 2 ^ 64
pointer_is_rounded start size align some =
    let pad : ℕ = (align - size % align) % align in
    let turn : start + size + pad ≡ start + (size + pad) = omega arith in
    mod-add-mod (start + size) (2 ^ 64) pad
    ∙ ap (λ (e : ℕ). e % 2 ^ 64) (turn ∙ ap (λ (e : ℕ). start + e) (sym (round_up_is align size some)))
