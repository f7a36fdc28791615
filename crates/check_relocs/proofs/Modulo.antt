-- Sums modulo 2 ^ 64, as the code computes them.
use Rattle.std.proofs.Common.{◌≡◌, ℕ, ◌+◌, ◌-◌, ◌/◌, ◌%◌, ◌^◌, refl, sym, ap, ◌∙◌, arith, div-add-mod', lit<}
use Rattle.std.specs.Prelude.{ℤ, pos, ◌+ℤ◌, ◌-ℤ◌}
use Rattle.elf_model.proofs.WrappedValues.{modulo_is}
use Rattle.elf_model.specs.Link.Relocation.{modulo_64, whole_value}
use Rattle.std.proofs.lemmas.Int.{ints}
use Rattle.std.proofs.lemmas.Nat.{mod_below}
use Rattle.std.proofs.Math.Nat.{mod-add-mod}
use Rattle.check_relocs.specs.Kinds.{base_in, formula_view, less_in, terms_view}
use Rattle.check_relocs.specs.declared.kinds.Formula.{Formula}
use Rattle.check_relocs.specs.declared.kinds.Formula.TheVariants.{Symbol, SymbolFromPlace, SymbolFromGot, Slot, SlotFromPlace, GotFromPlace, Size, ThreadOffset, ThreadSlotFromPlace}
use Rattle.check_relocs.specs.declared.values.Terms.{Terms}

less_nothing : (z : ℤ) → z ≡ z -ℤ pos 0
less_nothing z = omega (arith, ints)

-- each formula is a base and the addend, less what it takes away
pub whole_is :
    (f : Formula) (x : Terms) (a : ℤ) → whole_value (formula_view f) (terms_view x a) ≡ (pos (base_in f x) +ℤ a) -ℤ pos (less_in f x)
whole_is Symbol x a = less_nothing (pos x.symbol +ℤ a)
whole_is SymbolFromPlace x a = refl
whole_is SymbolFromGot x a = refl
whole_is Slot x a = less_nothing (pos x.slot +ℤ a)
whole_is SlotFromPlace x a = refl
whole_is GotFromPlace x a = refl
whole_is Size x a = less_nothing (pos x.size +ℤ a)
whole_is ThreadOffset x a = omega (arith, ints)
whole_is ThreadSlotFromPlace x a = refl

pub value_is :
    (f : Formula) (x : Terms) (a : ℤ) (v b y : ℕ) → b ≡ base_in f x % 2 ^ 64 → y ≡ less_in f x % 2 ^ 64 →
    ((n l : ℕ) → b ≡ n % 2 ^ 64 → y ≡ l % 2 ^ 64 → v ≡ modulo_64 ((pos n +ℤ a) -ℤ pos l)) → v ≡ modulo_64 (whole_value (formula_view f) (terms_view x a))
value_is f x a v b y base less is = is (base_in f x) (less_in f x) base less ∙ ap modulo_64 (sym (whole_is f x a))

-- a number less another one
pub less_is : (x n q p : ℕ) → x ≡ n % 2 ^ 64 → q ≡ p % 2 ^ 64 → (x + (2 ^ 64 - q)) % 2 ^ 64 ≡ modulo_64 (pos n -ℤ pos p)
less_is x n q p e f =
    let whole = div-add-mod' p (2 ^ 64) in
    let below = mod_below p (2 ^ 64) (lit< tt) in
    ap (λ (y : ℕ). (y + (2 ^ 64 - q)) % 2 ^ 64) e
    ∙ (mod-add-mod n (2 ^ 64) (2 ^ 64 - q)
    ∙ sym (modulo_is (pos n -ℤ pos p) (p / 2 ^ 64 + 1) (n + (2 ^ 64 - q)) (omega (arith, ints, f))))
