-- Each formula is a base and the addend, less what it takes away.
use Rattle.std.proofs.Common.{◌≡◌, ◌≢◌, ℕ, suc, ◌-◌, ◌*◌, ◌^◌, ◌<◌, None, refl, ap, sym, subst, arith, lit<}
use Rattle.std.specs.Prelude.{ℤ, pos, negsuc, ◌+ℤ◌, ◌-ℤ◌}
use Rattle.std.proofs.lemmas.Int.{ints}
use Rattle.std.proofs.lemmas.Nat.{mod_below}
use Rattle.elf_model.proofs.WrappedValues.{modulo_is}
use Rattle.elf_model.specs.Link.Relocation.{modulo_64}
use Rattle.elf_model.specs.Link.Slots.{slot_kind_of}
use Rattle.judge_model.specs.Fields.{Letters, whole_value}
use Rattle.field_judge.specs.Kinds.{formula_view}
use Rattle.field_judge.specs.Letters.{base_in, less_in}
use Rattle.field_judge.specs.declared.kinds.Formula.{Formula}
use Rattle.field_judge.specs.declared.kinds.Formula.TheVariants as formula

less_nothing : (z : ℤ) → z ≡ z -ℤ pos 0
less_nothing z = omega (arith, ints)

pub whole_is :
    (f : Formula) (x : Letters) (pointer : ℕ) → x.t ≡ pos x.s -ℤ pos pointer →
    whole_value (formula_view f) x ≡ (pos (base_in f x) +ℤ x.a) -ℤ pos (less_in f x pointer)
whole_is formula.Symbol x pointer t = less_nothing (pos x.s +ℤ x.a)
whole_is formula.SymbolFromPlace x pointer t = refl
whole_is formula.SymbolFromGot x pointer t = refl
whole_is formula.Slot x pointer t = refl
whole_is formula.SlotFromPlace x pointer t = refl
whole_is formula.GotFromPlace x pointer t = refl
whole_is formula.Size x pointer t = less_nothing (pos x.z +ℤ x.a)
whole_is formula.ThreadOffset x pointer t = omega (arith, ints, t)
whole_is formula.ThreadSlotFromPlace x pointer t = refl

-- a formula with a slot adds the addend to the slot's address
pub base_slot : (f : Formula) (x : Letters) → slot_kind_of (formula_view f) ≢ None → base_in f x ≡ x.slot
base_slot formula.Slot x slot = refl
base_slot formula.SlotFromPlace x slot = refl
base_slot formula.ThreadSlotFromPlace x slot = refl
base_slot formula.Symbol x slot = absurd (slot refl)
base_slot formula.SymbolFromPlace x slot = absurd (slot refl)
base_slot formula.SymbolFromGot x slot = absurd (slot refl)
base_slot formula.GotFromPlace x slot = absurd (slot refl)
base_slot formula.Size x slot = absurd (slot refl)
base_slot formula.ThreadOffset x slot = absurd (slot refl)

-- a whole number modulo 2 ^ 64 is below it
pub modulo_low : (v : ℤ) → modulo_64 v < 2 ^ 64
modulo_low (pos n) =
    subst (λ (m : ℕ). m < 2 ^ 64) (sym (modulo_is (pos n) 0 n (omega (arith, ints)))) (mod_below n (2 ^ 64) (lit< tt))
modulo_low (negsuc n) =
    let more : ℕ = suc n * 2 ^ 64 - suc n in
    subst (λ (m : ℕ). m < 2 ^ 64) (sym (modulo_is (negsuc n) (suc n) more (omega (arith, ints)))) (mod_below more (2 ^ 64) (lit< tt))

-- what a formula takes away depends on the field's and the GOT's address alone
pub less_same :
    (f : Formula) (x y : Letters) (pointer : ℕ) → x.p ≡ y.p → x.got ≡ y.got → less_in f x pointer ≡ less_in f y pointer
less_same formula.Symbol x y pointer p got = refl
less_same formula.SymbolFromPlace x y pointer p got = p
less_same formula.SymbolFromGot x y pointer p got = got
less_same formula.Slot x y pointer p got = got
less_same formula.SlotFromPlace x y pointer p got = p
less_same formula.GotFromPlace x y pointer p got = p
less_same formula.Size x y pointer p got = refl
less_same formula.ThreadOffset x y pointer p got = refl
less_same formula.ThreadSlotFromPlace x y pointer p got = p

-- an addend of nothing
pub nothing_added : (v p : ℕ) → modulo_64 ((pos v +ℤ pos 0) -ℤ pos p) ≡ modulo_64 (pos v -ℤ pos p)
nothing_added v p = let same : (pos v +ℤ pos 0) -ℤ pos p ≡ pos v -ℤ pos p = omega (arith, ints) in ap modulo_64 same
