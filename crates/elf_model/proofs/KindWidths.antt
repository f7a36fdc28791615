-- Each kind's field has 1 to 8 bytes.
use Rattle.std.proofs.Common.{◌≡◌, ℕ, ◌<◌, ◌≤◌, ◌==◌, ◌&&◌, Bool, true, false, cond, List, [], ◌∷◌, Option, Some, None, nat_le, nat_lt, refl, subst, sym, arith}
use Rattle.std.specs.Prelude.{IfSome, find}
use Rattle.std.proofs.lemmas.Bool.{and_parts}
use Rattle.std.proofs.lemmas.Bool.Decides.{nat_tests}
use Rattle.elf_model.specs.Link.Relocation.{Kind, kind_of, kinds}

is_narrow : Kind → Bool
is_narrow k = nat_lt 0 k.width && nat_le k.width 8

narrow_all : List Kind → Bool
narrow_all [] = true
narrow_all (k ∷ ks) = is_narrow k && narrow_all ks

found_narrow : (p : Kind → Bool) (ks : List Kind) → narrow_all ks ≡ true → IfSome (find p ks) (λ k. is_narrow k ≡ true)
unfolding narrow_all
found_narrow p [] e = tt
found_narrow p (k ∷ ks) e =
    let two = and_parts (is_narrow k) (narrow_all ks) e in
    elim (p k) as (λ b. IfSome (cond b (Some k) (find p ks)) (λ j. is_narrow j ≡ true)) [
      | true ↦ two.0
      | false ↦ found_narrow p ks two.1
    ]

kind_narrow : (n : ℕ) → IfSome (kind_of n) (λ k. is_narrow k ≡ true)
unfolding kind_of narrow_all is_narrow
kind_narrow n = found_narrow (λ k. k.number == n) kinds refl

bounds : (k : Kind) → is_narrow k ≡ true → (0 < k.width) × (k.width ≤ 8)
unfolding is_narrow
bounds k e = (grind (arith, nat_tests), grind (arith, nat_tests))

pub kind_width : (n : ℕ) (o : Option Kind) → o ≡ kind_of n → IfSome o (λ k. (0 < k.width) × (k.width ≤ 8))
kind_width n o e = by o (subst (λ (q : Option Kind). IfSome q (λ k. is_narrow k ≡ true)) (sym e) (kind_narrow n))
  where
    by : (q : Option Kind) → IfSome q (λ k. is_narrow k ≡ true) → IfSome q (λ k. (0 < k.width) × (k.width ≤ 8))
    by None h = tt
    by (Some k) h = bounds k h
