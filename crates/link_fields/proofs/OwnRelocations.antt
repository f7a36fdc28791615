-- The relocations of one object among those of all.
use Rattle.std.proofs.Common.{◌≡◌, ℕ, zero, suc, ◌+◌, ◌<◌, ◌≤◌, ◌⊎◌, inl, inr, List, [], ◌∷◌, length, Some, sym, subst, ◌∙◌, arith}
use Rattle.std.specs.Prelude.{Contains}
use Rattle.std.specs.List.{slice_get}
use Rattle.std.proofs.lemmas.List.Elements.{All-contains, Contains-append_cases, Contains-append_left, Contains-append_right}
use Rattle.std.proofs.lemmas.Option.{none-some, same_Some}
use Rattle.elf_model.proofs.Listed.{Contains-nil}
use Rattle.elf_model.proofs.RelocationFields.{later_objects, own_object}
use Rattle.elf_model.specs.Link.Loading.{LoadedObject}
use Rattle.elf_model.specs.Link.Relocation.{Relocation, relocations_from, relocations_of}

pub object_is : (n : ℕ) (o : LoadedObject) (r : Relocation) → Contains (relocations_from n o) r → r.object ≡ n
object_is n o r there = All-contains (λ (s : Relocation). s.object ≡ n) (relocations_from n o) r (own_object n o) there

object_behind : (n : ℕ) (os : List LoadedObject) (r : Relocation) → Contains (relocations_of n os) r → n ≤ r.object
object_behind n os r there = All-contains (λ (s : Relocation). n ≤ s.object) (relocations_of n os) r (later_objects n os) there

-- a relocation of the object that has a number is one of this object's
pub own_of :
    (k : ℕ) (os : List LoadedObject) (i : ℕ) (o : LoadedObject) (r : Relocation) → slice_get os i ≡ Some o → r.object ≡ k + i →
    Contains (relocations_of k os) r → Contains (relocations_from (k + i) o) r
own_of k [] i o r at is there = absurd (Contains-nil r there)
own_of k (p ∷ os) zero o r at is there =
    let none : k + zero ≡ k = omega arith in
    by (Contains-append_cases (relocations_from k p) (relocations_of (k + 1) os) r there)
  where
    by : Contains (relocations_from k p) r ⊎ Contains (relocations_of (k + 1) os) r → Contains (relocations_from (k + zero) o) r
    by (inl here) =
        let same : k ≡ k + zero = omega arith in
        subst (λ (n : ℕ). Contains (relocations_from n o) r) same (subst (λ (q : LoadedObject). Contains (relocations_from k q) r) (same_Some p o at) here)
    by (inr more) = let low = object_behind (k + 1) os r more in absurd (omega (arith, low, is))
own_of k (p ∷ os) (suc i) o r at is there =
    let one : k + suc i ≡ k + 1 + i = omega arith in
    by (Contains-append_cases (relocations_from k p) (relocations_of (k + 1) os) r there)
    (λ more. subst (λ (n : ℕ). Contains (relocations_from n o) r) (sym one) (own_of (k + 1) os i o r at (is ∙ one) more))
  where
    by :
        Contains (relocations_from k p) r ⊎ Contains (relocations_of (k + 1) os) r →
        (Contains (relocations_of (k + 1) os) r → Contains (relocations_from (k + suc i) o) r) → Contains (relocations_from (k + suc i) o) r
    by (inl here) behind = let at_k = object_is k p r here in absurd (omega (arith, at_k, is))
    by (inr more) behind = behind more

-- and one of this object's is one of all
pub one_of_all :
    (k : ℕ) (os : List LoadedObject) (i : ℕ) (o : LoadedObject) (r : Relocation) → slice_get os i ≡ Some o →
    Contains (relocations_from (k + i) o) r → Contains (relocations_of k os) r
one_of_all k [] i o r at there = absurd (none-some o at)
one_of_all k (p ∷ os) zero o r at there =
    let none : k + zero ≡ k = omega arith in
    Contains-append_left (relocations_from k p) (relocations_of (k + 1) os) r
    (subst (λ (q : LoadedObject). Contains (relocations_from k q) r) (sym (same_Some p o at))
    (subst (λ (n : ℕ). Contains (relocations_from n o) r) none there))
one_of_all k (p ∷ os) (suc i) o r at there =
    let one : k + suc i ≡ k + 1 + i = omega arith in
    Contains-append_right (relocations_from k p) (relocations_of (k + 1) os) r
    (one_of_all (k + 1) os i o r at (subst (λ (n : ℕ). Contains (relocations_from n o) r) one there))

-- objects have numbers below their count
pub object_low : (k : ℕ) (os : List LoadedObject) (r : Relocation) → Contains (relocations_of k os) r → r.object < k + length os
object_low k [] r there = absurd (Contains-nil r there)
object_low k (p ∷ os) r there = by (Contains-append_cases (relocations_from k p) (relocations_of (k + 1) os) r there) (λ more. object_low (k + 1) os r more)
  where
    by :
        Contains (relocations_from k p) r ⊎ Contains (relocations_of (k + 1) os) r →
        (Contains (relocations_of (k + 1) os) r → r.object < k + 1 + length os) → r.object < k + length (p ∷ os)
    by (inl here) behind = let at_k = object_is k p r here in omega (arith, at_k)
    by (inr more) behind = let low = behind more in omega (arith, low)
