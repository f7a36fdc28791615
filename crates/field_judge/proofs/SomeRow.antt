-- Claims on some of a list, one more at a time; and on a run of one byte.
use Rattle.std.proofs.Common.{◌≡◌, ℕ, zero, suc, ◌+◌, ◌-◌, ◌<◌, ◌≤◌, List, [], ◌∷◌, length, get_or, drop, Some, sym, subst, arith, length-drop}
use Rattle.std.specs.Prelude.{Any}
use Rattle.std.proofs.lemmas.List.Elements.{All-contains_itself}
use Rattle.elf_model.proofs.Finding.{Any-from_contains}
use Rattle.elf_model.proofs.Rests.{rest_at}
use Rattle.elf_model.specs.Image.RightLink.{byte_at}
use Rattle.judge_model.specs.Memory.{Holds}

pub any_tail : {X : Type 0} (P : X → Type 0) (x : X) (xs : List X) → (P x → ⊥) → Any P (x ∷ xs) → Any P xs
any_tail {X} P x xs never (zero, y, low, is, p) = absurd (never (subst P (sym is) p))
any_tail {X} P x xs never (suc k, y, low, is, p) = (k, y, omega (arith, low), is, p)

pub any_next :
    {X : Type 0} (P : X → Type 0) (xs : List X) (i : ℕ) (d : X) → i < length xs → (P (get_or xs i d) → ⊥) → Any P (drop i xs) → Any P (drop (i + 1) xs)
any_next P xs i d within never some = any_tail P (get_or xs i d) (drop (i + 1) xs) never (subst (Any P) (rest_at xs i d within) some)

pub any_end : {X : Type 0} (P : X → Type 0) (xs : List X) (i : ℕ) → length xs ≤ i → Any P (drop i xs) → ⊥
any_end P xs i past (k, y, low, is, p) = let n = length-drop i xs in omega (arith, n, past, low)

pub any_at : {X : Type 0} (P : X → Type 0) (xs : List X) (i : ℕ) (d : X) → i < length xs → P (get_or xs i d) → Any P xs
any_at P xs i d within p = Any-from_contains P xs (get_or xs i d) (All-contains_itself xs i d within) p

-- memory holds one byte
pub one_held : (image : List ℕ) (at b : ℕ) → byte_at image at ≡ Some b → Holds image at (b ∷ [])
one_held image at b is zero low = let same : at + 0 ≡ at = omega arith in subst (λ (a : ℕ). byte_at image a ≡ Some b) (sym same) is
one_held image at b is (suc k) low = absurd (omega (arith, low))

pub one_read : (image : List ℕ) (at b : ℕ) → Holds image at (b ∷ []) → byte_at image at ≡ Some b
one_read image at b h =
    let same : at + 0 ≡ at = omega arith in subst (λ (a : ℕ). byte_at image a ≡ Some b) same (h 0 (omega arith))

pub none_held : (image : List ℕ) (at : ℕ) → Holds image at []
none_held image at k low = absurd (omega (arith, low))

-- an address that is given
pub place_is : (a o g p n m : ℕ) → a ≡ g → o ≡ p → m ≡ o - n → a + m ≡ g + (p - n)
place_is a o g p n m at offset is = omega (arith, at, offset, is)
