-- Functions of the numbers of a range, as lists.
use Rattle.std.proofs.Common.{◌≡◌, ℕ, zero, suc, ◌+◌, ◌-◌, ◌<◌, ◌≤◌, List, ◌∷◌, ◌++◌, refl, sym, ◌∙◌, ap, arith}
use Rattle.std.specs.Prelude.{map, replicate}
use Rattle.std.specs.List.{range_with_len}

-- two functions that agree on the range
pub map_agree :
    (f g : ℕ → ℕ) (x n : ℕ) → ((a : ℕ) → x ≤ a → a < x + n → f a ≡ g a) →
    map f (range_with_len x n) ≡ map g (range_with_len x n)
map_agree f g x zero same = refl
map_agree f g x (suc n) same =
    let here : f x ≡ g x = same x (omega arith) (omega arith) in
    let rest = map_agree f g (x + 1) n (λ a low high. same a (omega (arith, low)) (omega (arith, high))) in
    ap (λ (b : ℕ). b ∷ map f (range_with_len (x + 1) n)) here ∙ ap (λ (bs : List ℕ). g x ∷ bs) rest

-- one range behind another
pub map_joined :
    (f : ℕ → ℕ) (x n m : ℕ) →
    map f (range_with_len x n) ++ map f (range_with_len (x + n) m) ≡ map f (range_with_len x (n + m))
map_joined f x zero m =
    let e : x + 0 ≡ x = omega arith in
    let n : m ≡ 0 + m = omega arith in
    ap (λ (y : ℕ). map f (range_with_len y m)) e ∙ ap (λ (k : ℕ). map f (range_with_len x k)) n
map_joined f x (suc n) m =
    let e : x + suc n ≡ (x + 1) + n = omega arith in
    let sum : suc (n + m) ≡ suc n + m = omega arith in
    ap (λ (bs : List ℕ). f x ∷ bs)
    (ap (λ (y : ℕ). map f (range_with_len (x + 1) n) ++ map f (range_with_len y m)) e ∙ map_joined f (x + 1) n m)
    ∙ ap (λ (k : ℕ). map f (range_with_len x k)) sum

-- the same from x to y and from y to z
pub map_between :
    (f : ℕ → ℕ) (x y z : ℕ) → x ≤ y → y ≤ z →
    map f (range_with_len x (y - x)) ++ map f (range_with_len y (z - y)) ≡ map f (range_with_len x (z - x))
map_between f x y z low high =
    let e : x + (y - x) ≡ y = omega (arith, low) in
    let n : (y - x) + (z - y) ≡ z - x = omega (arith, low, high) in
    ap (λ (k : ℕ). map f (range_with_len x (y - x)) ++ map f (range_with_len k (z - y))) (sym e)
    ∙ (map_joined f x (y - x) (z - y) ∙ ap (λ (k : ℕ). map f (range_with_len x k)) n)

-- numbers counted from another one
pub map_shifted :
    (f : ℕ → ℕ) (b x n : ℕ) → map (λ i. f (b + i)) (range_with_len x n) ≡ map f (range_with_len (b + x) n)
map_shifted f b x zero = refl
map_shifted f b x (suc n) =
    let e : b + (x + 1) ≡ (b + x) + 1 = omega arith in
    ap (λ (bs : List ℕ). f (b + x) ∷ bs)
    (map_shifted f b (x + 1) n ∙ ap (λ (y : ℕ). map f (range_with_len y n)) e)

-- one value everywhere
pub map_constant :
    (f : ℕ → ℕ) (c x n : ℕ) → ((a : ℕ) → x ≤ a → a < x + n → f a ≡ c) → replicate n c ≡ map f (range_with_len x n)
map_constant f c x zero same = refl
map_constant f c x (suc n) same =
    let here : f x ≡ c = same x (omega arith) (omega arith) in
    let rest = map_constant f c (x + 1) n (λ a low high. same a (omega (arith, low)) (omega (arith, high))) in
    ap (λ (bs : List ℕ). c ∷ bs) rest ∙ ap (λ (b : ℕ). b ∷ map f (range_with_len (x + 1) n)) (sym here)
