-- Vectors of bytes that stand for themselves, and what they say of a run's first bytes.
use Rattle.std.proofs.Common.{◌≡◌, ℕ, zero, suc, ◌+◌, ◌%◌, ◌^◌, ◌≤◌, Bool, true, false, cond, eqb, List, [], ◌∷◌, map, length, drop, replicate, refl, sym, take, ap, ◌∙◌, subst, arith, eqb-true}
use Rattle.std.specs.Prelude.{All}
use Rattle.std.specs.List.{prefix_len}
use Rattle.std.proofs.lemmas.List.{length-map}
use Rattle.std.proofs.lemmas.List.Elements.{All-nil, All-cons, All-head, All-tail}
use Rattle.std.proofs.lemmas.Simd.{length-zip2, mask_l-mod, length-replicate}
use lib.Lanes.{mask_l, top, zip2}
use Rattle.elf_model.specs.Image.MapText.{is_plain}

-- a lane of a comparison
abbrev lane : (ℕ → ℕ → Bool) → ℕ → ℕ → ℕ
lane p a b = cond (p a b) 255 0

flag : (t : Bool) → ◌≡◌ {A = ℕ} (cond (top 7 (cond t 255 0)) 1 0) 0 → t ≡ false
flag true e = absurd (omega (arith, e))
flag false e = refl

clear : (p : ℕ → ℕ → Bool) (c : ℕ) (xs : List ℕ) → mask_l (map (top 7) (zip2 (lane p) xs (replicate (length xs) c))) ≡ 0 → All (λ x. p x c ≡ false) xs
clear p c [] e = All-nil (λ x. p x c ≡ false)
clear p c (x ∷ xs) e =
    All-cons (λ x. p x c ≡ false) x xs (flag (p x c) (omega (arith, e))) (clear p c xs (omega (arith, e)))

-- no bit of a comparison's mask is set where no lane passes
pub clear_lanes :
    (p : ℕ → ℕ → Bool) (c n : ℕ) (xs : List ℕ) → length xs ≡ n → n ≤ 64 →
    eqb (mask_l (map (top 7) (zip2 (lane p) xs (replicate n c))) % 2 ^ 64) 0 ≡ true → All (λ x. p x c ≡ false) xs
clear_lanes p c n xs long few e =
    let ys = replicate (length xs) c in
    let f : eqb (mask_l (map (top 7) (zip2 (lane p) xs ys)) % 2 ^ 64) 0 ≡ true =
    subst (λ (m : ℕ). eqb (mask_l (map (top 7) (zip2 (lane p) xs (replicate m c))) % 2 ^ 64) 0 ≡ true) (sym long) e in
    let same = length-zip2 (lane p) xs ys (sym (length-replicate (length xs) c)) in
    let small = mask_l-mod (map (top 7) (zip2 (lane p) xs ys)) 64 (omega (arith, length-map (zip2 (lane p) xs ys) (top 7), same, long, few)) in
    clear p c xs (sym small ∙ eqb-true _ _ f)

-- the same with the lanes of the vector behind
clear_behind : (p : ℕ → ℕ → Bool) (c : ℕ) (xs : List ℕ) → mask_l (map (top 7) (zip2 (lane p) (replicate (length xs) c) xs)) ≡ 0 → All (λ x. p c x ≡ false) xs
clear_behind p c [] e = All-nil (λ x. p c x ≡ false)
clear_behind p c (x ∷ xs) e =
    All-cons (λ x. p c x ≡ false) x xs (flag (p c x) (omega (arith, e))) (clear_behind p c xs (omega (arith, e)))

pub clear_lanes_behind :
    (p : ℕ → ℕ → Bool) (c n : ℕ) (xs : List ℕ) → length xs ≡ n → n ≤ 64 →
    eqb (mask_l (map (top 7) (zip2 (lane p) (replicate n c) xs)) % 2 ^ 64) 0 ≡ true → All (λ x. p c x ≡ false) xs
clear_lanes_behind p c n xs long few e =
    let ys = replicate (length xs) c in
    let f : eqb (mask_l (map (top 7) (zip2 (lane p) ys xs)) % 2 ^ 64) 0 ≡ true =
    subst (λ (m : ℕ). eqb (mask_l (map (top 7) (zip2 (lane p) (replicate m c) xs)) % 2 ^ 64) 0 ≡ true) (sym long) e in
    let same = length-zip2 (lane p) ys xs (length-replicate (length xs) c) in
    let small = mask_l-mod (map (top 7) (zip2 (lane p) ys xs)) 64 (omega (arith, length-map (zip2 (lane p) ys xs) (top 7), same, length-replicate (length xs) c, long, few)) in
    clear_behind p c xs (sym small ∙ eqb-true _ _ f)

-- bytes that stand for themselves in front of others
pub front_plain : (n : ℕ) (xs : List ℕ) → n ≤ length xs → All (λ b. is_plain b ≡ true) (take n xs) → prefix_len is_plain xs ≡ n + prefix_len is_plain (drop n xs)
front_plain zero xs within all = omega arith
front_plain (suc n) [] within all = absurd (omega (arith, within))
front_plain (suc n) (x ∷ xs) within all =
    let first = All-head (λ b. is_plain b ≡ true) x (take n xs) all in
    let rest = front_plain n xs (omega (arith, within)) (All-tail (λ b. is_plain b ≡ true) x (take n xs) all) in
    ap (λ (t : Bool). cond t (1 + prefix_len is_plain xs) 0) first ∙ omega (arith, rest)
