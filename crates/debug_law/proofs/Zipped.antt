-- Two views of one list make up one of both.
use Rattle.std.proofs.Common.{◌≡◌, List, [], ◌∷◌, map, refl, sym}
use Rattle.std.specs.Prelude.{All}
use Rattle.std.proofs.lemmas.List.Elements.{All-head, All-tail}

same_head : {X : Type 0} (x y : X) (xs ys : List X) → x ∷ xs ≡ y ∷ ys → x ≡ y
same_head x y xs ys e = cc

same_tail : {X : Type 0} (x y : X) (xs ys : List X) → x ∷ xs ≡ y ∷ ys → xs ≡ ys
same_tail x y xs ys e = cc

nil_cons : {X : Type 0} (x : X) (xs : List X) → [] ≡ x ∷ xs → ⊥
nil_cons x xs e = cc

pub zipped :
    {X Y A B C : Type 0} (mk : A → B → C) (f : X → A) (g : X → B) (p : Y → A) (q : Y → B) (xs : List X) (ys : List Y) → map f xs ≡ map p ys →
    map g xs ≡ map q ys → map (λ x. mk (f x) (g x)) xs ≡ map (λ y. mk (p y) (q y)) ys
zipped mk f g p q [] [] d e = refl
zipped mk f g p q [] (y ∷ ys) d e = absurd (nil_cons (p y) (map p ys) d)
zipped mk f g p q (x ∷ xs) [] d e = absurd (nil_cons (f x) (map f xs) (sym d))
zipped mk f g p q (x ∷ xs) (y ∷ ys) d e =
    let a = same_head (f x) (p y) (map f xs) (map p ys) d in
    let b = same_head (g x) (q y) (map g xs) (map q ys) e in
    let rest = zipped mk f g p q xs ys (same_tail (f x) (p y) (map f xs) (map p ys) d) (same_tail (g x) (q y) (map g xs) (map q ys) e) in
    λ i. mk (a i) (b i) ∷ rest i

-- what leaves each element as it is
pub unchanged : {X : Type 0} (f : X → X) (xs : List X) → All (λ x. f x ≡ x) xs → map f xs ≡ xs
unchanged f [] same = refl
unchanged f (x ∷ xs) same = λ i. All-head (λ x. f x ≡ x) x xs same i ∷ unchanged f xs (All-tail (λ x. f x ≡ x) x xs same) i
