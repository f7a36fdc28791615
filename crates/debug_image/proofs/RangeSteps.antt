-- Numbers from 0 on and entries, one more.
use Rattle.std.proofs.Common.{◌≡◌, ℕ, zero, suc, ◌+◌, ◌<◌, ◌++◌, ◌∷◌, [], ◌||◌, Bool, true, false, List, Option, None, Some, get_or, length, map, option_map, refl, ap, ◌∙◌, take, arith}
use Rattle.std.specs.List.{cons_option, filter_map, flat_map, list_any, range_with_len}
use Rattle.std.proofs.lemmas.List.{append-nil, map-append, take_more}
use Rattle.std.proofs.lemmas.List.Elements.{filter_map-append}
use Rattle.std.proofs.lemmas.List.Folds.{list_any-append}
use Rattle.std.proofs.lemmas.Grind.{flat_map-append}
use Rattle.debug_image.specs.Lists.{some_list}

range_suc : (a n : ℕ) → range_with_len a (suc n) ≡ range_with_len a n ++ (a + n) ∷ []
range_suc a zero = let e : a ≡ a + 0 = omega arith in ap (λ (k : ℕ). k ∷ []) e
range_suc a (suc n) =
    let e : a + 1 + n ≡ a + suc n = omega arith in
    ap (λ (xs : List ℕ). a ∷ xs) (range_suc (a + 1) n ∙ ap (λ (k : ℕ). range_with_len (a + 1) n ++ k ∷ []) e)

pub range_more : (n : ℕ) → range_with_len 0 (n + 1) ≡ range_with_len 0 n ++ n ∷ []
range_more n =
    let e : n + 1 ≡ suc n = omega arith in
    let z : 0 + n ≡ n = omega arith in
    ap (range_with_len 0) e ∙ range_suc 0 n ∙ ap (λ (k : ℕ). range_with_len 0 n ++ k ∷ []) z

single : {X Y : Type 0} (f : X → Option Y) (x : X) → filter_map f (x ∷ []) ≡ some_list (f x)
single {X} {Y} f x = by (f x)
  where
    by : (o : Option Y) → cons_option o [] ≡ some_list o
    by None = refl
    by (Some y) = refl

pub filter_map_range : {X : Type 0} (f : ℕ → Option X) (n : ℕ) → filter_map f (range_with_len 0 (n + 1)) ≡ filter_map f (range_with_len 0 n) ++ some_list (f n)
filter_map_range f n =
    ap (filter_map f) (range_more n)
    ∙ filter_map-append f (range_with_len 0 n) (n ∷ [])
    ∙ ap (λ (ys : List _). filter_map f (range_with_len 0 n) ++ ys) (single f n)

pub flat_map_range : {X : Type 0} (f : ℕ → List X) (n : ℕ) → flat_map f (range_with_len 0 (n + 1)) ≡ flat_map f (range_with_len 0 n) ++ f n
flat_map_range f n =
    ap (flat_map f) (range_more n)
    ∙ flat_map-append f (range_with_len 0 n) (n ∷ [])
    ∙ ap (λ (ys : List _). flat_map f (range_with_len 0 n) ++ ys) (append-nil (f n))

pub flat_map_take :
    {X Y : Type 0} (f : X → List Y) (xs : List X) (i : ℕ) (d : X) → i < length xs → flat_map f (take (i + 1) xs) ≡ flat_map f (take i xs) ++ f (get_or xs i d)
flat_map_take f xs i d within =
    ap (flat_map f) (take_more xs i d within)
    ∙ flat_map-append f (take i xs) (get_or xs i d ∷ [])
    ∙ ap (λ (ys : List _). flat_map f (take i xs) ++ ys) (append-nil (f (get_or xs i d)))

pub filter_map_take :
    {X Y : Type 0} (f : X → Option Y) (xs : List X) (i : ℕ) (d : X) → i < length xs →
    filter_map f (take (i + 1) xs) ≡ filter_map f (take i xs) ++ some_list (f (get_or xs i d))
filter_map_take f xs i d within =
    ap (filter_map f) (take_more xs i d within)
    ∙ filter_map-append f (take i xs) (get_or xs i d ∷ [])
    ∙ ap (λ (ys : List _). filter_map f (take i xs) ++ ys) (single f (get_or xs i d))

or_false : (b : Bool) → (b || false) ≡ b
or_false true = refl
or_false false = refl

pub any_take : {X : Type 0} (p : X → Bool) (xs : List X) (i : ℕ) (d : X) → i < length xs → list_any p (take (i + 1) xs) ≡ (list_any p (take i xs) || p (get_or xs i d))
any_take p xs i d within =
    ap (list_any p) (take_more xs i d within)
    ∙ list_any-append p (take i xs) (get_or xs i d ∷ [])
    ∙ ap (λ (b : Bool). list_any p (take i xs) || b) (or_false (p (get_or xs i d)))

pub any_range : {X : Type 0} (p : X → Bool) (f : ℕ → List X) (n : ℕ) → list_any p (flat_map f (range_with_len 0 (n + 1))) ≡ (list_any p (flat_map f (range_with_len 0 n)) || list_any p (f n))
any_range p f n = ap (list_any p) (flat_map_range f n) ∙ list_any-append p (flat_map f (range_with_len 0 n)) (f n)

pub map_some : {X Y : Type 0} (f : X → Y) (xs : List X) (o : Option X) → map f (xs ++ some_list o) ≡ map f xs ++ some_list (option_map f o)
map_some f xs None = map-append f xs []
map_some f xs (Some x) = map-append f xs (x ∷ [])
