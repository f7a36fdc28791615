-- What bytes and zeros behind them begin with, by their indexes.
use Rattle.std.proofs.Common.{◌≡◌, ℕ, zero, suc, ◌+◌, ◌-◌, ◌<◌, ◌≤◌, ◌⊎◌, inl, inr, Bool, true, false, cond, List, [], ◌∷◌, ◌++◌, length, get_or, take, drop, refl, sym, ap, subst, ◌∙◌, arith, length-take, length-drop}
use Rattle.std.specs.Prelude.{◌↔◌, All, IsTrue, min, nat_eq, replicate, slice_index}
use Rattle.std.specs.List.{prefix_len, starts_with}
use Rattle.std.proofs.lemmas.Bool.{cases_Bool, cases_lt, false_from_ne_true, false≢true}
use Rattle.std.proofs.lemmas.Bool.Decides.{Decides-eqb}
use Rattle.std.proofs.lemmas.List.{drop-append-le, drop-replicate, ext_get_or, get_or-drop, get_or-take, get_or_past, length-replicate, take-append-drop}
use Rattle.std.proofs.lemmas.List.Elements.{All-replicate}
use Rattle.std.proofs.lemmas.List.Folds.{prefix_len-append}
use Rattle.std.proofs.lemmas.Slice.Eq.{starts_is}
use Rattle.judge_model.specs.Fill.{is_prefix}
use Rattle.code_fill.specs.Padded.{padded}

-- a byte of bytes and zeros behind them is that of the bytes
pub padded_at : (bytes : List ℕ) (zeros k : ℕ) → slice_index (padded bytes zeros) k ≡ slice_index bytes k
padded_at [] zero k = refl
padded_at [] (suc zeros) zero = refl
padded_at [] (suc zeros) (suc k) = padded_at [] zeros k
padded_at (b ∷ bytes) zeros zero = refl
padded_at (b ∷ bytes) zeros (suc k) = padded_at bytes zeros k

pub length-padded : (bytes : List ℕ) (zeros : ℕ) → length (padded bytes zeros) ≡ length bytes + zeros
length-padded [] zeros = let n = length-replicate {A = ℕ} zeros 0 in omega (arith, n)
length-padded (b ∷ bytes) zeros = let ih = length-padded bytes zeros in omega (arith, ih)

-- bytes begin with a text where each of its own is theirs
abbrev pub Begins : List ℕ → List ℕ → Type 0
Begins xs text = (length text ≤ length xs) × ((k : ℕ) → k < length text → slice_index xs k ≡ slice_index text k)

pub begins : (xs text : List ℕ) → starts_with nat_eq xs text ≡ true → Begins xs text
begins xs text e =
    let is = (starts_is Decides-eqb xs text (starts_with nat_eq xs text) refl).0 e in
    let n = ap (length {A = ℕ}) is in
    let m = length-take (length text) xs in
    (longer is, λ k low. ap (λ (ys : List ℕ). slice_index ys k) is ∙ front text (drop (length text) xs) k low)
  where
    front : (ys zs : List ℕ) (k : ℕ) → k < length ys → slice_index (ys ++ zs) k ≡ slice_index ys k
    front [] zs k low = absurd (omega (arith, low))
    front (y ∷ ys) zs zero low = refl
    front (y ∷ ys) zs (suc k) low = front ys zs k (omega (arith, low))

    least : (ys zs : List ℕ) → length ys ≤ length (ys ++ zs)
    least [] zs = omega arith
    least (y ∷ ys) zs = let ih = least ys zs in omega (arith, ih)

    longer : xs ≡ text ++ drop (length text) xs → length text ≤ length xs
    longer is = subst (λ (ys : List ℕ). length text ≤ length ys) (sym is) (least text (drop (length text) xs))

pub from_begins : (xs text : List ℕ) → Begins xs text → starts_with nat_eq xs text ≡ true
from_begins xs text (low, same) =
    (starts_is Decides-eqb xs text (starts_with nat_eq xs text) refl).1 (drop (length text) xs)
    (sym (take-append-drop (length text) xs) ∙ ap (λ (ys : List ℕ). ys ++ drop (length text) xs) fronts)
  where
    n : length (take (length text) xs) ≡ length text
    n = let m = length-take (length text) xs in omega (arith, m, low)

    fronts : take (length text) xs ≡ text
    fronts =
        ext_get_or 0 (take (length text) xs) text n
        (λ k within. let l : k < length text = omega (arith, n, within) in get_or-take (length text) xs k 0 l ∙ same k l)

-- by the parts of the text that bytes and zeros are compared with
module _ (bytes text front rest : List ℕ) (zeros n : ℕ) (n_is : n ≤ length bytes) (short : n ≤ length text) (all : (n ≡ length bytes) ⊎ (n ≡ length text)) (front_is : front ≡ take n text) (rest_is : rest ≡ drop n text) where
  front_at : (k : ℕ) → k < n → slice_index front k ≡ slice_index text k
  front_at k low = ap (λ (ys : List ℕ). slice_index ys k) front_is ∙ get_or-take n text k 0 low

  rest_at : (k : ℕ) → slice_index rest k ≡ slice_index text (n + k)
  rest_at k = ap (λ (ys : List ℕ). slice_index ys k) rest_is ∙ get_or-drop n text k 0

  front_length : length front ≡ n
  front_length = let a = ap (length {A = ℕ}) front_is in let b = length-take n text in omega (arith, a, b, short)

  rest_length : length rest + n ≡ length text
  rest_length = let a = ap (length {A = ℕ}) rest_is in let b = length-drop n text in omega (arith, a, b, short)

  pub joined : Begins bytes front → length rest ≤ zeros → ((k : ℕ) → k < length rest → slice_index rest k ≡ 0) → Begins (padded bytes zeros) text
  joined begun few none = (let l = length-padded bytes zeros in let r = rest_length in omega (arith, l, r, few, n_is), at)
    where
      zero_there : (k : ℕ) → n ≤ k → k < length text → (n ≡ length bytes) ⊎ (n ≡ length text) → slice_index bytes k ≡ slice_index text k
      zero_there k high low (inr whole) = absurd (omega (arith, high, low, whole))
      zero_there k high low (inl whole) =
          let e : n + (k - n) ≡ k = omega (arith, high) in
          let r = rest_length in
          get_or_past bytes k 0 (omega (arith, high, whole))
          ∙ sym (subst (λ (j : ℕ). slice_index text j ≡ 0) e (sym (rest_at (k - n)) ∙ none (k - n) (omega (arith, r, high, low))))

      by : (k : ℕ) → k < length text → (k < n) ⊎ (n ≤ k) → slice_index bytes k ≡ slice_index text k
      by k low (inl early) = let f = front_length in begun.1 k (omega (arith, f, early)) ∙ front_at k early
      by k low (inr late) = zero_there k late low all

      at : (k : ℕ) → k < length text → slice_index (padded bytes zeros) k ≡ slice_index text k
      at k low = padded_at bytes zeros k ∙ by k low (cases_lt k n)

  pub parted : Begins (padded bytes zeros) text → Begins bytes front × ((length rest ≤ zeros) × ((k : ℕ) → k < length rest → slice_index rest k ≡ 0))
  parted (low, same) = (
    (let f = front_length in omega (arith, f, n_is), λ k early. let f = front_length in let e : k < n = omega (arith, f, early) in own k (omega (arith, e, short)) ∙ sym (front_at k e)),
    (few all, λ k within. none k within all),
  )
    where
      own : (k : ℕ) → k < length text → slice_index bytes k ≡ slice_index text k
      own k below = sym (padded_at bytes zeros k) ∙ same k below

      few : (n ≡ length bytes) ⊎ (n ≡ length text) → length rest ≤ zeros
      few (inl whole) = let l = length-padded bytes zeros in let r = rest_length in omega (arith, l, r, low, whole)
      few (inr whole) = let r = rest_length in omega (arith, r, whole)

      none : (k : ℕ) → k < length rest → (n ≡ length bytes) ⊎ (n ≡ length text) → slice_index rest k ≡ 0
      none k within (inr whole) = let r = rest_length in absurd (omega (arith, r, whole, within))
      none k within (inl whole) =
          let r = rest_length in
          rest_at k ∙ (sym (own (n + k) (omega (arith, r, within))) ∙ get_or_past bytes (n + k) 0 (omega (arith, whole)))

  -- so the test of the parts is the test of the text
  pub begins_by :
      (b : Bool) → starts_with nat_eq bytes front ≡ true → IsTrue b ↔ ((length rest ≤ zeros) × ((k : ℕ) → k < length rest → slice_index rest k ≡ 0)) →
      b ≡ starts_with nat_eq (padded bytes zeros) text
  begins_by b begun told = by (cases_Bool b)
    where
      by : (b ≡ true) ⊎ (b ≡ false) → b ≡ starts_with nat_eq (padded bytes zeros) text
      by (inl is) = let both = told.0 is in is ∙ sym (from_begins (padded bytes zeros) text (joined (begins bytes front begun) both.0 both.1))
      by (inr never) =
          never
          ∙ sym
          (false_from_ne_true (starts_with nat_eq (padded bytes zeros) text)
          (λ e. false≢true (sym never ∙ told.1 (parted (begins (padded bytes zeros) text e)).1)))

  pub begins_not : starts_with nat_eq bytes front ≡ false → false ≡ starts_with nat_eq (padded bytes zeros) text
  begins_not never =
      sym
      (false_from_ne_true (starts_with nat_eq (padded bytes zeros) text)
      (λ e. false≢true (sym never ∙ from_begins bytes front (parted (begins (padded bytes zeros) text e)).0)))

-- zeros are no prefixes
no_prefixes : (zeros : ℕ) → prefix_len is_prefix (replicate zeros 0) ≡ 0
no_prefixes zero = refl
no_prefixes (suc zeros) = refl

pub prefixes_padded : (bytes : List ℕ) (zeros : ℕ) → prefix_len is_prefix (padded bytes zeros) ≡ prefix_len is_prefix bytes
prefixes_padded [] zeros = no_prefixes zeros
prefixes_padded (b ∷ bytes) zeros = ap (λ (n : ℕ). cond (is_prefix b) (1 + n) 0) (prefixes_padded bytes zeros)

-- what is behind bytes, and behind zeros too
pub behind_bytes : (bytes : List ℕ) (zeros len : ℕ) → len ≤ length bytes → padded (drop len bytes) zeros ≡ drop len (padded bytes zeros)
behind_bytes bytes zeros len low = sym (drop-append-le len bytes (replicate zeros 0) low)

pub behind_zeros : (bytes : List ℕ) (zeros len : ℕ) → length bytes ≤ len → padded [] (zeros - (len - length bytes)) ≡ drop len (padded bytes zeros)
behind_zeros [] zeros len low = let e : zeros - (len - length {A = ℕ} []) ≡ zeros - len = omega arith in ap (λ (n : ℕ). replicate n 0) e ∙ sym (drop-replicate len zeros 0)
behind_zeros (b ∷ bytes) zeros zero low = absurd (omega (arith, low))
behind_zeros (b ∷ bytes) zeros (suc len) low =
    let e : zeros - (suc len - length (b ∷ bytes)) ≡ zeros - (len - length bytes) = omega arith in
    ap (λ (n : ℕ). padded [] n) e ∙ behind_zeros bytes zeros len (omega (arith, low))

-- the lesser of two numbers is one of them
pub lesser : (n a b : ℕ) → n ≡ min a b → (n ≡ a) ⊎ (n ≡ b)
lesser n a b is = by (cases_lt a b)
  where
    by : (a < b) ⊎ (b ≤ a) → (n ≡ a) ⊎ (n ≡ b)
    by (inl low) = inl (omega (arith, is, low))
    by (inr high) = inr (omega (arith, is, high))

-- there is nothing where there are no bytes and no zeros
pub nothing : (bytes : List ℕ) (zeros : ℕ) (b : Bool) → IsTrue b ↔ ((length bytes ≡ 0) × (zeros ≡ 0)) → IsTrue b ↔ (padded bytes zeros ≡ [])
nothing bytes zeros b told = (
  λ e. let both = told.0 e in empty (padded bytes zeros) (let n = length-padded bytes zeros in let l = both.0 in let z = both.1 in omega (arith, n, l, z)),
  λ e. let n = length-padded bytes zeros in let m = ap (length {A = ℕ}) e in told.1 (omega (arith, n, m), omega (arith, n, m)),
)
  where
    empty : (xs : List ℕ) → length xs ≡ 0 → xs ≡ []
    empty [] e = refl
    empty (x ∷ xs) e = absurd (omega (arith, e))
