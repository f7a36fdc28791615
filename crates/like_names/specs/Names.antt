-- How names are like each other.
use Rattle.std.specs.Prelude.{◌≡◌, ◌≢◌, ◌⊎◌, ◌≤◌, ℕ, List, [], ◌∷◌, ◌++◌, codes, decimal, length}
use Rattle.like_names.specs.declared.likeness.Likeness.{Likeness}
use Rattle.like_names.specs.declared.likeness.Likeness.TheVariants.{OfC, OfCpp, OneEdit}

-- two bytes are exchanged
abbrev pub IsExchange : List ℕ → List ℕ → Type 0
IsExchange x y = (p : ℕ) × (q : ℕ) × (x ≡ p ∷ q ∷ []) × (y ≡ q ∷ p ∷ [])

-- at most one byte is put for at most one, or two are exchanged
abbrev pub IsEdit : List ℕ → List ℕ → Type 0
IsEdit x y = ((length x ≤ 1) × (length y ≤ 1)) ⊎ IsExchange x y

-- one edit makes one name of the other: they are alike before it and behind it
pub record IsOneEdit (a b : List ℕ) : Type 0 where
  pub front : List ℕ
  pub x : List ℕ
  pub y : List ℕ
  pub back : List ℕ
  pub first : a ≡ front ++ (x ++ back)
  pub second : b ≡ front ++ (y ++ back)
  pub edit : IsEdit x y
  pub two : a ≢ b

-- names begin with two bytes, in one order and in the other, and go on alike
pub record AreExchanged (a b : List ℕ) : Type 0 where
  pub x : List ℕ
  pub y : List ℕ
  pub back : List ℕ
  pub first : a ≡ x ++ back
  pub second : b ≡ y ++ back
  pub exchange : IsExchange x y

-- a name is that of a function of C++ in no namespace, which has the other one in its source: the types of its parameters follow
abbrev pub IsFunctionOf : List ℕ → List ℕ → Type 0
IsFunctionOf name mangled = (parameters : List ℕ) × (mangled ≡ codes "_Z" ++ (decimal (length name) ++ (name ++ parameters)))

-- how a wanted name is like a defined one
abbrev pub IsLike : List ℕ → List ℕ → Likeness → Type 0
IsLike wanted defined OfCpp = IsFunctionOf wanted defined
IsLike wanted defined OfC = IsFunctionOf defined wanted
IsLike wanted defined OneEdit = IsOneEdit wanted defined
