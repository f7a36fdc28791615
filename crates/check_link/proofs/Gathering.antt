-- Whether a name begins with a gathering one and a dot, by the bytes in front and the byte behind them.
use Rattle.std.proofs.Common.{◌≡◌, ℕ, ◌<◌, ◌==◌, ◌&&◌, ◌||◌, Bool, true, false, List, [], ◌∷◌, ◌++◌, length, take, drop, refl, sym, ◌∙◌, ap, arith}
use Rattle.std.specs.Prelude.{nat_eq, slice_index}
use Rattle.std.specs.Cmp.{nat_eq_equiv}
use Rattle.std.specs.List.{starts_with}
use Rattle.std.specs.Str.{bytes_eq}
use Rattle.std.proofs.lemmas.Bool.{eqb-true}
use Rattle.elf_model.specs.Link.Pieces.{is_gathered_by}

-- one byte in front of both names, which is the same or not
one_head :
    (b c : Bool) (x y : ℕ) (s e f : Bool) → (x == y) ≡ b → (y == x) ≡ b → (e || s) ≡ (c && f) →
    ((x == y && e) || (y == x && s)) ≡ (c && (x == y && f))
one_head true c x y s e f p q ih = rw (p, q) ih
one_head false true x y s e f p q ih = rw (p, q) refl
one_head false false x y s e f p q ih = rw (p, q) refl

-- the byte behind the gathering name is a dot
dot_behind : (x : ℕ) → (false || (46 == x && true)) ≡ (x == 46 && true)
dot_behind x = ap (λ (b : Bool). b && true) (nat_eq_equiv.symm 46 x)

-- a longer name is gathered where the bytes in front are the gathering name and a dot follows
pub gathered :
    (name g : List ℕ) → length g < length name →
    (bytes_eq name g || starts_with nat_eq name (g ++ 46 ∷ [])) ≡ (slice_index (drop (length g) name) 0 == 46 && bytes_eq (take (length g) name) g)
gathered [] g long = absurd (omega (arith, long))
gathered (x ∷ xs) [] long = dot_behind x
gathered (x ∷ xs) (y ∷ ys) long =
    one_head (x == y) (slice_index (drop (length ys) xs) 0 == 46) x y (starts_with nat_eq xs (ys ++ 46 ∷ [])) (bytes_eq xs ys)
    (bytes_eq (take (length ys) xs) ys) refl (nat_eq_equiv.symm y x) (gathered xs ys (omega (arith, long)))

module _ (name g front rest : List ℕ) (long : length g < length name) (front_is : front ≡ take (length g) name) (rest_is : rest ≡ drop (length g) name) where
  by_parts : is_gathered_by name g ≡ (slice_index rest 0 == 46 && bytes_eq front g)
  by_parts =
      gathered name g long
      ∙ sym
      (ap (λ (bs : List ℕ). slice_index bs 0 == 46 && bytes_eq front g) rest_is
      ∙ ap (λ (bs : List ℕ). slice_index (drop (length g) name) 0 == 46 && bytes_eq bs g) front_is)

  -- where a dot stands behind as many bytes, the name is gathered if those are the gathering name
  pub with_dot : (b : Bool) → b ≡ bytes_eq front g → slice_index rest 0 ≡ 46 → b ≡ is_gathered_by name g
  with_dot b e dot = e ∙ sym (by_parts ∙ ap (λ (n : ℕ). n == 46 && bytes_eq front g) dot)

  -- where no dot stands there, it is not
  pub without_dot : (slice_index rest 0 ≡ 46 → ⊥) → (slice_index rest 0 == 46) ≡ is_gathered_by name g
  without_dot never = by (slice_index rest 0 == 46) refl
    where
      by : (t : Bool) → (slice_index rest 0 == 46) ≡ t → (slice_index rest 0 == 46) ≡ is_gathered_by name g
      by true e = absurd (never (eqb-true (slice_index rest 0) 46 e))
      by false e = e ∙ sym (by_parts ∙ ap (λ (t : Bool). t && bytes_eq front g) e)
