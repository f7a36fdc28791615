-- Bytes in front of others, stripped one after the other.
use Rattle.std.proofs.Common.{◌≡◌, ℕ, ◌+◌, ◌<◌, ◌≤◌, List, [], ◌∷◌, ◌++◌, Option, Some, None, length, get_or, drop, refl, sym, ◌∙◌, ap, append_assoc, arith, MatchOption}
use Rattle.std.specs.Borrow.{Bor}
use Rattle.std.specs.List.{flat_map}
use Rattle.std.specs.Prelude.{◌==◌, Bool, IsTrue}
use Rattle.std.proofs.lemmas.Bool.Decides.{Decides-eqb}
use Rattle.std.proofs.lemmas.List.{append-nil, append_cancel_left, drop_all}
use Rattle.elf_model.proofs.Rests.{rest_at}
use Rattle.check_tables.specs.Tabled.{Strips}

-- what `strip_prefix` says
pub strips_prefix :
    (front bytes : List ℕ) (r : Option (Bor (List ℕ))) →
    MatchOption r ((rest : List ℕ) → bytes ≡ front ++ rest → ⊥) (λ x. bytes ≡ front ++ x.now) → Strips front bytes r
strips_prefix front bytes None h rest = (λ e. h rest e, λ a. absurd a)
strips_prefix front bytes (Some x) h rest = (
  λ e. append_cancel_left front x.now rest (sym h ∙ e),
  λ e. h ∙ ap (λ (ys : List ℕ). front ++ ys) e,
)

-- two in a row
pub strips_none : (p q bytes : List ℕ) → Strips p bytes None → Strips (p ++ q) bytes None
strips_none p q bytes h rest = (λ e. (h (q ++ rest)).0 (e ∙ append_assoc p q rest), λ a. absurd a)

pub strips_two :
    (p q bytes : List ℕ) (a : Bor (List ℕ)) (r : Option (Bor (List ℕ))) →
    Strips p bytes (Some a) → Strips q a.now r → Strips (p ++ q) bytes r
strips_two p q bytes a r h k rest = (
  λ e. (k rest).0 ((h (q ++ rest)).0 (e ∙ append_assoc p q rest)),
  λ s. (h (q ++ rest)).1 ((k rest).1 s) ∙ sym (append_assoc p q rest),
)

-- a claim on all bytes, as one on what is left of them
abbrev pub StripsTo : List ℕ → List ℕ → List ℕ → List ℕ → Type 0
StripsTo front bytes behind left =
    (rest : List ℕ) → (bytes ≡ front ++ rest → left ≡ behind ++ rest) × (left ≡ behind ++ rest → bytes ≡ front ++ rest)

module _ {X : Type 0} (spell : X → List ℕ) (xs : List X) (i : ℕ) (d : X) (within : i < length xs) (front bytes left : List ℕ) where
  behind_is : flat_map spell (drop i xs) ≡ spell (get_or xs i d) ++ flat_map spell (drop (i + 1) xs)
  behind_is = ap (flat_map spell) (rest_at xs i d within)

  pub strips_more :
      (a : Bor (List ℕ)) → StripsTo front bytes (flat_map spell (drop i xs)) left → Strips (spell (get_or xs i d)) left (Some a) →
      StripsTo front bytes (flat_map spell (drop (i + 1) xs)) a.now
  strips_more a h k rest =
      let s = spell (get_or xs i d) in
      let b = flat_map spell (drop (i + 1) xs) in
      let e : flat_map spell (drop i xs) ++ rest ≡ s ++ (b ++ rest) =
      ap (λ (ys : List ℕ). ys ++ rest) behind_is ∙ append_assoc s b rest in (
        λ p. (k (b ++ rest)).0 ((h rest).0 p ∙ e),
        λ q. (h rest).1 ((k (b ++ rest)).1 q ∙ sym e),
      )

  pub strips_stop :
      StripsTo front bytes (flat_map spell (drop i xs)) left → Strips (spell (get_or xs i d)) left None → Strips front bytes None
  strips_stop h k rest =
      let s = spell (get_or xs i d) in
      let b = flat_map spell (drop (i + 1) xs) in
      let e : flat_map spell (drop i xs) ++ rest ≡ s ++ (b ++ rest) =
      ap (λ (ys : List ℕ). ys ++ rest) behind_is ∙ append_assoc s b rest in (
        λ p. (k (b ++ rest)).0 ((h rest).0 p ∙ e),
        λ a. absurd a,
      )

pub strips_end :
    {X : Type 0} (spell : X → List ℕ) (xs : List X) (i : ℕ) (front bytes : List ℕ) (a : Bor (List ℕ)) → length xs ≤ i →
    StripsTo front bytes (flat_map spell (drop i xs)) a.now → Strips front bytes (Some a)
strips_end spell xs i front bytes a past h rest =
    let e : flat_map spell (drop i xs) ≡ [] = ap (flat_map spell) (drop_all i xs past) in (
      λ p. (h rest).0 p ∙ ap (λ (ys : List ℕ). ys ++ rest) e,
      λ q. (h rest).1 (q ∙ sym (ap (λ (ys : List ℕ). ys ++ rest) e)),
    )

-- bytes that end behind what is stripped
pub strips_whole :
    (front bytes : List ℕ) (a : Bor (List ℕ)) (b : Bool) → Strips front bytes (Some a) →
    (IsTrue b → a.now ≡ []) × (a.now ≡ [] → IsTrue b) → (IsTrue b → bytes ≡ front) × (bytes ≡ front → IsTrue b)
strips_whole front bytes a b h empty = (
  λ t. (h []).1 (empty.0 t) ∙ append-nil front,
  λ e. empty.1 ((h []).0 (e ∙ sym (append-nil front))),
)

pub strips_nothing : (front bytes : List ℕ) → Strips front bytes None → bytes ≡ front → ⊥
strips_nothing front bytes h e = (h []).0 (e ∙ sym (append-nil front))

-- whether bytes are none
pub empty_told : (b : Bool) (xs : List ℕ) → b ≡ (length xs == 0) → (IsTrue b → xs ≡ []) × (xs ≡ [] → IsTrue b)
empty_told b [] e = (λ t. refl, λ r. e)
empty_told b (x ∷ xs) e = (
  λ t. absurd (let z = (Decides-eqb (length (x ∷ xs)) 0).0 (sym e ∙ t) in omega (arith, z)),
  λ r. absurd (let n = ap length r in omega (arith, n)),
)
