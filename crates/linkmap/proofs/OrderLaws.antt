-- Lists in order, by neighbours.
use Rattle.std.proofs.Common.{◌≡◌, ℕ, ◌+◌, ◌<◌, Bool, true, false, List, [], ◌∷◌, map, length, get_or, sym, ap, ◌∙◌, subst, ◌↔◌, arith}
use Rattle.std.proofs.lemmas.List.{length-map, get_or-map}
use Rattle.std.proofs.lemmas.Bool.{false≢true}
use Rattle.elf_model.specs.declared.link_map.ObjectLine.{ObjectLine}
use Rattle.elf_model.specs.Image.MapRecord.{ObjectRow, object_row}
use Rattle.elf_model.specs.Image.MapText.{Ascends, AreNumbered}

-- a list that is seen through a view
module _ {X Y : Type 0} (R : Y → Y → Type 0) (v : X → Y) where
  seen_from : (xs : List X) → Ascends (λ p q. R (v p) (v q)) xs → Ascends R (map v xs)
  seen_from [] h k d l = absurd (omega arith)
  seen_from (x ∷ xs) h k d l =
      let short : k + 1 < length (x ∷ xs) = omega (arith, length-map (x ∷ xs) v) in
      let first = get_or-map v (x ∷ xs) k x d (omega arith) in
      let second = get_or-map v (x ∷ xs) (k + 1) x d (omega arith) in
      subst (λ (w : Y). R w (get_or (map v (x ∷ xs)) (k + 1) d)) (sym first) (subst (λ (w : Y). R (v (get_or (x ∷ xs) k x)) w) (sym second) (h k x short))

  seen_to : (xs : List X) → Ascends R (map v xs) → Ascends (λ p q. R (v p) (v q)) xs
  seen_to xs h k d l =
      let short : k + 1 < length (map v xs) = omega (arith, length-map xs v) in
      let first = get_or-map v xs k d (v d) (omega arith) in
      let second = get_or-map v xs (k + 1) d (v d) (omega arith) in
      subst (λ (w : Y). R w (v (get_or xs (k + 1) d))) first (subst (λ (w : Y). R (get_or (map v xs) k (v d)) w) second (h k (v d) short))

  pub ascends_seen : (xs : List X) → Ascends (λ p q. R (v p) (v q)) xs ↔ Ascends R (map v xs)
  ascends_seen xs = (seen_from xs, seen_to xs)

-- what a test of the list says, of a list that equals it
module _ {X Y : Type 0} (R : Y → Y → Type 0) (v : X → Y) where
  pub told_seen : (b : Bool) (ys xs : List X) → ys ≡ xs → (b ≡ true) ↔ Ascends (λ p q. R (v p) (v q)) ys → (b ≡ true) ↔ Ascends R (map v xs)
  told_seen b ys xs e h =
      let s = ascends_seen R v ys in
      subst (λ (w : List X). (b ≡ true) ↔ Ascends R (map v w)) e (λ t. s.0 (h.0 t), λ a. h.1 (s.1 a))

pub told : {X : Type 0} (R : X → X → Type 0) (b : Bool) (ys xs : List X) → ys ≡ xs → (b ≡ true) ↔ Ascends R ys → (b ≡ true) ↔ Ascends R xs
told {X} R b ys xs e h = subst (λ (w : List X). (b ≡ true) ↔ Ascends R w) e h

-- objects that are numbered, seen through their rows
numbered_from : (xs : List ObjectLine) → ((k : ℕ) (d : ObjectLine) → k < length xs → (get_or xs k d).object ≡ k) → AreNumbered (map object_row xs)
numbered_from [] h k d l = absurd (omega arith)
numbered_from (x ∷ xs) h k d l =
    let short : k < length (x ∷ xs) = omega (arith, length-map (x ∷ xs) object_row) in
    ap (λ (w : ObjectRow). w.object) (get_or-map object_row (x ∷ xs) k x d short) ∙ h k x short

numbered_to : (xs : List ObjectLine) → AreNumbered (map object_row xs) → (k : ℕ) (d : ObjectLine) → k < length xs → (get_or xs k d).object ≡ k
numbered_to xs h k d l =
    ap (λ (w : ObjectRow). w.object) (sym (get_or-map object_row xs k d (object_row d) l)) ∙ h k (object_row d) (omega (arith, length-map xs object_row))

pub told_numbered : (b : Bool) (ys xs : List ObjectLine) → ys ≡ xs → (b ≡ true) ↔ ((k : ℕ) (d : ObjectLine) → k < length ys → (get_or ys k d).object ≡ k) → (b ≡ true) ↔ AreNumbered (map object_row xs)
told_numbered b ys xs e h = subst (λ (w : List ObjectLine). (b ≡ true) ↔ AreNumbered (map object_row w)) e (λ t. numbered_from ys (h.0 t), λ a. h.1 (numbered_to ys a))

pub iff_no : {P : Type 0} (b : Bool) → b ≡ false → (P → b ≡ true) → (false ≡ true) ↔ P
iff_no b e f = (λ t. absurd (false≢true t), λ p. absurd (false≢true (sym e ∙ f p)))
