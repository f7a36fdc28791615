-- The greatest end and the least address of pieces: which pieces stand in a list tells them, and their order doesn't.
use Rattle.std.proofs.Common.{◌≡◌, ℕ, ◌+◌, ◌<◌, ◌≤◌, Bool, true, false, cond, max, min, List, [], ◌∷◌, Option, None, Some, length, get_or, drop, map, refl, sym, ap, ◌∙◌, arith, ◌⊎◌, inl, inr}
use Rattle.std.specs.Prelude.{All, Contains}
use Rattle.std.proofs.lemmas.Bool.{cases_lt, false≢true}
use Rattle.std.proofs.lemmas.List.Elements.{All-contains, All-cons, All-nil, All-weaker, All-head, All-tail}
use Rattle.elf_model.specs.Link.LinkerValues.{end_of_pieces, least_of, start_of_pieces}
use Rattle.elf_model.specs.Link.Pieces.{Piece}
use Rattle.elf_model.specs.Link.Placement.{Placed}
use Rattle.elf_model.proofs.Listed.{All-from_contains, Contains-here, Contains-there}
use Rattle.elf_model.proofs.Rests.{rest_at}

-- all that stands in one list stands in the other one
abbrev pub IsWithinList : List Placed → List Placed → Type 0
IsWithinList qs rs = (q : Placed) → Contains qs q → Contains rs q

module _ (test : Piece → Bool) where
  -- a piece of which the test is true doesn't end after an address, or doesn't begin before it
  abbrev pub EndsBy : ℕ → Placed → Type 0
  EndsBy x q = test q.piece ≡ true → q.at + q.piece.size ≤ x

  abbrev pub BeginsFrom : ℕ → Placed → Type 0
  BeginsFrom x q = test q.piece ≡ true → x ≤ q.at

  pub all_end : (qs : List Placed) → All (EndsBy (end_of_pieces test qs)) qs
  all_end [] = All-nil (EndsBy 0)
  all_end (q ∷ qs) = by (test q.piece) refl (all_end qs)
    where
      by :
          (b : Bool) → test q.piece ≡ b → All (EndsBy (end_of_pieces test qs)) qs →
          All (EndsBy (cond b (max (q.at + q.piece.size) (end_of_pieces test qs)) (end_of_pieces test qs))) (q ∷ qs)
      by true e rest =
          let x : ℕ = max (q.at + q.piece.size) (end_of_pieces test qs) in
          All-cons (EndsBy x) q qs (λ t. omega arith)
          (All-weaker (EndsBy (end_of_pieces test qs)) (EndsBy x) (λ r ends t. let l = ends t in omega (arith, l)) qs rest)
      by false e rest = All-cons (EndsBy (end_of_pieces test qs)) q qs (λ t. absurd (false≢true (sym e ∙ t))) rest

  pub end_by : (x : ℕ) (qs : List Placed) → All (EndsBy x) qs → end_of_pieces test qs ≤ x
  end_by x [] all = omega arith
  end_by x (q ∷ qs) all = by (test q.piece) refl (end_by x qs (All-tail (EndsBy x) q qs all))
    where
      by :
          (b : Bool) → test q.piece ≡ b → end_of_pieces test qs ≤ x →
          cond b (max (q.at + q.piece.size) (end_of_pieces test qs)) (end_of_pieces test qs) ≤ x
      by true e rest = let l = All-head (EndsBy x) q qs all e in omega (arith, rest, l)
      by false e rest = rest

  below : (qs rs : List Placed) → IsWithinList qs rs → end_of_pieces test qs ≤ end_of_pieces test rs
  below qs rs within =
      end_by (end_of_pieces test rs) qs
      (All-from_contains (EndsBy (end_of_pieces test rs)) qs (λ q c. All-contains (EndsBy (end_of_pieces test rs)) rs q (all_end rs) (within q c)))

  pub same_end : (qs rs : List Placed) → IsWithinList qs rs → IsWithinList rs qs → end_of_pieces test qs ≡ end_of_pieces test rs
  same_end qs rs there back =
      let l = below qs rs there in
      let g = below rs qs back in
      omega (arith, l, g)

  -- what the least address is
  abbrev pub IsStart : Option ℕ → List Placed → Type 0
  IsStart None qs = All (λ q. test q.piece ≡ true → ⊥) qs
  IsStart (Some a) qs = All (BeginsFrom a) qs × ((q : Placed) × Contains qs q × (test q.piece ≡ true) × (q.at ≡ a))

  pub start_is : (qs : List Placed) → IsStart (start_of_pieces test qs) qs
  start_is [] = All-nil (λ q. test q.piece ≡ true → ⊥)
  start_is (q ∷ qs) = by (test q.piece) refl (start_of_pieces test qs) (start_is qs)
    where
      first : test q.piece ≡ true → (o : Option ℕ) → IsStart o qs → IsStart (Some (least_of q.at o)) (q ∷ qs)
      first e None none = (
        All-cons (BeginsFrom q.at) q qs (λ t. omega arith)
            (All-weaker (λ (r : Placed). test r.piece ≡ true → ⊥) (BeginsFrom q.at) (λ r never t. absurd (never t)) qs none),
        (q, Contains-here qs q, e, refl),
      )
      first e (Some b) start =
          let x : ℕ = min q.at b in (
            All-cons (BeginsFrom x) q qs (λ t. omega arith)
                (All-weaker (BeginsFrom b) (BeginsFrom x) (λ r begins t. let l = begins t in omega (arith, l)) qs start.0),
            least b start.1 (cases_lt q.at b),
          )
        where
          least :
              (c : ℕ) → ((r : Placed) × Contains qs r × (test r.piece ≡ true) × (r.at ≡ c)) → (q.at < c) ⊎ (c ≤ q.at) →
              (r : Placed) × Contains (q ∷ qs) r × (test r.piece ≡ true) × (r.at ≡ min q.at c)
          least c other (inl low) = (q, Contains-here qs q, e, omega (arith, low))
          least c other (inr high) = (other.0, Contains-there q qs other.0 other.1, other.2, (let is = other.3 in omega (arith, high, is)))

      by : (b : Bool) → test q.piece ≡ b → (o : Option ℕ) → IsStart o qs → IsStart (cond b (Some (least_of q.at o)) o) (q ∷ qs)
      by true e o start = first e o start
      by false e None none = All-cons (λ (r : Placed). test r.piece ≡ true → ⊥) q qs (λ t. false≢true (sym e ∙ t)) none
      by false e (Some a) start = (
        All-cons (BeginsFrom a) q qs (λ t. absurd (false≢true (sym e ∙ t))) start.0,
        (start.1.0, Contains-there q qs start.1.0 start.1.1, start.1.2, start.1.3),
      )

  same_starts : (qs rs : List Placed) (o p : Option ℕ) → IsStart o qs → IsStart p rs → IsWithinList qs rs → IsWithinList rs qs → o ≡ p
  same_starts qs rs None None s t there back = refl
  same_starts qs rs None (Some b) s t there back =
      absurd (All-contains (λ (q : Placed). test q.piece ≡ true → ⊥) qs t.1.0 s (back t.1.0 t.1.1) t.1.2)
  same_starts qs rs (Some a) None s t there back =
      absurd (All-contains (λ (q : Placed). test q.piece ≡ true → ⊥) rs s.1.0 t (there s.1.0 s.1.1) s.1.2)
  same_starts qs rs (Some a) (Some b) s t there back =
      let l = All-contains (BeginsFrom a) qs t.1.0 s.0 (back t.1.0 t.1.1) t.1.2 in
      let g = All-contains (BeginsFrom b) rs s.1.0 t.0 (there s.1.0 s.1.1) s.1.2 in
      let m = s.1.3 in
      let n = t.1.3 in
      let same : a ≡ b = omega (arith, l, g, m, n) in
      ap Some same

  pub same_start : (qs rs : List Placed) → IsWithinList qs rs → IsWithinList rs qs → start_of_pieces test qs ≡ start_of_pieces test rs
  same_start qs rs there back = same_starts qs rs (start_of_pieces test qs) (start_of_pieces test rs) (start_is qs) (start_is rs) there back

-- The steps of loops that compute them, over a list of a type of one's own.
abbrev pub further : (Piece → Bool) → ℕ → Placed → ℕ
further test x q = cond (test q.piece) (max x (q.at + q.piece.size)) x

abbrev pub earlier : (Piece → Bool) → Option ℕ → Placed → Option ℕ
earlier test o q = cond (test q.piece) (Some (least_of q.at o)) o

-- the least of what was found and of what is still to be found
abbrev pub either_least : Option ℕ → Option ℕ → Option ℕ
either_least None p = p
either_least (Some a) p = Some (least_of a p)

pub either_none : (o : Option ℕ) → either_least o None ≡ o
either_none None = refl
either_none (Some a) = refl

module _ {X : Type 0} (view : X → Placed) (test : Piece → Bool) (xs : List X) (i : ℕ) (d : X) where
  abbrev left : ℕ → List Placed
  left j = map view (drop j xs)

  left_more : i < length xs → left i ≡ view (get_or xs i d) ∷ left (i + 1)
  left_more within = ap (map view) (rest_at xs i d within)

  pub end_more :
      (x : ℕ) → i < length xs →
      max (further test x (view (get_or xs i d))) (end_of_pieces test (left (i + 1))) ≡ max x (end_of_pieces test (left i))
  end_more x within =
      by (test (view (get_or xs i d)).piece) ∙ sym (ap (λ (qs : List Placed). max x (end_of_pieces test qs)) (left_more within))
    where
      by :
          (b : Bool) →
          max (cond b (max x ((view (get_or xs i d)).at + (view (get_or xs i d)).piece.size)) x) (end_of_pieces test (left (i + 1)))
          ≡ max x (cond b (max ((view (get_or xs i d)).at + (view (get_or xs i d)).piece.size) (end_of_pieces test (left (i + 1)))) (end_of_pieces test (left (i + 1))))
      by true = omega arith
      by false = refl

  pub start_more :
      (o : Option ℕ) → i < length xs →
      either_least (earlier test o (view (get_or xs i d))) (start_of_pieces test (left (i + 1))) ≡ either_least o (start_of_pieces test (left i))
  start_more o within =
      by (test (view (get_or xs i d)).piece) o (start_of_pieces test (left (i + 1)))
      ∙ sym (ap (λ (qs : List Placed). either_least o (start_of_pieces test qs)) (left_more within))
    where
      by :
          (b : Bool) (a rest : Option ℕ) →
          either_least (cond b (Some (least_of (view (get_or xs i d)).at a)) a) rest
          ≡ either_least a (cond b (Some (least_of (view (get_or xs i d)).at rest)) rest)
      by true None rest = refl
      by true (Some a) None = let e : min (view (get_or xs i d)).at a ≡ min a (view (get_or xs i d)).at = omega arith in ap Some e
      by true (Some a) (Some c) =
          let e : min (min (view (get_or xs i d)).at a) c ≡ min a (min (view (get_or xs i d)).at c) = omega arith in ap Some e
      by false a rest = refl
