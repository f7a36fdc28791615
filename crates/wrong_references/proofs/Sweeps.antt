-- One sweep over the fields of an object, in the order of their sections and beginnings, finds each that shares a byte with
-- one before it: with the one that reaches furthest.
use Rattle.std.proofs.Common.{◌≡◌, ◌∙◌, ◌⊎◌, inl, inr, ℕ, zero, suc, ◌+◌, ◌<◌, ◌≤◌, List, [], ◌∷◌, ◌++◌, arith, drop, get_or, length, refl, subst, sym, take}
use Rattle.std.specs.Prelude.{All, AllPairs, Contains}
use Rattle.std.proofs.lemmas.List.{drop_more, take_all, take_more}
use Rattle.std.proofs.lemmas.List.Elements.{All-append, All-contains, All-cons, All-nil, All-weaker, Contains-append_left, Contains-append_right}
use Rattle.elf_model.proofs.Listed.{Contains-here}
use Rattle.std.proofs.lemmas.List.Kept.{AllPairs-cons}
use Rattle.elf_model.proofs.Pairs.{AllPairs-head, AllPairs-nil, AllPairs-tail}
use Rattle.flaws.proofs.Additions.{one_more}
use Rattle.flaws.specs.Flaws.{AreAdded}
use Rattle.wrong_references.specs.Overlaps.{AddsField, AreApart, IsBehind, came}
use Rattle.wrong_references.specs.Sweep.{IsSwept, Reaches}
use Rattle.wrong_references.specs.declared.flaw.ReferenceFlaw.{ReferenceFlaw}
use Rattle.wrong_references.specs.declared.flaw.ReferenceFlaw.TheVariants as flaw
use Rattle.wrong_references.specs.declared.overlaps.FieldAt.{FieldAt}

-- a field that is apart from the one that reaches furthest is apart from what that reaches
apart_from : (x g f : FieldAt) → Reaches x g → IsBehind x f → AreApart x f → AreApart g f
apart_from x g f (inl later) behind apart same n a low c high = let there = behind.0 in omega (arith, later, there, same)
apart_from x g f (inr far) behind apart same n a low c high =
    let one : x.section ≡ f.section = sym far.0 ∙ same in
    let begins = behind.1 one in
    let ends = far.1 in
    apart one n (omega (arith, begins, c)) (omega (arith, ends, low)) c high

reaches_on : (z x g : FieldAt) → Reaches z x → Reaches x g → Reaches z g
reaches_on z x g (inl p) (inl q) = inl (omega (arith, p, q))
reaches_on z x g (inl p) (inr q) = inl (let s = q.0 in omega (arith, p, s))
reaches_on z x g (inr p) (inl q) = inl (let s = p.0 in omega (arith, q, s))
reaches_on z x g (inr p) (inr q) = inr (q.0 ∙ p.0, (let a = p.1 in let b = q.1 in omega (arith, a, b)))

-- neighbours in order are all in order
behind_on : (f g h : FieldAt) → IsBehind f g → IsBehind g h → IsBehind f h
behind_on f g h p q = (
  (let a = p.0 in let b = q.0 in omega (arith, a, b)),
  λ same.
      let a = p.0 in
      let b = q.0 in
      let one : f.section ≡ g.section = omega (arith, a, b, same) in
      let two : g.section ≡ h.section = omega (arith, one, same) in
      let c = p.1 one in
      let d = q.1 two in omega (arith, c, d),
)

abbrev AreNear : List FieldAt → Type 0
AreNear xs = (k : ℕ) (d : FieldAt) → k + 1 < length xs → IsBehind (get_or xs k d) (get_or xs (k + 1) d)

near_on : (x : FieldAt) (xs : List FieldAt) → AreNear (x ∷ xs) → AreNear xs
near_on x xs near k d low =
    let e : suc k + 1 ≡ suc (k + 1) = omega arith in
    subst (λ (n : ℕ). IsBehind (get_or xs k d) (get_or (x ∷ xs) n d)) e (near (suc k) d (omega (arith, low)))

first_behind : (x : FieldAt) (ys : List FieldAt) → AreNear (x ∷ ys) → AllPairs IsBehind ys → All (IsBehind x) ys
first_behind x [] near pairs = All-nil (IsBehind x)
first_behind x (y ∷ ys) near pairs =
    let one : IsBehind x y = near 0 x (omega arith) in
    All-cons (IsBehind x) y ys one (All-weaker (IsBehind y) (IsBehind x) (λ z q. behind_on x y z one q) ys (AllPairs-head IsBehind y ys pairs))

pub ordered_pairs : (xs : List FieldAt) → AreNear xs → AllPairs IsBehind xs
ordered_pairs [] near = AllPairs-nil IsBehind
ordered_pairs (x ∷ xs) near =
    let rest = ordered_pairs xs (near_on x xs near) in
    AllPairs-cons IsBehind x xs (first_behind x xs near rest) rest

-- what is before an element of pairs
before_all : {X : Type 0} (R : X → X → Type 0) (xs : List X) (i : ℕ) (d : X) → AllPairs R xs → i < length xs → All (λ g. R g (get_or xs i d)) (take i xs)
before_all R [] i d pairs low = absurd (omega (arith, low))
before_all R (x ∷ xs) zero d pairs low = All-nil (λ g. R g x)
before_all R (x ∷ xs) (suc i) d pairs low =
    let within : i < length xs = omega (arith, low) in
    All-cons (λ g. R g (get_or xs i d)) x (take i xs) (AllPairs-head R x xs pairs i d within) (before_all R xs i d (AllPairs-tail R x xs pairs) within)

module _ (k : ℕ) (xs : List FieldAt) (before : List ReferenceFlaw) where
  pub swept_behind : (i : ℕ) (x d : FieldAt) (flaws : List ReferenceFlaw) → AllPairs IsBehind xs → IsSwept k xs before i x flaws → i < length xs → IsBehind x (get_or xs i d)
  swept_behind i x d flaws ordered swept low =
      All-contains (λ g. IsBehind g (get_or xs i d)) (take i xs) x (before_all IsBehind xs i d ordered low) swept.there

  -- what one field more adds, by the one that reaches furthest
  abbrev Adds : FieldAt → FieldAt → List ReferenceFlaw → List ReferenceFlaw → Type 0
  Adds x f flaws next = (AreApart x f × (next ≡ flaws)) ⊎ ((AreApart x f → ⊥) × (next ≡ flaws ++ flaw.Overlap k x.entry f.entry ∷ []))

  pub swept_more :
      (i : ℕ) (x z d : FieldAt) (flaws next : List ReferenceFlaw) → AllPairs IsBehind xs → IsSwept k xs before i x flaws → i < length xs →
      Adds x (get_or xs i d) flaws next → (z ≡ x) ⊎ (z ≡ get_or xs i d) → Reaches z x → Reaches z (get_or xs i d) → IsSwept k xs before (i + 1) z next
  swept_more i x z d flaws next ordered swept low adds one old new = record {
    there = subst (λ (ys : List FieldAt). Contains ys z) (sym more) (among one);
    reach =
        subst (All (Reaches z)) (sym more)
        (All-append (Reaches z) (take i xs) (f ∷ []) (λ j e within. reaches_on z x (get_or (take i xs) j e) old (swept.reach j e within))
        (All-cons (Reaches z) f [] new (All-nil (Reaches z))));
    told = one_more (AddsField k) (AreAdded (AddsField k) xs (came [] before)) (drop i xs) (drop (i + 1) xs) (came (take i xs) flaws) (came (take (i + 1) xs) next) swept.told f (drop_more xs i d low) (more, added adds);
  }
    where
      f : FieldAt
      f = get_or xs i d

      more : take (i + 1) xs ≡ take i xs ++ f ∷ []
      more = take_more xs i d low

      among : (z ≡ x) ⊎ (z ≡ f) → Contains (take i xs ++ f ∷ []) z
      among (inl is) = Contains-append_left (take i xs) (f ∷ []) z (subst (Contains (take i xs)) (sym is) swept.there)
      among (inr is) = Contains-append_right (take i xs) (f ∷ []) z (subst (λ (y : FieldAt). Contains (f ∷ []) y) (sym is) (Contains-here [] f))

      added :
          Adds x f flaws next →
          (All (λ g. AreApart g f) (take i xs) × (next ≡ flaws))
          ⊎ ((g : FieldAt) × Contains (take i xs) g × (¬ AreApart g f) × (next ≡ flaws ++ flaw.Overlap k g.entry f.entry ∷ []))
      added (inl well) = inl (λ j e within. apart_from x (get_or (take i xs) j e) f (swept.reach j e within) (swept_behind i x d flaws ordered swept low) well.0, well.1)
      added (inr bad) = inr (x, swept.there, bad.0, bad.1)

  -- the first field, and all of them
  pub swept_first : (x d : FieldAt) → 0 < length xs → x ≡ get_or xs 0 d → IsSwept k xs before 1 x before
  swept_first x d some is = record {
    there = subst (λ (ys : List FieldAt). Contains ys x) (sym more) (Contains-here [] x);
    reach = subst (All (Reaches x)) (sym more) (All-cons (Reaches x) x [] (inr (refl, omega arith)) (All-nil (Reaches x)));
    told =
        one_more (AddsField k) (AreAdded (AddsField k) xs (came [] before)) xs (drop 1 xs) (came [] before) (came (take 1 xs) before) (λ end added. added) x
        (drop_more xs 0 d some ∙ (λ j. sym is j ∷ drop 1 xs)) (more, inl (All-nil (λ g. AreApart g x), refl));
  }
    where
      more : take 1 xs ≡ x ∷ []
      more = take_more xs 0 d some ∙ (λ j. sym is j ∷ [])

  pub swept_all : (i : ℕ) (x : FieldAt) (flaws : List ReferenceFlaw) → length xs ≤ i → IsSwept k xs before i x flaws → AreAdded (AddsField k) xs (came [] before) (came xs flaws)
  swept_all i x flaws far swept = swept.told (came xs flaws) (left (drop i xs) (none i xs far))
    where
      none : (i : ℕ) (ys : List FieldAt) → length ys ≤ i → drop i ys ≡ []
      none zero [] low = refl
      none (suc i) [] low = refl
      none zero (y ∷ ys) low = absurd (omega (arith, low))
      none (suc i) (y ∷ ys) low = none i ys (omega (arith, low))

      left : (ys : List FieldAt) → ys ≡ [] → AreAdded (AddsField k) ys (came (take i xs) flaws) (came xs flaws)
      left ys is = subst (λ (zs : List FieldAt). AreAdded (AddsField k) zs (came (take i xs) flaws) (came xs flaws)) (sym is) (λ j. came (sym (take_all i xs far) j) flaws)
