-- One step of a sweep over things in the order of their addresses.
use Rattle.std.proofs.Common.{◌≡◌, ℕ, suc, ◌+◌, ◌<◌, ◌≤◌, List, ◌∷◌, length, get_or, sym, subst, arith, drop, drop-cons, length-drop, inl, inr}
use Rattle.std.specs.Prelude.{All, AllPairs}
use Rattle.std.proofs.lemmas.List.Elements.{All-cons, All-nil, All-head, All-tail, All-from_get_or}
use Rattle.std.proofs.lemmas.List.{get_or-drop, drop_all}
use Rattle.std.proofs.lemmas.List.Kept.{AllPairs-cons}
use Rattle.elf_model.specs.Link.Placement.{AreApart}
use Rattle.elf_model.specs.declared.thing.Thing.{Thing}
use Rattle.std.specs.List.Sorted.{IsNonDecreasingBy}
use Rattle.check_places.specs.Sweeps.{Above, Follows, Overlaps}

pub AllPairs-head : {X : Type 0} (R : X → X → Type 0) (x : X) (xs : List X) → AllPairs R (x ∷ xs) → All (R x) xs
AllPairs-head R x xs pairs k d within = pairs 0 (suc k) d (omega arith) (omega (arith, within))

pub AllPairs-tail : {X : Type 0} (R : X → X → Type 0) (x : X) (xs : List X) → AllPairs R (x ∷ xs) → AllPairs R xs
AllPairs-tail R x xs pairs i j d low high = pairs (suc i) (suc j) d (omega (arith, low)) (omega (arith, high))

-- a nonempty thing ends before each nonempty thing apart from it that begins no lower
behind_of_apart : (t u : Thing) → 0 < t.size → 0 < u.size → t.at ≤ u.at → AreApart t u → t.at + t.size ≤ u.at
behind_of_apart t u some other order apart =
    let both : u.at < t.at + t.size → ⊥ = λ low. apart u.at (order, low) (omega arith, omega (arith, other)) in omega (arith, both)

apart_of_behind : (t u : Thing) → (0 < u.size → t.at + t.size ≤ u.at) → AreApart t u
apart_of_behind t u behind a ct cu = let b : t.at + t.size ≤ u.at = behind (omega (arith, cu)) in omega (arith, ct, cu, b)

apart_of_empty : (t u : Thing) → t.size ≡ 0 → AreApart t u
apart_of_empty t u e a ct cu = omega (arith, e, ct)

abbrev Rest : ℕ → List Thing → Type 0
Rest x ts = Above x ts × AllPairs AreApart ts

-- a nonempty thing in front
pub sweep_thing :
    (Q : Type 0) (x : ℕ) (t : Thing) (ts : List Thing) → 0 < t.size → x ≤ t.at → All (λ u. t.at ≤ u.at) ts →
    (Q → Rest x (t ∷ ts)) × (Rest x (t ∷ ts) → Q) →
    (Q → Rest (t.at + t.size) ts) × (Rest (t.at + t.size) ts → Q)
sweep_thing Q x t ts some low order q = (
  λ h.
      let r = q.0 h in
      let apart = AllPairs-head AreApart t ts r.1 in (
        λ k d within other. behind_of_apart t (get_or ts k d) some other (order k d within) (apart k d within),
        AllPairs-tail AreApart t ts r.1,
      ),
  λ r. q.1 (
    All-cons (λ (u : Thing). 0 < u.size → x ≤ u.at) t ts (λ s. low) (λ k d within other. let b = r.0 k d within other in omega (arith, b, low)),
    AllPairs-cons AreApart t ts (λ k d within. apart_of_behind t (get_or ts k d) (r.0 k d within)) r.1,
  ),
)

-- an empty thing in front
pub sweep_empty :
    (Q : Type 0) (x : ℕ) (t : Thing) (ts : List Thing) → t.size ≡ 0 →
    (Q → Rest x (t ∷ ts)) × (Rest x (t ∷ ts) → Q) →
    (Q → Rest x ts) × (Rest x ts → Q)
sweep_empty Q x t ts empty q = (
  λ h. let r = q.0 h in (All-tail (λ (u : Thing). 0 < u.size → x ≤ u.at) t ts r.0, AllPairs-tail AreApart t ts r.1),
  λ r. q.1 (
    All-cons (λ (u : Thing). 0 < u.size → x ≤ u.at) t ts (λ s. omega (arith, s, empty)) r.0,
    AllPairs-cons AreApart t ts (λ k d within. apart_of_empty t (get_or ts k d) empty) r.1,
  ),
)

-- the things from place i on, the first apart
pub front : (things : List Thing) (i : ℕ) (d : Thing) → i < length things →
    drop i things ≡ get_or things i d ∷ drop (i + 1) things
front things i d within = let e : i + 1 ≡ suc i = omega arith in rw e (drop-cons things i d within)

pub rises : (things : List Thing) (i : ℕ) (d : Thing) → IsNonDecreasingBy (λ (t : Thing). t.at) things →
    All (λ u. (get_or things i d).at ≤ u.at) (drop (i + 1) things)
rises things i d rising =
    All-from_get_or (λ (u : Thing). (get_or things i d).at ≤ u.at) (drop (i + 1) things) d
    (λ k below.
    let n = length-drop (i + 1) things in
    let e = get_or-drop (i + 1) things k d in
    subst (λ (u : Thing). (get_or things i d).at ≤ u.at) (sym e) (rising i ((i + 1) + k) d (omega arith) (omega (arith, n, below))))

abbrev pub Whole : Type 0 → ℕ → List Thing → Type 0
Whole Q x ts = (Q → Rest x ts) × (Rest x ts → Q)

pub sweep_step :
    (Q : Type 0) (x next : ℕ) (things : List Thing) (i : ℕ) (d : Thing) →
    IsNonDecreasingBy (λ (t : Thing). t.at) things → i < length things → Follows x (get_or things i d) next →
    Whole Q x (drop i things) → Whole Q next (drop (i + 1) things)
sweep_step Q x next things i d rising within follows q =
    by_size follows (subst (Whole Q x) (front things i d within) q)
  where
    by_size :
        Follows x (get_or things i d) next →
        Whole Q x (get_or things i d ∷ drop (i + 1) things) →
        Whole Q next (drop (i + 1) things)
    by_size (inl some) h =
        subst (λ (y : ℕ). Whole Q y (drop (i + 1) things)) (sym some.2)
        (sweep_thing Q x (get_or things i d) (drop (i + 1) things) some.0 some.1 (rises things i d rising) h)
    by_size (inr none) h =
        subst (λ (y : ℕ). Whole Q y (drop (i + 1) things)) (sym none.1)
        (sweep_empty Q x (get_or things i d) (drop (i + 1) things) none.0 h)

pub sweep_stops :
    (Q : Type 0) (x : ℕ) (things : List Thing) (i : ℕ) (d : Thing) → i < length things → Overlaps x (get_or things i d) →
    Whole Q x (drop i things) → Q → ⊥
sweep_stops Q x things i d within over q h =
    let r = subst (Rest x) (front things i d within) (q.0 h) in
    let a = All-head (λ (u : Thing). 0 < u.size → x ≤ u.at) (get_or things i d) (drop (i + 1) things) r.0 over.0 in
    omega (arith, a, over.1)

pub sweep_ends : (Q : Type 0) (x : ℕ) (things : List Thing) (i : ℕ) → length things ≤ i → Whole Q x (drop i things) → Q
sweep_ends Q x things i behind q =
    q.1 (subst (Rest x) (sym (drop_all i things behind)) (All-nil (λ (u : Thing). 0 < u.size → x ≤ u.at), λ j k d low high. absurd (omega (arith, high))))

pub AreApart-symmetric : (t u : Thing) → AreApart t u → AreApart u t
AreApart-symmetric t u apart a cu ct = apart a ct cu
