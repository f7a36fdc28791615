-- Claims on all and on some of a list.
use Rattle.std.proofs.Common.{◌≡◌, ℕ, ◌+◌, ◌<◌, Bool, true, List, [], ◌∷◌, ◌++◌, length, get_or, ap, subst, sym, ◌∙◌}
use Rattle.std.specs.Prelude.{All, Any, Contains, filter}
use Rattle.std.proofs.lemmas.List.Elements.{All-append, All-cons, All-contains, All-head, All-nil, All-tail, All-weaker, Contains-append_left, Contains-append_right}
use Rattle.elf_model.proofs.Finding.{Any-from_contains}
use Rattle.elf_model.proofs.FlatRelocations.{left_of_objects, object_more}
use Rattle.elf_model.proofs.Rests.{Left}
use Rattle.elf_model.proofs.Listed.{All-from_contains, All-parts, Contains-filter, Contains-from_filter, Contains-here, Contains-there}
use Rattle.check_load.specs.Views.{loaded_view}
use Rattle.check_load.specs.declared.loaded.Loaded.{Loaded}
use Rattle.elf_model.specs.Link.Relocation.{relocations_from}
use Rattle.elf_model.specs.Link.Placement.{AreApart, Covers}
use Rattle.elf_model.specs.declared.thing.Thing.{Thing}

-- what is so of one is denied of none
pub meet : {X : Type 0} (P : X → Type 0) (xs : List X) → Any P xs → All (λ x. P x → ⊥) xs → ⊥
meet {X} P xs (i, x, low, is, p) none = subst (λ (y : X). P y → ⊥) is (none i x low) p

-- a thing is apart from others exactly where none of these has one of its addresses
pub apart_from :
    (s : Thing) (ts : List Thing) → ((a : ℕ) → Covers s a → Any (λ t. Covers t a) ts → ⊥) → All (AreApart s) ts
apart_from s ts never =
    All-from_contains (AreApart s) ts (λ t there a here other. never a here (Any-from_contains (λ (u : Thing). Covers u a) ts t there other))

pub never_in : (s : Thing) (ts : List Thing) → All (AreApart s) ts → (a : ℕ) → Covers s a → Any (λ t. Covers t a) ts → ⊥
never_in s ts apart a here some =
    meet (λ (t : Thing). Covers t a) ts some
    (All-weaker (AreApart s) (λ t. Covers t a → ⊥) (λ t h other. h a here other) ts apart)

-- what is so of all that pass a test
pub passing :
    {X : Type 0} (P : X → Type 0) (test : X → Bool) (xs : List X) →
    (All P (filter test xs) → All (λ x. test x ≡ true → P x) xs) × (All (λ x. test x ≡ true → P x) xs → All P (filter test xs))
passing {X} P test xs = (
  λ all. All-from_contains (λ (x : X). test x ≡ true → P x) xs
      (λ x there passes. All-contains P (filter test xs) x all (Contains-filter test xs x there passes)),
  λ all. All-from_contains P (filter test xs)
      (λ x there.
      let both = Contains-from_filter test xs x there in
      All-contains (λ (y : X). test y ≡ true → P y) xs x all both.0 both.1),
)

-- A claim on a whole list, as a claim on what is left of it, one more or a list more at a time.
pub left_all : {X : Type 0} (P : X → Type 0) (xs ys : List X) → ys ≡ xs → Left (All P xs) (All P ys)
left_all {X} P xs ys e = (λ h. subst (All P) (sym e) h, λ h. subst (All P) e h)

module _ {X : Type 0} (P : X → Type 0) (Q : Type 0) (xs : List X) where
  pub left_more : (x : X) (rest : List X) → xs ≡ x ∷ rest → P x → Left Q (All P xs) → Left Q (All P rest)
  left_more x rest parts here q = (
    λ h. All-tail P x rest (subst (All P) parts (q.0 h)),
    λ h. q.1 (subst (All P) (sym parts) (All-cons P x rest here h)),
  )

  pub left_stop : (x : X) (rest : List X) → xs ≡ x ∷ rest → (P x → ⊥) → Left Q (All P xs) → Q → ⊥
  left_stop x rest parts never q h = never (All-head P x rest (subst (All P) parts (q.0 h)))

  pub left_end : xs ≡ [] → Left Q (All P xs) → Q
  left_end none q = q.1 (subst (All P) (sym none) (All-nil P))

  pub part_more : (a rest : List X) → xs ≡ a ++ rest → All P a → Left Q (All P xs) → Left Q (All P rest)
  part_more a rest parts here q = (
    λ h. (All-parts P a rest (subst (All P) parts (q.0 h))).1,
    λ h. q.1 (subst (All P) (sym parts) (All-append P a rest here h)),
  )

  pub part_stop : (a rest : List X) → xs ≡ a ++ rest → (All P a → ⊥) → Left Q (All P xs) → Q → ⊥
  part_stop a rest parts never q h = never (All-parts P a rest (subst (All P) parts (q.0 h))).0

-- Each element of a list is one of another's, of which it is what is left.
abbrev pub Within : {X : Type 0} → List X → List X → Type 0
Within {X} ys xs = (x : X) → Contains ys x → Contains xs x

pub within_same : {X : Type 0} (xs ys : List X) → ys ≡ xs → Within ys xs
within_same {X} xs ys e x there = subst (λ (zs : List X). Contains zs x) e there

module _ {X : Type 0} (whole ys : List X) (inside : Within ys whole) where
  pub within_head : (x : X) (rest : List X) → ys ≡ x ∷ rest → Contains whole x
  within_head x rest parts = inside x (subst (λ (zs : List X). Contains zs x) (sym parts) (Contains-here rest x))

  pub within_tail : (x : X) (rest : List X) → ys ≡ x ∷ rest → Within rest whole
  within_tail x rest parts y there = inside y (subst (λ (zs : List X). Contains zs y) (sym parts) (Contains-there x rest y there))

  pub within_left : (a rest : List X) → ys ≡ a ++ rest → Within a whole
  within_left a rest parts y there = inside y (subst (λ (zs : List X). Contains zs y) (sym parts) (Contains-append_left a rest y there))

  pub within_right : (a rest : List X) → ys ≡ a ++ rest → Within rest whole
  within_right a rest parts y there = inside y (subst (λ (zs : List X). Contains zs y) (sym parts) (Contains-append_right a rest y there))

-- the relocations of the objects from one on are its own and those of the objects behind it
pub object_read :
    (xs : List Loaded) (k : ℕ) (x : Loaded) → k < length xs → x ≡ get_or xs k x →
    left_of_objects loaded_view xs k ≡ relocations_from k (loaded_view x) ++ left_of_objects loaded_view xs (k + 1)
object_read xs k x within is =
    object_more loaded_view xs k x within
    ∙ ap (λ (y : Loaded). relocations_from k (loaded_view y) ++ left_of_objects loaded_view xs (k + 1)) (sym is)
