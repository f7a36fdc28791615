-- Sets of names.
use Rattle.std.proofs.Common.{◌≡◌, ℕ, Bool, true, false, cond, ◌||◌, List, [], ◌∷◌, ◌++◌, map, refl, sym, ◌∙◌, ap, subst, append_assoc}
use Rattle.std.specs.List.{list_any}
use Rattle.std.specs.Str.{bytes_eq}
use Rattle.std.proofs.lemmas.Bool.{or_left}
use Rattle.std.proofs.lemmas.List.{append-nil, map-append}
use Rattle.std.proofs.lemmas.List.Folds.{list_any-append}
use Rattle.std.proofs.lemmas.Slice.Eq.{bytes_eq-Decides}
use Rattle.elf_model.specs.declared.name.Name.{Name}
use Rattle.elf_model.proofs.LoadingBounds.{by_case}
use Rattle.elf_model.proofs.SameOutput.{both_ways_equal}
use Rattle.search.specs.Names.{Begins, is_among, with_name}

pub among_map : (keys : List Name) (n : List ℕ) → list_any (λ k. bytes_eq n k.0.now) keys ≡ is_among (map (λ k. k.0.now) keys) n
among_map [] n = refl
among_map (k ∷ ks) n = ap (λ (b : Bool). bytes_eq n k.0.now || b) (among_map ks n)

-- the names after an insertion
pub inserted : (keys : List Name) (name : Name) →
    map (λ k. k.0.now) (cond (list_any (λ k. bytes_eq name.0.now k.0.now) keys) keys (keys ++ name ∷ [])) ≡ with_name (map (λ k. k.0.now) keys) name.0.now
inserted keys name =
    elim (list_any (λ k. bytes_eq name.0.now k.0.now) keys) as (λ b. map (λ k. k.0.now) (cond b keys (keys ++ name ∷ [])) ≡ cond b (map (λ k. k.0.now) keys) (map (λ k. k.0.now) keys ++ name.0.now ∷ [])) [
      | true ↦ refl
      | false ↦ map-append (λ k. k.0.now) keys (name ∷ [])
    ]
    ∙ ap (λ (b : Bool). cond b (map (λ k. k.0.now) keys) (map (λ k. k.0.now) keys ++ name.0.now ∷ [])) (among_map keys name.0.now)

same_both : (a b : List ℕ) → bytes_eq a b ≡ bytes_eq b a
same_both a b = both_ways_equal (bytes_eq a b) (bytes_eq b a) (turn a b) (turn b a)
  where
    turn : (x y : List ℕ) → bytes_eq x y ≡ true → bytes_eq y x ≡ true
    turn x y e = (bytes_eq-Decides y x).1 (sym ((bytes_eq-Decides x y).0 e))

or_swap : (a b : Bool) → (a || (b || false)) ≡ (b || a)
or_swap true true = refl
or_swap true false = refl
or_swap false true = refl
or_swap false false = refl

pub or_known : (a b : Bool) → (a ≡ true → b ≡ true) → b ≡ (a || b)
or_known true b f = f refl
or_known false b f = refl

-- a name behind names
pub among_pushed : (names : List (List ℕ)) (name n : List ℕ) → is_among (names ++ name ∷ []) n ≡ (bytes_eq name n || is_among names n)
among_pushed names name n =
    list_any-append (bytes_eq n) names (name ∷ [])
    ∙ (or_swap (is_among names n) (bytes_eq n name) ∙ ap (λ (b : Bool). b || is_among names n) (same_both n name))

-- a name is among the names after one more exactly where it is the new one, or was there
pub among_with : (names : List (List ℕ)) (name n : List ℕ) → is_among (with_name names name) n ≡ (bytes_eq name n || is_among names n)
among_with names name n = by_case (is_among names name) there new
  where
    there : is_among names name ≡ true → is_among (with_name names name) n ≡ (bytes_eq name n || is_among names n)
    there known =
        ap (λ (b : Bool). is_among (cond b names (names ++ name ∷ [])) n) known
        ∙ or_known (bytes_eq name n) (is_among names n) (λ e. subst (λ (m : List ℕ). is_among names m ≡ true) ((bytes_eq-Decides name n).0 e) known)

    new : is_among names name ≡ false → is_among (with_name names name) n ≡ (bytes_eq name n || is_among names n)
    new known =
        ap (λ (b : Bool). is_among (cond b names (names ++ name ∷ [])) n) known ∙ among_pushed names name n

-- a name that comes is among the names then
pub among_new : (names new : List (List ℕ)) (name : List ℕ) → new ≡ with_name names name → is_among new name ≡ true
among_new names new name is =
    ap (λ (l : List (List ℕ)). is_among l name) is
    ∙ (among_with names name name ∙ ap (λ (b : Bool). b || is_among names name) ((bytes_eq-Decides name name).1 refl))

-- Names that grow.
pub begins_refl : (names : List (List ℕ)) → Begins names names
begins_refl names = ([], sym (append-nil names))

pub begins_trans : (a b c : List (List ℕ)) → Begins a b → Begins b c → Begins a c
begins_trans a b c x y = (x.0 ++ y.0, y.1 ∙ (ap (λ (l : List (List ℕ)). l ++ y.0) x.1 ∙ append_assoc a x.0 y.0))

pub begins_with : (names : List (List ℕ)) (name : List ℕ) (new : List (List ℕ)) → new ≡ with_name names name → Begins names new
begins_with names name new is =
    by_case (is_among names name)
    (λ t. ([], is ∙ (ap (λ (b : Bool). cond b names (names ++ name ∷ [])) t ∙ sym (append-nil names))))
    (λ t. (name ∷ [], is ∙ ap (λ (b : Bool). cond b names (names ++ name ∷ [])) t))

pub among_grows : (a b : List (List ℕ)) (n : List ℕ) → Begins a b → is_among a n ≡ true → is_among b n ≡ true
among_grows a b n x t = ap (λ (l : List (List ℕ)). is_among l n) x.1 ∙ (list_any-append (bytes_eq n) a x.0 ∙ or_left _ _ t)
