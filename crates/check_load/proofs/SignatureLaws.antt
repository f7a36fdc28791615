-- The signatures seen, as a test of names and as a list.
use Rattle.std.proofs.Common.{◌≡◌, ℕ, Bool, true, false, cond, not, ◌&&◌, ◌||◌, List, [], ◌∷◌, ◌++◌, refl, ap, sym, ◌∙◌, subst}
use Rattle.std.specs.Cmp.Lexicographic.{nat_list_eq_equiv}
use Rattle.std.specs.List.{flat_map}
use Rattle.std.specs.Str.{bytes_eq}
use Rattle.std.proofs.lemmas.List.Folds.{list_any-append}
use Rattle.std.proofs.lemmas.Slice.Eq.{bytes_eq-Decides}
use Rattle.elf_model.specs.Link.Groups.{ascending, dropped, dropped_groups, is_comdat, is_seen, seen_after, seen_with}
use Rattle.elf_model.specs.Inputs.ObjectFile.{Group}
use Rattle.check_load.specs.Signatures.{lost_by, lost_groups, seen_by, seen_then}
use Rattle.check_load.specs.NameNumbers.{is_among, with_name}

pub same_names : (a b : List ℕ) → bytes_eq a b ≡ bytes_eq b a
same_names a b = nat_list_eq_equiv.symm a b

-- what is seen once a signature is among the names
or_known : (a b : Bool) → (a ≡ true → b ≡ true) → b ≡ (a || b)
or_known true b f = f refl
or_known false b f = refl

pub or_last : (a b : Bool) → (a || (b || false)) ≡ (b || a)
or_last true true = refl
or_last true false = refl
or_last false true = refl
or_last false false = refl

name_comes : (names : List (List ℕ)) (name n : List ℕ) → is_among (with_name names name) n ≡ (bytes_eq name n || is_among names n)
name_comes names name n = by (is_among names name) refl
  where
    by : (b : Bool) → is_among names name ≡ b → is_among (cond b names (names ++ name ∷ [])) n ≡ (bytes_eq name n || is_among names n)
    by true is = or_known (bytes_eq name n) (is_among names n) (λ e. subst (λ (m : List ℕ). is_among names m ≡ true) ((bytes_eq-Decides name n).0 e) is)
    by false is =
        list_any-append (bytes_eq n) names (name ∷ [])
        ∙ (or_last (is_among names n) (bytes_eq n name) ∙ ap (λ (b : Bool). b || is_among names n) (same_names n name))

pub set_then : (old new : List (List ℕ)) (name : List ℕ) (g : Group) → is_comdat g ≡ true → name ≡ g.signature →
    new ≡ with_name old name → is_among new ≡ seen_then (is_among old) g
set_then old new name g comdat same grown = λ j n. told n j
  where
    told : (n : List ℕ) → is_among new n ≡ seen_then (is_among old) g n
    told n =
        ap (λ (names : List (List ℕ)). is_among names n) grown
        ∙ (name_comes old name n ∙ (λ j. (sym comdat j && bytes_eq (same j) n) || is_among old n))

-- whether a signature was seen, by what its insertion answers
not_not : (b : Bool) → b ≡ not (not b)
not_not true = refl
not_not false = refl

pub seen_unless : (old : List (List ℕ)) (name : List ℕ) (g : Group) (added : Bool) → is_comdat g ≡ true → name ≡ g.signature →
    added ≡ not (is_among old name) → (is_comdat g && is_among old g.signature) ≡ not added
seen_unless old name g added comdat same is =
    (λ j. comdat j && is_among old (sym same j)) ∙ (not_not (is_among old name) ∙ ap not (sym is))

-- with the list of the definitions
list_then : (seen : List (List ℕ)) (g : Group) (name : List ℕ) → is_seen (seen_with seen g) name ≡ seen_then (is_seen seen) g name
list_then seen g name = by (is_comdat g) (is_seen seen g.signature) refl
  where
    by : (c s : Bool) → is_seen seen g.signature ≡ s → is_seen (cond (c && not s) (seen ++ g.signature ∷ []) seen) name ≡ (c && bytes_eq g.signature name || is_seen seen name)
    by false s is = refl
    by true true is = or_known (bytes_eq g.signature name) (is_seen seen name) (λ e. subst (λ (n : List ℕ). is_seen seen n ≡ true) ((bytes_eq-Decides g.signature name).0 e) is)
    by true false is =
        list_any-append (bytes_eq name) seen (g.signature ∷ [])
        ∙ (or_last (is_seen seen name) (bytes_eq name g.signature) ∙ ap (λ (b : Bool). b || is_seen seen name) (same_names name g.signature))

pub list_by : (seen : List (List ℕ)) (gs : List Group) → seen_by (is_seen seen) gs ≡ is_seen (seen_after seen gs)
list_by seen [] = refl
list_by seen (g ∷ gs) = ap (λ (f : List ℕ → Bool). seen_by f gs) (λ j n. sym (list_then seen g n) j) ∙ list_by (seen_with seen g) gs

list_lost : (seen : List (List ℕ)) (gs : List Group) → lost_groups (is_seen seen) gs ≡ dropped_groups seen gs
list_lost seen [] = refl
list_lost seen (g ∷ gs) =
    ap (λ (xs : List Group). cond (is_comdat g && is_seen seen g.signature) (g ∷ []) [] ++ xs)
    (ap (λ (f : List ℕ → Bool). lost_groups f gs) (λ j n. sym (list_then seen g n) j) ∙ list_lost (seen_with seen g) gs)

pub lost_is : (seen : List (List ℕ)) (gs : List Group) → lost_by (is_seen seen) gs ≡ dropped seen gs
lost_is seen gs = ap (λ (xs : List Group). ascending (members_of xs)) (list_lost seen gs)
  where
    members_of : List Group → List ℕ
    members_of xs = flat_map (λ g. g.members) xs
