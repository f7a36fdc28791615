-- Growing a list without repeats, text by text.
use Rattle.std.proofs.Common.{◌≡◌, ℕ, Bool, true, false, cond, not, ◌&&◌, ◌||◌, List, [], ◌∷◌, ◌++◌, String, refl, ap, ◌∙◌, sym, append_assoc, append-nil, ◌+◌, ◌<◌, length, get_or, drop, add-one, drop-cons}
use Rattle.std.specs.declared.alloc.Global.{Global}
use Rattle.std.specs.BTreeSet.{BTreeSet, contains_text}
use Rattle.std.specs.List.{filter, flat_map}
use Rattle.std.specs.Str.{bytes_eq}
use Rattle.std.specs.Cmp.Lexicographic.{nat_list_eq_equiv}
use Rattle.std.proofs.lemmas.List.Folds.{list_any-append}
use Rattle.elf_model.specs.Inputs.Command.{distinct}
use Rattle.command.specs.Candidates.{is_in, with, with_all, HasTexts}

turned : (a b : List ℕ) → bytes_eq a b ≡ bytes_eq b a
turned a b = nat_list_eq_equiv.symm a b

behind : (b c : Bool) → cond c true b ≡ (b || (c || false))
behind true true = refl
behind true false = refl
behind false true = refl
behind false false = refl

-- the set with one more text, and the list with that text at its end
pub has_more : (seen new : BTreeSet (String Global)) (xs : List (List ℕ)) (y : List ℕ) → HasTexts seen xs → ((x : List ℕ) → contains_text new x ≡ cond (bytes_eq y x) true (contains_text seen x)) → HasTexts new (xs ++ y ∷ [])
has_more seen new xs y h e x =
    e x
    ∙ ap (λ b. cond (bytes_eq y x) true b) (h x)
    ∙ ap (λ b. cond b true (is_in xs x)) (turned y x)
    ∙ behind (is_in xs x) (bytes_eq x y)
    ∙ sym (list_any-append (bytes_eq x) xs (y ∷ []))

-- equal texts are among the same ones
alike : (x y : List ℕ) → bytes_eq x y ≡ true → (xs : List (List ℕ)) → is_in xs x ≡ is_in xs y
alike x y e [] = refl
alike x y e (z ∷ zs) =
    ap (λ b. b || is_in zs x) (nat_list_eq_equiv.congr x y z e)
    ∙ ap (λ b. bytes_eq y z || b) (alike x y e zs)

filter_cond : (p : List ℕ → Bool) (b : Bool) (x : List ℕ) (xs : List (List ℕ)) → filter p (cond b (x ∷ xs) xs) ≡ cond (b && p x) (x ∷ filter p xs) (filter p xs)
filter_cond p true x xs = refl
filter_cond p false x xs = refl

filter_both : (p q r : List ℕ → Bool) → ((x : List ℕ) → r x ≡ (q x && p x)) → (xs : List (List ℕ)) → filter p (filter q xs) ≡ filter r xs
filter_both p q r h [] = refl
filter_both p q r h (x ∷ xs) =
    filter_cond p (q x) x (filter q xs)
    ∙ ap (λ ys. cond (q x && p x) (x ∷ ys) ys) (filter_both p q r h xs)
    ∙ ap (λ b. cond b (x ∷ filter r xs) (filter r xs)) (sym (h x))

-- those that are not among some
fresh : List (List ℕ) → List ℕ → Bool
fresh xs y = not (is_in xs y)

among : (b i : Bool) → (b ≡ true → i ≡ true) → not i ≡ (not b && not i)
among true i h = ap not (h refl)
among false i h = refl

last_too : (i b : Bool) → not (i || (b || false)) ≡ (not b && not i)
last_too true true = refl
last_too true false = refl
last_too false true = refl
last_too false false = refl

known : (xs : List (List ℕ)) (x : List ℕ) → is_in xs x ≡ true → (ys : List (List ℕ)) → filter (fresh xs) (filter (λ y. not (bytes_eq x y)) ys) ≡ filter (fresh xs) ys
unfolding fresh
known xs x e ys = filter_both (fresh xs) (λ y. not (bytes_eq x y)) (fresh xs) (λ y. among (bytes_eq x y) (is_in xs y) (λ s. sym (alike x y s xs) ∙ e)) ys

unknown : (xs : List (List ℕ)) (x : List ℕ) → (ys : List (List ℕ)) → filter (fresh xs) (filter (λ y. not (bytes_eq x y)) ys) ≡ filter (fresh (xs ++ x ∷ [])) ys
unfolding fresh
unknown xs x ys = filter_both (fresh xs) (λ y. not (bytes_eq x y)) (fresh (xs ++ x ∷ []))
    (λ y. ap not (list_any-append (bytes_eq y) xs (x ∷ [])) ∙ last_too (is_in xs y) (bytes_eq y x) ∙ ap (λ b. not b && not (is_in xs y)) (turned y x)) ys

-- a text more in front of those that come, of which xs has those before
step : (b : Bool) (xs : List (List ℕ)) (x : List ℕ) (ys : List (List ℕ)) → is_in xs x ≡ b → cond b xs (xs ++ x ∷ []) ++ filter (fresh (cond b xs (xs ++ x ∷ []))) ys ≡ xs ++ cond (not b) (x ∷ filter (fresh xs) (filter (λ y. not (bytes_eq x y)) ys)) (filter (fresh xs) (filter (λ y. not (bytes_eq x y)) ys))
step true xs x ys e = ap (λ zs. xs ++ zs) (sym (known xs x e ys))
step false xs x ys e = append_assoc xs (x ∷ []) (filter (fresh (xs ++ x ∷ [])) ys) ∙ ap (λ zs. xs ++ x ∷ zs) (sym (unknown xs x ys))

step_at : (xs : List (List ℕ)) (x : List ℕ) (ys : List (List ℕ)) → with xs x ++ filter (fresh (with xs x)) ys ≡ xs ++ filter (fresh xs) (x ∷ filter (λ y. not (bytes_eq x y)) ys)
unfolding fresh
step_at xs x ys = step (is_in xs x) xs x ys refl

grown : (xs ys : List (List ℕ)) → with_all xs ys ≡ xs ++ filter (fresh xs) (distinct ys)
grown xs [] = sym (append-nil xs)
grown xs (y ∷ ys) = grown (with xs y) ys ∙ step_at xs y (distinct ys)

nothing_known : (ys : List (List ℕ)) → filter (fresh []) ys ≡ ys
unfolding fresh
nothing_known [] = refl
nothing_known (y ∷ ys) = ap (λ zs. y ∷ zs) (nothing_known ys)

pub distinct_is : (ys : List (List ℕ)) → with_all [] ys ≡ distinct ys
distinct_is ys = grown [] ys ∙ nothing_known (distinct ys)

pub with_all-append : (xs ys zs : List (List ℕ)) → with_all xs (ys ++ zs) ≡ with_all (with_all xs ys) zs
with_all-append xs [] zs = refl
with_all-append xs (y ∷ ys) zs = with_all-append (with xs y) ys zs

-- the next item's paths, and those of the items behind it
pub item_more : {X : Type 0} (paths : X → List (List ℕ)) (items : List X) (i : ℕ) (d : X) (old now start : List (List ℕ)) → i < length items → now ≡ with_all old (paths (get_or items i d)) → with_all old (flat_map paths (drop i items)) ≡ start → with_all now (flat_map paths (drop (i + 1) items)) ≡ start
item_more paths items i d old now start lt e h =
    let rest : List (List ℕ) = flat_map paths (drop (i + 1) items) in
    let split : flat_map paths (drop i items) ≡ paths (get_or items i d) ++ rest = rw (add-one, drop-cons items i d) refl in
    ap (λ zs. with_all zs rest) e ∙ sym (with_all-append old (paths (get_or items i d)) rest) ∙ ap (λ zs. with_all old zs) (sym split) ∙ h
