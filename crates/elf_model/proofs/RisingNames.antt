-- Rows that ascend by their names: each name is looked up to one row, and equal look-ups make equal lists.
use Rattle.std.proofs.Common.{◌≡◌, ℕ, zero, suc, ◌+◌, ◌<◌, ◌≤◌, ◌⊎◌, inl, inr, Bool, true, false, cond, List, [], ◌∷◌, length, get_or, refl, sym, ◌∙◌, ap, subst, arith, true≢false, Some, None}
use Rattle.std.specs.Prelude.{All, count_by, find, IsPermutation}
use Rattle.std.specs.Cmp.Lexicographic.{slice_cmp}
use Rattle.std.specs.Ordering.{nat_cmp, is_lt, ordering_reverse}
use Rattle.std.specs.declared.cmp.Ordering.{Ordering}
use Rattle.std.specs.declared.cmp.Ordering.TheVariants.{Less, Equal, Greater}
use Rattle.std.specs.Str.{bytes_eq}
use Rattle.std.proofs.lemmas.Cmp.{nat_list_cmp_total, tied_itself}
use Rattle.std.proofs.lemmas.List.Elements.{All-cons, All-head, All-nil, All-tail}
use Rattle.std.proofs.lemmas.List.Sorted.{All-permutation, IsPermutation-sym, sum_by-IsPermutation}
use Rattle.std.proofs.lemmas.List.Sums.{sum_by-cons}
use Rattle.std.proofs.lemmas.Map.Lookups.{exact_bytes}
use Rattle.std.proofs.lemmas.Slice.Eq.{bytes_eq-Decides}
use Rattle.elf_model.proofs.Finding.{find-none, none-passes}
use Rattle.elf_model.specs.Image.MapRecord.{SymbolRow}
use Rattle.elf_model.specs.Image.MapText.{Ascends, NameBefore, SymbolBefore}

-- a row has a name
abbrev pub has : List ℕ → SymbolRow → Bool
has n row = bytes_eq row.name n

-- every row is above all before it
abbrev pub Rises : List SymbolRow → Type 0
Rises [] = Unit {0}
Rises (r ∷ rs) = All (SymbolBefore r) rs × Rises rs

-- what one more element adds to a count
pub counted : {X : Type 0} (p : X → Bool) (x : X) (xs : List X) → count_by p (x ∷ xs) ≡ cond (p x) 1 0 + count_by p xs
counted p x xs = sum_by-cons (λ y. cond (p y) 1 0) x xs

counted_yes : {X : Type 0} (p : X → Bool) (x : X) (xs : List X) → p x ≡ true → count_by p (x ∷ xs) ≡ 1 + count_by p xs
counted_yes p x xs e = counted p x xs ∙ ap (λ b. cond b 1 0 + count_by p xs) e

counted_no : {X : Type 0} (p : X → Bool) (x : X) (xs : List X) → p x ≡ false → count_by p (x ∷ xs) ≡ count_by p xs
counted_no p x xs e = counted p x xs ∙ ap (λ b. cond b 1 0 + count_by p xs) e ∙ omega arith

-- no element passes
pub absent_count : {X : Type 0} (p : X → Bool) (xs : List X) → All (λ x. p x ≡ false) xs → count_by p xs ≡ 0
absent_count p [] h = refl
absent_count {X} p (x ∷ xs) h =
    counted_no p x xs (All-head (λ (y : X). p y ≡ false) x xs h) ∙ absent_count p xs (All-tail (λ (y : X). p y ≡ false) x xs h)

absent_from_count : {X : Type 0} (p : X → Bool) (xs : List X) → count_by p xs ≡ 0 → All (λ x. p x ≡ false) xs
absent_from_count {X} p [] h = All-nil (λ (y : X). p y ≡ false)
absent_from_count {X} p (x ∷ xs) h = by (p x) refl (absent_from_count p xs)
  where
    by : (b : Bool) → p x ≡ b → (count_by p xs ≡ 0 → All (λ y. p y ≡ false) xs) → All (λ y. p y ≡ false) (x ∷ xs)
    by true e rest = absurd (let n = counted_yes p x xs e in omega (arith, n, h))
    by false e rest = All-cons (λ (y : X). p y ≡ false) x xs e (rest (sym (counted_no p x xs e) ∙ h))

-- where at most one element passes, each that passes is the one found
pub all_found : {X : Type 0} (p : X → Bool) (xs : List X) → count_by p xs ≤ 1 → All (λ y. p y ≡ true → find p xs ≡ Some y) xs
all_found {X} p [] few = All-nil (λ (y : X). p y ≡ true → None ≡ Some y)
all_found {X} p (x ∷ xs) few = by (p x) refl (all_found p xs)
  where
    by :
        (b : Bool) → p x ≡ b → (count_by p xs ≤ 1 → All (λ y. p y ≡ true → find p xs ≡ Some y) xs) →
        All (λ y. p y ≡ true → find p (x ∷ xs) ≡ Some y) (x ∷ xs)
    by true e rest =
        let none : All (λ y. p y ≡ false) xs = absent_from_count p xs (let n = counted_yes p x xs e in omega (arith, n, few)) in
        All-cons (λ (y : X). p y ≡ true → find p (x ∷ xs) ≡ Some y) x xs
        (λ t. ap (λ c. cond c (Some x) (find p xs)) e)
        (λ k d within t. absurd (true≢false (sym t ∙ none k d within)))
    by false e rest =
        let here : find p (x ∷ xs) ≡ find p xs = ap (λ c. cond c (Some x) (find p xs)) e in
        let below : All (λ y. p y ≡ true → find p xs ≡ Some y) xs = rest (let n = counted_no p x xs e in omega (arith, n, few)) in
        All-cons (λ (y : X). p y ≡ true → find p (x ∷ xs) ≡ Some y) x xs
        (λ t. absurd (true≢false (sym t ∙ e)))
        (λ k d within t. here ∙ below k d within t)

-- what a search finds is one of the elements, and passes
found_passes :
    {X : Type 0} (p : X → Bool) (P : X → Type 0) (xs : List X) → All P xs →
    (find p xs ≡ None) ⊎ ((y : X) × (find p xs ≡ Some y) × (p y ≡ true) × P y)
found_passes p P [] all = inl refl
found_passes {X} p P (x ∷ xs) all = by (p x) refl (found_passes p P xs (All-tail P x xs all))
  where
    by :
        (b : Bool) → p x ≡ b → (find p xs ≡ None) ⊎ ((y : X) × (find p xs ≡ Some y) × (p y ≡ true) × P y) →
        (find p (x ∷ xs) ≡ None) ⊎ ((y : X) × (find p (x ∷ xs) ≡ Some y) × (p y ≡ true) × P y)
    by true e rest = inr (x, ap (λ c. cond c (Some x) (find p xs)) e, e, All-head P x xs all)
    by false e (inl none) = inl (ap (λ c. cond c (Some x) (find p xs)) e ∙ none)
    by false e (inr some) = inr (some.0, ap (λ c. cond c (Some x) (find p xs)) e ∙ some.1, some.2, some.3)

pub count_permuted : {X : Type 0} (p : X → Bool) (xs ys : List X) → IsPermutation xs ys → count_by p ys ≡ count_by p xs
count_permuted p xs ys moved = sum_by-IsPermutation (λ x. cond (p x) 1 0) xs ys moved

-- where at most one element passes, the order doesn't matter to a search
pub find_permuted : {X : Type 0} (p : X → Bool) (xs ys : List X) → IsPermutation xs ys → count_by p xs ≤ 1 → find p xs ≡ find p ys
find_permuted {X} p xs ys moved few =
    by
    (found_passes p (λ (y : X). p y ≡ true → find p xs ≡ Some y) ys
    (All-permutation (λ (y : X). p y ≡ true → find p xs ≡ Some y) xs ys moved (all_found p xs few)))
  where
    by :
        (find p ys ≡ None) ⊎ ((y : X) × (find p ys ≡ Some y) × (p y ≡ true) × (p y ≡ true → find p xs ≡ Some y)) →
        find p xs ≡ find p ys
    by (inl none) =
        find-none p xs
        (All-permutation (λ (y : X). p y ≡ false) ys xs (IsPermutation-sym xs ys moved) (none-passes p ys none))
        ∙ sym none
    by (inr some) = some.3 some.2 ∙ sym some.1

-- two neighbours that pass are two that count
pub neighbours_count :
    {X : Type 0} (p : X → Bool) (xs : List X) (k : ℕ) (d : X) → k + 1 < length xs →
    p (get_or xs k d) ≡ true → p (get_or xs (k + 1) d) ≡ true → 2 ≤ count_by p xs
neighbours_count p [] k d within a b = absurd (omega (arith, within))
neighbours_count p (x ∷ []) k d within a b = absurd (omega (arith, within))
neighbours_count p (x ∷ y ∷ xs) zero d within a b =
    let m = counted_yes p x (y ∷ xs) a in
    let n = counted_yes p y xs b in omega (arith, m, n)
neighbours_count {X} p (x ∷ y ∷ xs) (suc k) d within a b =
    let e : suc k + 1 ≡ suc (k + 1) = omega arith in
    let b' : p (get_or (y ∷ xs) (k + 1) d) ≡ true = subst (λ i. p (get_or (x ∷ y ∷ xs) i d) ≡ true) e b in
    let m = neighbours_count p (y ∷ xs) k d (omega (arith, within)) a b' in
    let n = counted p x (y ∷ xs) in omega (arith, m, n)

-- the order of names
name_trans : (a b c : List ℕ) → NameBefore a b → NameBefore b c → NameBefore a c
name_trans = nat_list_cmp_total.trans

not_before_itself : (a b : List ℕ) → a ≡ b → NameBefore a b → ⊥
not_before_itself a b e before =
    let tied : slice_cmp nat_cmp a a ≡ Equal = tied_itself nat_list_cmp_total a in
    let less : slice_cmp nat_cmp a a ≡ Less = subst (NameBefore a) (sym e) before in
    let clash : Less ≡ Equal = sym less ∙ tied in cc

-- neither is after the other, and they differ
pub before_from_sorted : (a b : List ℕ) → is_lt (slice_cmp nat_cmp b a) ≡ false → (a ≡ b → ⊥) → NameBefore a b
before_from_sorted a b sorted differ = by (slice_cmp nat_cmp a b) refl
  where
    by : (o : Ordering) → slice_cmp nat_cmp a b ≡ o → NameBefore a b
    by Less e = e
    by Equal e = absurd (differ (exact_bytes a b e))
    by Greater e =
        absurd
        (true≢false
        (sym (ap is_lt (nat_list_cmp_total.antisymm b a ∙ ap ordering_reverse e)) ∙ sorted))

has_from_name : (n : List ℕ) (r : SymbolRow) → r.name ≡ n → has n r ≡ true
has_from_name n r = (bytes_eq-Decides r.name n).1

has_not : (n : List ℕ) (r : SymbolRow) → (r.name ≡ n → ⊥) → has n r ≡ false
has_not n r differ = by (has n r) refl
  where
    by : (b : Bool) → has n r ≡ b → has n r ≡ false
    by true e = absurd (differ ((bytes_eq-Decides r.name n).0 e))
    by false e = e

-- no row above a name has it
above_absent : (n : List ℕ) (rs : List SymbolRow) → All (λ r. NameBefore n r.name) rs → All (λ r. has n r ≡ false) rs
above_absent n rs all k d within =
    has_not n (get_or rs k d) (λ same. not_before_itself n (get_or rs k d).name (sym same) (all k d within))

pub rises_from_ascends : (rs : List SymbolRow) → Ascends SymbolBefore rs → Rises rs
rises_from_ascends [] up = tt
rises_from_ascends (r ∷ []) up = (All-nil (SymbolBefore r), tt)
rises_from_ascends (r ∷ s ∷ rs) up =
    let rest : Rises (s ∷ rs) = rises_from_ascends (s ∷ rs) (λ k d within. up_behind k d within) in
    let first : SymbolBefore r s = up 0 r (omega arith) in (
      All-cons (SymbolBefore r) s rs first
          (λ k d within. name_trans r.name s.name (get_or rs k d).name first (rest.0 k d within)),
      rest,
    )
  where
    up_behind : Ascends SymbolBefore (s ∷ rs)
    up_behind k d within =
        let e : suc k + 1 ≡ suc (k + 1) = omega arith in
        subst (λ i. SymbolBefore (get_or (r ∷ s ∷ rs) (suc k) d) (get_or (r ∷ s ∷ rs) i d)) e (up (suc k) d (omega (arith, within)))

pub rises_unique : (rs : List SymbolRow) (n : List ℕ) → Rises rs → count_by (has n) rs ≤ 1
rises_unique [] n up = omega arith
rises_unique (r ∷ rs) n up = by (has n r) refl (rises_unique rs n up.1)
  where
    by : (b : Bool) → has n r ≡ b → count_by (has n) rs ≤ 1 → count_by (has n) (r ∷ rs) ≤ 1
    by true e rest =
        let same : r.name ≡ n = (bytes_eq-Decides r.name n).0 e in
        let none : count_by (has n) rs ≡ 0 =
        absent_count (has n) rs (above_absent n rs (subst (λ (m : List ℕ). All (λ s. NameBefore m s.name) rs) same up.0)) in
        let m = counted_yes (has n) r rs e in omega (arith, m, none)
    by false e rest = let m = counted_no (has n) r rs e in omega (arith, m, rest)

found_first : (r : SymbolRow) (rs : List SymbolRow) → find (has r.name) (r ∷ rs) ≡ Some r
found_first r rs = ap (λ b. cond b (Some r) (find (has r.name) rs)) (has_from_name r.name r refl)

found_nowhere : (n : List ℕ) (rs : List SymbolRow) → All (λ r. NameBefore n r.name) rs → find (has n) rs ≡ None
found_nowhere n rs above = find-none (has n) rs (above_absent n rs above)

-- rows that begin above a row do not have its name
first_above :
    (r s : SymbolRow) (rs ss : List SymbolRow) → SymbolBefore r s → Rises (s ∷ ss) →
    ((n : List ℕ) → find (has n) (r ∷ rs) ≡ find (has n) (s ∷ ss)) → ⊥
first_above r s rs ss before up same =
    let none : find (has r.name) (s ∷ ss) ≡ None =
    found_nowhere r.name (s ∷ ss)
    (All-cons (λ (t : SymbolRow). NameBefore r.name t.name) s ss before
    (λ k d within. name_trans r.name s.name (get_or ss k d).name before (up.0 k d within))) in
    let clash : Some r ≡ None = sym (found_first r rs) ∙ same r.name ∙ none in cc

-- rows that rise and are looked up alike are the same
pub same_from_look_ups :
    (rs ss : List SymbolRow) → Rises rs → Rises ss → ((n : List ℕ) → find (has n) rs ≡ find (has n) ss) → rs ≡ ss
same_from_look_ups [] [] up vp same = refl
same_from_look_ups [] (s ∷ ss) up vp same = absurd (let clash : None ≡ Some s = same s.name ∙ found_first s ss in cc)
same_from_look_ups (r ∷ rs) [] up vp same = absurd (let clash : Some r ≡ None = sym (found_first r rs) ∙ same r.name in cc)
same_from_look_ups (r ∷ rs) (s ∷ ss) up vp same = by (slice_cmp nat_cmp r.name s.name) refl (same_from_look_ups rs ss up.1 vp.1)
  where
    by :
        (o : Ordering) → slice_cmp nat_cmp r.name s.name ≡ o →
        (((n : List ℕ) → find (has n) rs ≡ find (has n) ss) → rs ≡ ss) → r ∷ rs ≡ s ∷ ss
    by Less e rest = absurd (first_above r s rs ss e vp same)
    by Greater e rest =
        absurd
        (first_above s r ss rs (nat_list_cmp_total.antisymm s.name r.name ∙ ap ordering_reverse e) up (λ n. sym (same n)))
    by Equal e rest =
        let name : r.name ≡ s.name = exact_bytes r.name s.name e in
        let found : Some r ≡ Some s =
        sym (found_first r rs) ∙ same r.name ∙ ap (λ (n : List ℕ). find (has n) (s ∷ ss)) name ∙ found_first s ss in
        let first : r ≡ s = cc in
        let behind : rs ≡ ss = rest (λ n. tail_alike n (has n r) refl first name) in
        ap (λ (x : SymbolRow). x ∷ rs) first ∙ ap (λ (xs : List SymbolRow). s ∷ xs) behind
      where
        tail_alike : (n : List ℕ) (b : Bool) → has n r ≡ b → r ≡ s → r.name ≡ s.name → find (has n) rs ≡ find (has n) ss
        tail_alike n true e first name =
            let is : r.name ≡ n = (bytes_eq-Decides r.name n).0 e in
            found_nowhere n rs (subst (λ (m : List ℕ). All (λ (t : SymbolRow). NameBefore m t.name) rs) is up.0)
            ∙ sym (found_nowhere n ss (subst (λ (m : List ℕ). All (λ (t : SymbolRow). NameBefore m t.name) ss) (sym name ∙ is) vp.0))
        tail_alike n false e first name =
            let f : has n s ≡ false = ap (λ (t : SymbolRow). has n t) (sym first) ∙ e in
            sym (ap (λ b. cond b (Some r) (find (has n) rs)) e)
            ∙ same n
            ∙ ap (λ b. cond b (Some s) (find (has n) ss)) f
