-- The numbers of the names of symbols, one symbol after the other and one object after the other.
use Rattle.std.proofs.Common.{◌≡◌, ℕ, ◌+◌, ◌<◌, ◌≤◌, Bool, true, false, cond, List, [], ◌∷◌, ◌++◌, ◌⊎◌, length, get_or, refl, sym, ◌∙◌, ap, subst, arith, inl, inr, true≢false}
use Rattle.std.specs.Prelude.{◌^◌, ◌==◌, None, Option, Some, zero, suc}
use Rattle.std.specs.List.{slice_get}
use Rattle.std.specs.Option.{option_and_then}
use Rattle.std.proofs.lemmas.Bool.{cases_lt, eq-eqb, ne_eqb}
use Rattle.std.proofs.Math.Seq.{get_or-append_seam}
use Rattle.std.proofs.lemmas.List.{get_or_append_left, length-append}
use Rattle.std.proofs.lemmas.List.Elements.{All-head, All-tail, All-weaker}
use Rattle.std.proofs.lemmas.Option.{get_or_from_slice_get, none-some, same_Some, slice_get-get_or, slice_get_past, slice_get_within}
use Rattle.elf_model.specs.Inputs.Command.{Plan}
use Rattle.elf_model.specs.Link.Loading.{LoadedObject, is_global_or_weak}
use Rattle.elf_model.specs.Inputs.ObjectFile.{name_of_symbol, null_symbol, symbols}
use Rattle.elf_model.specs.declared.records.Symbol.{Symbol}
use Rattle.search.specs.Loads.{LoadedPlan}
use Rattle.search.specs.Names.{Begins, is_among, number_of}
use Rattle.search.specs.Numbers.{AreFirstNumbers, AreNumbered, IsNumberOf, IsNumbered, name_number, stored_number}
use Rattle.search.specs.Views.{loaded_view, loaded_views}
use Rattle.search.specs.declared.loaded.LoadedObject as code
use Rattle.search.specs.declared.loaded.TheConstants.{NO_NUMBER}
use Rattle.search.proofs.NameSets.{among_grows}
use Rattle.search.proofs.Numbering.{number_below, number_grows}

-- a number stays where names come
grown : (old new : List (List ℕ)) (bytes : List ℕ) (s : Symbol) (number : ℕ) → Begins old new → IsNumberOf old bytes s number → IsNumberOf new bytes s number
grown old new bytes s number more h = record {
  is = h.is ∙ by (is_global_or_weak s) refl;
  among = λ t. among_grows old new (name_of_symbol bytes s) more (h.among t);
}
  where
    by : (b : Bool) → is_global_or_weak s ≡ b → cond b (number_of old (name_of_symbol bytes s)) NO_NUMBER ≡ cond b (number_of new (name_of_symbol bytes s)) NO_NUMBER
    by true e =
        sym (number_grows old more.0 (name_of_symbol bytes s) (h.among e))
        ∙ ap (λ (l : List (List ℕ)). number_of l (name_of_symbol bytes s)) (sym more.1)
    by false e = refl

pub numbers_grow : (count : ℕ) (old new : List (List ℕ)) (bytes numbers : List ℕ) → Begins old new → AreFirstNumbers count old bytes numbers → AreFirstNumbers count new bytes numbers
numbers_grow count old new bytes numbers more h = record {
  sized = h.sized;
  each = λ j within. grown old new bytes (get_or (symbols bytes) j null_symbol) (get_or numbers j 0) more (h.each j within);
}

pub numbered_grow : (old new : List (List ℕ)) (os : List code.LoadedObject) → Begins old new → AreNumbered old os → AreNumbered new os
numbered_grow old new os more h =
    All-weaker (IsNumbered old) (IsNumbered new) (λ o n. numbers_grow (length (symbols o.object)) old new o.object o.numbers.items more n) os h

pub numbers_none : (names : List (List ℕ)) (bytes : List ℕ) → AreFirstNumbers 0 names bytes []
numbers_none names bytes = record { sized = refl; each = λ j within. absurd (omega (arith, within)) }

pushed_at : (numbers : List ℕ) (number j : ℕ) → length numbers ≡ j → get_or (numbers ++ number ∷ []) j 0 ≡ number
pushed_at numbers number j sized = ap (λ (i : ℕ). get_or (numbers ++ number ∷ []) i 0) (sym sized) ∙ get_or-append_seam numbers number [] 0

-- one symbol more
pub numbers_more : (names : List (List ℕ)) (bytes numbers : List ℕ) (j number : ℕ) → AreFirstNumbers j names bytes numbers →
    IsNumberOf names bytes (get_or (symbols bytes) j null_symbol) number → AreFirstNumbers (j + 1) names bytes (numbers ++ number ∷ [])
numbers_more names bytes numbers j number h one = record {
  sized = length-append numbers (number ∷ []) ∙ ap (λ (n : ℕ). n + 1) h.sized;
  each = λ k within. at k (cases_lt k j) within;
}
  where
    at : (k : ℕ) → (k < j) ⊎ (j ≤ k) → k < j + 1 → IsNumberOf names bytes (get_or (symbols bytes) k null_symbol) (get_or (numbers ++ number ∷ []) k 0)
    at k (inl before) within =
        subst (IsNumberOf names bytes (get_or (symbols bytes) k null_symbol)) (sym (get_or_append_left numbers (number ∷ []) 0 k (omega (arith, before, h.sized)))) (h.each k before)
    at k (inr past) within =
        let same : k ≡ j = omega (arith, past, within) in
        subst (λ (i : ℕ). IsNumberOf names bytes (get_or (symbols bytes) i null_symbol) (get_or (numbers ++ number ∷ []) i 0)) (sym same)
        (subst (IsNumberOf names bytes (get_or (symbols bytes) j null_symbol)) (sym (pushed_at numbers number j h.sized)) one)

-- a LOCAL symbol, and another one whose name has a number
pub local_number : (names : List (List ℕ)) (bytes : List ℕ) (s : Symbol) → is_global_or_weak s ≡ false → IsNumberOf names bytes s NO_NUMBER
local_number names bytes s local = record {
  is = sym (ap (λ (b : Bool). cond b (number_of names (name_of_symbol bytes s)) NO_NUMBER) local);
  among = λ t. absurd (true≢false (sym t ∙ local));
}

pub shared_number : (names : List (List ℕ)) (bytes name : List ℕ) (s : Symbol) (number : ℕ) → is_global_or_weak s ≡ true → name ≡ name_of_symbol bytes s →
    number ≡ number_of names name → is_among names name ≡ true → IsNumberOf names bytes s number
shared_number names bytes name s number shared called is there = record {
  is = is ∙ (ap (number_of names) called ∙ sym (ap (λ (b : Bool). cond b (number_of names (name_of_symbol bytes s)) NO_NUMBER) shared));
  among = λ t. ap (is_among names) (sym called) ∙ there;
}

-- a number that is kept is below the count of names, but that of a LOCAL symbol
number_bounded : (names : List (List ℕ)) (bytes : List ℕ) (s : Symbol) (number : ℕ) → IsNumberOf names bytes s number → (number ≡ NO_NUMBER → ⊥) → number < length names
number_bounded names bytes s number h other = by (is_global_or_weak s) refl
  where
    by : (b : Bool) → is_global_or_weak s ≡ b → number < length names
    by true e =
        let is : number ≡ number_of names (name_of_symbol bytes s) = h.is ∙ ap (λ (b : Bool). cond b (number_of names (name_of_symbol bytes s)) NO_NUMBER) e in
        omega (arith, is, number_below names (name_of_symbol bytes s) (h.among e))
    by false e = absurd (other (h.is ∙ ap (λ (b : Bool). cond b (number_of names (name_of_symbol bytes s)) NO_NUMBER) e))

stored_bounded : (names : List (List ℕ)) (os : List code.LoadedObject) (i j number : ℕ) → AreNumbered names os → stored_number os i j ≡ Some number → (number ≡ NO_NUMBER → ⊥) → number < length names
stored_bounded names [] i j number h is other = absurd (none-some number is)
stored_bounded names (o ∷ os) zero j number h is other =
    let fit = All-head (IsNumbered names) o os h in
    let within = slice_get_within o.numbers.items j number is in
    number_bounded names o.object (get_or (symbols o.object) j null_symbol) number
    (subst (IsNumberOf names o.object (get_or (symbols o.object) j null_symbol)) (get_or_from_slice_get o.numbers.items j number 0 is) (fit.each j (omega (arith, within, fit.sized)))) other
stored_bounded names (o ∷ os) (suc i) j number h is other = stored_bounded names os i j number (All-tail (IsNumbered names) o os h) is other

-- The number that is kept for a symbol is that of its name.
abbrev told : Option ℕ → Option ℕ
told o = option_and_then (λ n. cond (n == NO_NUMBER) None (Some n)) o

one_told : (names : List (List ℕ)) (bytes : List ℕ) (s : Symbol) (number : ℕ) → length names < 2 ^ 64 → IsNumberOf names bytes s number →
    ◌≡◌ {A = Option ℕ} (cond (is_global_or_weak s) (Some (number_of names (name_of_symbol bytes s))) None) (cond (number == NO_NUMBER) None (Some number))
one_told names bytes s number few h = by (is_global_or_weak s) refl
  where
    by : (b : Bool) → is_global_or_weak s ≡ b → ◌≡◌ {A = Option ℕ} (cond b (Some (number_of names (name_of_symbol bytes s))) None) (cond (number == NO_NUMBER) None (Some number))
    by true e =
        let is : number ≡ number_of names (name_of_symbol bytes s) = h.is ∙ ap (λ (b : Bool). cond b (number_of names (name_of_symbol bytes s)) NO_NUMBER) e in
        let below = number_below names (name_of_symbol bytes s) (h.among e) in
        let other : (number == NO_NUMBER) ≡ false = ne_eqb number NO_NUMBER (λ same. omega (arith, same, is, below, few)) in
        sym (ap (λ (b : Bool). cond {A = Option ℕ} b None (Some number)) other ∙ ap (λ (n : ℕ). Some n) is)
    by false e =
        let is : number ≡ NO_NUMBER = h.is ∙ ap (λ (b : Bool). cond b (number_of names (name_of_symbol bytes s)) NO_NUMBER) e in
        sym (ap (λ (b : Bool). cond {A = Option ℕ} b None (Some number)) (eq-eqb number NO_NUMBER is))

symbol_told : (names : List (List ℕ)) (bytes numbers : List ℕ) (j : ℕ) → length names < 2 ^ 64 → AreFirstNumbers (length (symbols bytes)) names bytes numbers →
    option_and_then (λ s. cond (is_global_or_weak s) (Some (number_of names (name_of_symbol bytes s))) None) (slice_get (symbols bytes) j) ≡ told (slice_get numbers j)
symbol_told names bytes numbers j few h = by (cases_lt j (length (symbols bytes)))
  where
    by : (j < length (symbols bytes)) ⊎ (length (symbols bytes) ≤ j) →
        option_and_then (λ s. cond (is_global_or_weak s) (Some (number_of names (name_of_symbol bytes s))) None) (slice_get (symbols bytes) j) ≡ told (slice_get numbers j)
    by (inl within) =
        ap (option_and_then (λ s. cond {A = Option ℕ} (is_global_or_weak s) (Some (number_of names (name_of_symbol bytes s))) None)) (slice_get-get_or (symbols bytes) j null_symbol within)
        ∙ (one_told names bytes (get_or (symbols bytes) j null_symbol) (get_or numbers j 0) few (h.each j within)
        ∙ sym (ap told (slice_get-get_or numbers j 0 (omega (arith, within, h.sized)))))
    by (inr past) =
        ap (option_and_then (λ s. cond {A = Option ℕ} (is_global_or_weak s) (Some (number_of names (name_of_symbol bytes s))) None)) (slice_get_past (symbols bytes) j past)
        ∙ sym (ap told (slice_get_past numbers j (omega (arith, past, h.sized))))

objects_told : (plan : Plan) (names : List (List ℕ)) (os : List code.LoadedObject) (i j : ℕ) → length names < 2 ^ 64 → AreNumbered names os →
    name_number (record { plan = plan; objects = loaded_views os; names = names }) i j ≡ told (stored_number os i j)
objects_told plan names [] i j few h = refl
objects_told plan names (o ∷ os) zero j few h = symbol_told names o.object o.numbers.items j few (All-head (IsNumbered names) o os h)
objects_told plan names (o ∷ os) (suc i) j few h = objects_told plan names os i j few (All-tail (IsNumbered names) o os h)

number_told : (l : LoadedPlan) (os : List code.LoadedObject) (i j : ℕ) → loaded_views os ≡ l.objects → AreNumbered l.names os → length l.names < 2 ^ 64 →
    name_number l i j ≡ told (stored_number os i j)
number_told l os i j same h few =
    ap (λ (bs : List LoadedObject). name_number (record { plan = l.plan; objects = bs; names = l.names }) i j) (sym same)
    ∙ objects_told l.plan l.names os i j few h

-- what is told of a symbol, by the number that is kept for it
module _ (l : LoadedPlan) (os : List code.LoadedObject) (i j : ℕ) (kept : Option ℕ) (same : loaded_views os ≡ l.objects) (h : AreNumbered l.names os) (few : length l.names < 2 ^ 64) (is : kept ≡ stored_number os i j) where
  by_kept : name_number l i j ≡ told kept
  by_kept = number_told l os i j same h few ∙ ap told (sym is)

  pub none_told : kept ≡ None → ◌≡◌ {A = Option ℕ} None (name_number l i j)
  none_told none = sym (by_kept ∙ ap told none)

  pub local_told : (number : ℕ) → kept ≡ Some number → number ≡ NO_NUMBER → ◌≡◌ {A = Option ℕ} None (name_number l i j)
  local_told number some local = sym (by_kept ∙ (ap told some ∙ ap (λ (b : Bool). cond {A = Option ℕ} b None (Some number)) (eq-eqb number NO_NUMBER local)))

  pub shared_told : (number : ℕ) → kept ≡ Some number → (number ≡ NO_NUMBER → ⊥) → ◌≡◌ {A = Option ℕ} (Some number) (name_number l i j)
  shared_told number some other = sym (by_kept ∙ (ap told some ∙ ap (λ (b : Bool). cond {A = Option ℕ} b None (Some number)) (ne_eqb number NO_NUMBER other)))

  pub shared_below : (number : ℕ) → kept ≡ Some number → (number ≡ NO_NUMBER → ⊥) → number < length l.names
  shared_below number some other = stored_bounded l.names os i j number h (sym is ∙ some) other

-- the name of a symbol that isn't LOCAL is among those that have numbers
pub all_named : (names : List (List ℕ)) (os : List code.LoadedObject) → AreNumbered names os → (k j : ℕ) (o : LoadedObject) (s : Symbol) → slice_get (loaded_views os) k ≡ Some o →
    slice_get (symbols o.bytes) j ≡ Some s → is_global_or_weak s ≡ true → is_among names (name_of_symbol o.bytes s) ≡ true
all_named names [] h k j o s at got shared = absurd (none-some o at)
all_named names (x ∷ os) h zero j o s at got shared =
    let same : loaded_view x ≡ o = same_Some (loaded_view x) o at in
    subst (λ (y : LoadedObject). slice_get (symbols y.bytes) j ≡ Some s → is_among names (name_of_symbol y.bytes s) ≡ true) same
    (λ here.
    let fit = (All-head (IsNumbered names) x os h).each j (slice_get_within (symbols x.object) j s here) in
    subst (λ (t : Symbol). is_global_or_weak t ≡ true → is_among names (name_of_symbol x.object t) ≡ true) (get_or_from_slice_get (symbols x.object) j s null_symbol here) fit.among shared) got
all_named names (x ∷ os) h (suc k) j o s at got shared = all_named names os (All-tail (IsNumbered names) x os h) k j o s at got shared
