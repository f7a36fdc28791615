-- The places of names, as they are added.
use Rattle.std.proofs.Common.{◌≡◌, ℕ, zero, suc, ◌+◌, ◌<◌, ◌≤◌, ◌⊎◌, inl, inr, ◌==◌, Bool, true, false, cond, ◌||◌, List, [], ◌∷◌, ◌++◌, length, get_or, map, Some, refl, sym, ◌∙◌, ap, subst, arith}
use Rattle.std.specs.Prelude.{All, set}
use Rattle.std.specs.Global.{Vec}
use Rattle.std.specs.List.{list_any, slice_get}
use Rattle.std.specs.Str.{bytes_eq}
use Rattle.std.proofs.lemmas.Bool.{and_from, cases_lt, eq-eqb, or_left, or_right}
use Rattle.std.proofs.lemmas.List.{get_or_default, map-append}
use Rattle.std.proofs.lemmas.List.Folds.{list_any-append}
use Rattle.std.proofs.lemmas.Option.{get_or_from_slice_get, slice_get_within}
use Rattle.std.proofs.lemmas.Slice.Eq.{bytes_eq-Decides}
use Rattle.elf_model.specs.Inputs.ArchiveFile.{IndexEntry}
use Rattle.std.proofs.lemmas.List.Elements.{All-cons, All-nil}
use Rattle.elf_model.specs.Inputs.Command.{Item, Plan}
use Rattle.elf_model.specs.Inputs.Files.{File}
use Rattle.elf_model.specs.Inputs.Opening.{Opened, opened, opened_from, opened_item}
use Rattle.elf_model.proofs.LoadingBounds.{by_case}
use Rattle.check_load.specs.Awake.{is_awake, is_place}
use Rattle.check_load.specs.Places.{ArePlaced, IsAt, IsPlaced, IsSized, IsWoken, has_place, list_at, places_in}
use Rattle.check_load.specs.NameNumbers.{number_of, with_name}
use Rattle.check_load.specs.declared.places.NamePlaces.{NamePlaces}
use Rattle.check_load.specs.declared.awake_entries.Awake.{Awake}
use Rattle.check_load.proofs.Numbering.{none_behind, value_written}

-- lists as they are written
abbrev items_of : List (Vec (ℕ × ℕ)) → List (List (ℕ × ℕ))
items_of lists = map (λ v. v.items) lists

items_length : (lists : List (Vec (ℕ × ℕ))) → length (items_of lists) ≡ length lists
items_length [] = refl
items_length (v ∷ vs) = ap (λ (c : ℕ). suc c) (items_length vs)

items_set : (lists : List (Vec (ℕ × ℕ))) (i : ℕ) (v : Vec (ℕ × ℕ)) → items_of (set lists i v) ≡ set (items_of lists) i v.items
items_set [] i v = refl
items_set (x ∷ xs) zero v = refl
items_set (x ∷ xs) (suc i) v = ap (λ (l : List (List (ℕ × ℕ))). x.items ∷ l) (items_set xs i v)

items_at : (lists : List (Vec (ℕ × ℕ))) (i : ℕ) (d : Vec (ℕ × ℕ)) → i < length lists → (get_or lists i d).items ≡ get_or (items_of lists) i []
items_at [] i d low = absurd (omega (arith, low))
items_at (x ∷ xs) zero d low = refl
items_at (x ∷ xs) (suc i) d low = items_at xs i d (omega (arith, low))

-- an empty list behind lists
pub list_behind : (lists : List (Vec (ℕ × ℕ))) (v : Vec (ℕ × ℕ)) → v.items ≡ [] → (i : ℕ) → list_at (lists ++ v ∷ []) i ≡ list_at lists i
list_behind lists v empty i =
    ap (λ (l : List (List (ℕ × ℕ))). get_or l i [])
    (map-append (λ v. v.items) lists (v ∷ []) ∙ ap (λ (x : List (ℕ × ℕ)). items_of lists ++ x ∷ []) empty)
    ∙ none_behind [] (items_of lists) i

-- a place is added to those of a name that comes
pub place_added :
    (old new : NamePlaces) (reached : List (Vec (ℕ × ℕ))) (name : List ℕ) (i : ℕ) (place : ℕ × ℕ) (read grown : Vec (ℕ × ℕ)) →
    IsSized old → new.names ≡ with_name old.names name → i ≡ number_of old.names name → ((k : ℕ) → list_at reached k ≡ list_at old.lists.items k) →
    i < length reached → read ≡ get_or reached i read → grown.items ≡ read.items ++ place ∷ [] → new.lists.items ≡ set reached i grown → (n : List ℕ) →
    places_in new n ≡ cond (bytes_eq name n) (places_in old n ++ place ∷ []) (places_in old n)
place_added old new reached name i place read grown sized comes is same there reads grows put n =
    ap (λ (l : List (Vec (ℕ × ℕ))). list_at l (number_of new.names n)) put
    ∙ (ap (λ (l : List (List (ℕ × ℕ))). get_or l (number_of new.names n) []) (items_set reached i grown)
    ∙ (value_written [] old.names new.names (items_of old.lists.items) (items_of reached) name i grown.items (let e = items_length old.lists.items in omega (arith, e, sized)) comes is same
    (let e = items_length reached in omega (arith, e, there)) n
    ∙ by (bytes_eq name n) refl))
  where
    before : read.items ≡ places_in old name
    before = ap (λ (v : Vec (ℕ × ℕ)). v.items) reads ∙ (items_at reached i read there ∙ (same i ∙ ap (list_at old.lists.items) is))

    by : (b : Bool) → bytes_eq name n ≡ b → cond b grown.items (places_in old n) ≡ cond b (places_in old n ++ place ∷ []) (places_in old n)
    by true e = grows ∙ ap (λ (l : List (ℕ × ℕ)). l ++ place ∷ []) (before ∙ ap (places_in old) ((bytes_eq-Decides name n).0 e))
    by false e = refl

-- what a name had, it has; and it has the new place
module _ (old new : NamePlaces) (name : List ℕ) (place : ℕ × ℕ) (added : (n : List ℕ) → places_in new n ≡ cond (bytes_eq name n) (places_in old n ++ place ∷ []) (places_in old n)) where
  pub had : (n : List ℕ) (i q : ℕ) → has_place old n i q ≡ true → has_place new n i q ≡ true
  had n i q there =
      by_case (bytes_eq name n)
      (λ t. ap (list_any (is_place i q)) (added n ∙ ap (λ (b : Bool). cond b (places_in old n ++ place ∷ []) (places_in old n)) t)
      ∙ (list_any-append (is_place i q) (places_in old n) (place ∷ []) ∙ or_left _ _ there))
      (λ t. ap (list_any (is_place i q)) (added n ∙ ap (λ (b : Bool). cond b (places_in old n ++ place ∷ []) (places_in old n)) t) ∙ there)

  pub has_now : (n : List ℕ) → n ≡ name → has_place new n place.0 place.1 ≡ true
  has_now n same =
      let here = (bytes_eq-Decides name n).1 (sym same) in
      let both = and_from (place.0 == place.0) (place.1 == place.1) (eq-eqb place.0 place.0 refl) (eq-eqb place.1 place.1 refl) in
      ap (list_any (is_place place.0 place.1)) (added n ∙ ap (λ (b : Bool). cond b (places_in old n ++ place ∷ []) (places_in old n)) here)
      ∙ (list_any-append (is_place place.0 place.1) (places_in old n) (place ∷ []) ∙ or_right (has_place old n place.0 place.1) _ (or_left _ false both))

-- one more entry of an item
pub entries_step :
    (old new : NamePlaces) (es : List IndexEntry) (i item : ℕ) (x : IndexEntry) (name : List ℕ) → x ≡ get_or es i x → name ≡ x.name →
    ((n : List ℕ) → places_in new n ≡ cond (bytes_eq name n) (places_in old n ++ (item, i) ∷ []) (places_in old n)) →
    ((q : ℕ) (e : IndexEntry) → q < i → slice_get es q ≡ Some e → has_place old e.name item q ≡ true) →
    (q : ℕ) (e : IndexEntry) → q < i + 1 → slice_get es q ≡ Some e → has_place new e.name item q ≡ true
entries_step old new es i item x name is called added before q e within at = by (cases_lt q i)
  where
    by : (q < i) ⊎ (i ≤ q) → has_place new e.name item q ≡ true
    by (inl low) = had old new name (item, i) added e.name item q (before q e low at)
    by (inr high) =
        let same : q ≡ i = omega (arith, within, high) in
        let here : slice_get es i ≡ Some e = subst (λ (k : ℕ). slice_get es k ≡ Some e) same at in
        let entry : x ≡ e = is ∙ get_or_from_slice_get es i e x here in
        subst (λ (k : ℕ). has_place new e.name item k ≡ true) (sym same)
        (has_now old new name (item, i) added e.name (sym (called ∙ ap (λ (y : IndexEntry). y.name) entry)))

-- where the entries of an archive stand, they stand later
pub placed_on : (old new : NamePlaces) (o : Opened) → ((n : List ℕ) (i q : ℕ) → has_place old n i q ≡ true → has_place new n i q ≡ true) → IsPlaced old o → IsPlaced new o
placed_on old new o on placed q e entry = on e.name o.number q (placed q e entry)

-- one more input
pub inputs_step :
    (old new : NamePlaces) (os : List Opened) (i : ℕ) (x : Opened) → i < length os → x ≡ get_or os i x → IsPlaced new x →
    ((n : List ℕ) (j q : ℕ) → has_place old n j q ≡ true → has_place new n j q ≡ true) → ((k : ℕ) (d : Opened) → k < i → IsPlaced old (get_or os k d)) →
    (k : ℕ) (d : Opened) → k < i + 1 → IsPlaced new (get_or os k d)
inputs_step old new os i x low is here on before k d within = by (cases_lt k i)
  where
    by : (k < i) ⊎ (i ≤ k) → IsPlaced new (get_or os k d)
    by (inl less) = placed_on old new (get_or os k d) on (before k d less)
    by (inr high) =
        let same : i ≡ k = omega (arith, within, high) in
        subst (λ (j : ℕ). IsPlaced new (get_or os j d)) same (subst (IsPlaced new) (is ∙ get_or_default os i x d low) here)

-- what holds of all inputs holds of the one at its number
pub at_number : (P : Opened → Type 0) (os : List Opened) (o : Opened) → All P os → IsAt os o → P o
at_number P os o all at = subst P (get_or_from_slice_get os o.number o o at) (all o.number o (slice_get_within os o.number o at))

-- where all places of a name are woken, all entries of the name are
pub all_woken :
    (names : NamePlaces) (os : List Opened) (name : List ℕ) (list : List (ℕ × ℕ)) (old new : Awake) → ArePlaced names os → list ≡ places_in names name →
    ((i q : ℕ) → is_awake new i q ≡ (list_any (is_place i q) list || is_awake old i q)) → IsWoken os name new
all_woken names os name list old new placed is told o q e at entry same =
    let there : has_place names e.name o.number q ≡ true = at_number (IsPlaced names) os o placed at q e entry in
    told o.number q
    ∙ or_left (list_any (is_place o.number q) list) (is_awake old o.number q)
    (ap (list_any (is_place o.number q)) (is ∙ ap (places_in names) (sym same)) ∙ there)

-- opened items stand at their numbers
at_from :
    (files : List File) (directories : List (List ℕ)) (whole : List Opened) (k : ℕ) (items : List Item) →
    ((j : ℕ) → slice_get whole (k + j) ≡ slice_get (opened_from files directories k items) j) → All (IsAt whole) (opened_from files directories k items)
at_from files directories whole k [] same = All-nil (IsAt whole)
at_from files directories whole k (item ∷ items) same =
    let first : k ≡ k + 0 = omega arith in
    All-cons (IsAt whole) (opened_item files directories k item) (opened_from files directories (k + 1) items) (ap (slice_get whole) first ∙ same 0)
    (at_from files directories whole (k + 1) items (λ j. let next : (k + 1) + j ≡ k + suc j = omega arith in ap (slice_get whole) next ∙ same (suc j)))

pub all_at : (files : List File) (plan : Plan) → All (IsAt (opened files plan)) (opened files plan)
all_at files plan = at_from files plan.directories (opened files plan) 0 plan.items (λ j. let e : 0 + j ≡ j = omega arith in ap (slice_get (opened files plan)) e)
