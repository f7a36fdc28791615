-- Marks of the members of groups, one member and one group at a time.
use Rattle.std.proofs.Common.{◌≡◌, ◌∙◌, ◌⊎◌, inl, inr, ℕ, ◌+◌, ◌<◌, ◌≤◌, ◌==◌, ◌||◌, ◌&&◌, Bool, true, false, not, Some, List, [], ◌∷◌, ◌++◌, ap, arith, get_or, length, map, refl, set, subst, sym}
use Rattle.std.specs.Prelude.{drop, is_some, option_map, unwrap_or}
use Rattle.std.specs.List.{list_any, slice_get}
use Rattle.std.proofs.Math.Bool.{or-false, or_assoc}
use Rattle.std.proofs.Math.Seq.{get_or-append_seam}
use Rattle.std.proofs.lemmas.Bool.{cases_eq, cases_lt, eq-eqb, ne_eqb}
use Rattle.std.proofs.lemmas.List.{drop_all, get_or-set_other, get_or-set_same, get_or_append_left, get_or_past, length-append, length-map}
use Rattle.elf_model.specs.Marks.{is_marked}
use Rattle.elf_model.proofs.Rests.{rest_at}
use Rattle.std.proofs.lemmas.Option.{slice_get-get_or, slice_get-map, slice_get_within}
use Rattle.check_load.specs.Views.{loaded_view, loaded_views}
use Rattle.check_load.specs.declared.loaded.Loaded.{Loaded}
use Rattle.elf_model.specs.Inputs.ObjectFile.{null_symbol, symbol_name, symbols}
use Rattle.elf_model.specs.Link.LinkerNames.{named_output}
use Rattle.elf_model.specs.Link.Loading.{LoadedObject}
use Rattle.elf_model.specs.Link.Relocation.{symbol_at}
use Rattle.elf_model.specs.Link.Resolution.{binding, chosen}
use Rattle.elf_model.specs.declared.constants.TheConstants.{STB_LOCAL}
use Rattle.elf_model.specs.declared.records.Symbol.{Symbol}
use Rattle.judge_model.specs.Kept.{is_bound_name}
use Rattle.keep_judge.specs.Collected.{IsLinkRight, IsOutRight, is_bound_lost}

pub or_true : (b : Bool) → (b || true) ≡ true
or_true true = refl
or_true false = refl

-- a number more is marked
pub marked_one : (marks : List Bool) (k i : ℕ) → k < length marks → is_marked (set marks k true) i ≡ (is_marked marks i || k == i)
marked_one marks k i within = by (cases_eq k i)
  where
    by : (k ≡ i) ⊎ (k ≡ i → ⊥) → is_marked (set marks k true) i ≡ (is_marked marks i || k == i)
    by (inl same) =
        subst (λ (j : ℕ). get_or (set marks k true) j false ≡ true) same (get_or-set_same marks k true false within)
        ∙ (sym (or_true (is_marked marks i)) ∙ ap (λ (b : Bool). is_marked marks i || b) (sym (eq-eqb k i same)))
    by (inr other) =
        get_or-set_other marks k i true false (λ e. other (sym e))
        ∙ (sym (or-false (is_marked marks i)) ∙ ap (λ (b : Bool). is_marked marks i || b) (sym (ne_eqb k i other)))

-- what a test finds among an element and the rest of a list, once the element is taken in
module _ {X : Type 0} (test : X → Bool) (xs : List X) (at : ℕ) (d : X) (within : at < length xs) where
  pub taken : (old new whole : Bool) → new ≡ (old || test (get_or xs at d)) → (old || list_any test (drop at xs)) ≡ whole → (new || list_any test (drop (at + 1) xs)) ≡ whole
  taken old new whole step so_far =
      ap (λ (b : Bool). b || list_any test (drop (at + 1) xs)) step
      ∙ (or_assoc old (test (get_or xs at d)) (list_any test (drop (at + 1) xs))
      ∙ (ap (λ (ys : List X). old || list_any test ys) (sym (rest_at xs at d within)) ∙ so_far))

pub none_left : {X : Type 0} (test : X → Bool) (xs : List X) (at : ℕ) (now whole : Bool) → length xs ≤ at → (now || list_any test (drop at xs)) ≡ whole → now ≡ whole
none_left {X} test xs at now whole behind so_far =
    sym (or-false now) ∙ (sym (ap (λ (ys : List X). now || list_any test ys) (drop_all at xs behind)) ∙ so_far)

-- a test of what elements are seen as
pub any_viewed : {X Y : Type 0} (view : X → Y) (test : Y → Bool) (xs : List X) → list_any (λ x. test (view x)) xs ≡ list_any test (map view xs)
any_viewed view test [] = refl
any_viewed view test (x ∷ xs) = ap (λ (b : Bool). test (view x) || b) (any_viewed view test xs)

-- a mark behind marks, of the number that is next
module _ (marks : List Bool) (x : Bool) (n : ℕ) (S : ℕ → Bool) (len : length marks ≡ n) (told : (i : ℕ) → i < n → is_marked marks i ≡ S i) (is : x ≡ S n) where
  pub pushed : (i : ℕ) → i < n + 1 → is_marked (marks ++ x ∷ []) i ≡ S i
  pushed i low = by (cases_lt i n)
    where
      by : (i < n) ⊎ (n ≤ i) → is_marked (marks ++ x ∷ []) i ≡ S i
      by (inl under) = get_or_append_left marks (x ∷ []) false i (omega (arith, under, len)) ∙ told i under
      by (inr over) =
          let same : i ≡ n = omega (arith, over, low) in
          let at : i ≡ length marks = omega (arith, same, len) in
          ap (λ (j : ℕ). get_or (marks ++ x ∷ []) j false) at ∙ (get_or-append_seam marks x [] false ∙ (is ∙ ap S (sym same)))

-- what is so of truth values is so of the same
pub out_same : (n r u m s v : Bool) → n ≡ m → r ≡ s → u ≡ v → IsOutRight n r u → IsOutRight m s v
out_same n r u m s v never root out w =
    subst (λ (x : Bool). IsOutRight x s v) never (subst (λ (x : Bool). IsOutRight n x v) root (subst (IsOutRight n r) out w))

pub link_same : (f u k g v j : Bool) → f ≡ g → u ≡ v → k ≡ j → IsLinkRight f u k → IsLinkRight g v j
link_same f u k g v j ordered out linked w =
    subst (λ (x : Bool). IsLinkRight x v j) ordered (subst (λ (x : Bool). IsLinkRight f x j) out (subst (IsLinkRight f u) linked w))

pub longer : (marks : List Bool) (x : Bool) (n : ℕ) → length marks ≡ n → length (marks ++ x ∷ []) ≡ n + 1
longer marks x n len = let all = length-append marks (x ∷ []) in omega (arith, all, len)

-- a symbol that isn't there tells nothing
pub past_lost :
    (names : List LoadedObject) (lost : List ℕ → Bool) (n : ℕ) (o : LoadedObject) (j : ℕ) → length (symbols o.bytes) ≤ j →
    is_bound_lost names lost (symbol_at n o j) ≡ false
past_lost names lost n o j past =
    let name = unwrap_or (symbol_name o.bytes j) [] in
    ap
    (λ (e : Symbol). not (binding e == STB_LOCAL) && (is_bound_name name && (not (is_some (chosen names name)) && lost (named_output name))))
    (get_or_past (symbols o.bytes) j null_symbol past)

-- an object by its number
pub object_there : (xs : List Loaded) (k : ℕ) (x : Loaded) → k < length xs → x ≡ get_or xs k x → slice_get (loaded_views xs) k ≡ Some (loaded_view x)
object_there xs k x low is =
    slice_get-map loaded_view xs k
    ∙ (ap (option_map loaded_view) (slice_get-get_or xs k x low) ∙ ap (λ (y : Loaded). Some (loaded_view y)) (sym is))

pub object_within : (xs : List Loaded) (k : ℕ) (o : LoadedObject) → slice_get (loaded_views xs) k ≡ Some o → k < length xs
object_within xs k o there =
    let within = slice_get_within (loaded_views xs) k o there in
    let long = length-map xs loaded_view in
    omega (arith, within, long)
