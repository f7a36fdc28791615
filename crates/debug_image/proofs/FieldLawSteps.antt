-- The bytes of a field that shares none with another one.
use Rattle.std.proofs.Common.{◌≡◌, ◌<◌, ◌≤◌, ◌+◌, ◌∙◌, ◌∷◌, [], ℕ, Bool, true, false, cond, List, Option, None, Some, ap, arith, drop, get_or, length, refl, sym, take, zero, suc}
use Rattle.std.specs.Prelude.{Contains, count_by, slice_index}
use Rattle.std.specs.List.{filter_map}
use Rattle.std.specs.Option.{option_and_then, option_map_or}
use Rattle.std.proofs.Common.{subst}
use Rattle.std.specs.List.{cons_option}
use Rattle.std.proofs.lemmas.Option.{none-some, same_Some}
use Rattle.std.proofs.lemmas.Bool.{false≢true}
use Rattle.std.proofs.lemmas.Bool.Decides.{nat_tests}
use Rattle.std.proofs.lemmas.List.{ext_get_or, get_or-drop, get_or-take, length-drop, length-take}
use Rattle.std.proofs.lemmas.List.FromFn.{get_or-map-range_with_len, length-map-range_with_len}
use Rattle.std.proofs.lemmas.List.Sums.{sum_by-cons}
use Rattle.byteview.specs.Numbers.{le_bytes}
use Rattle.byteview.proofs.NumberLaws.{length-le_bytes}
use Rattle.elf_model.specs.Link.Loading.{LoadedObject}
use Rattle.elf_model.specs.Link.Placement.{Placed}
use Rattle.elf_model.specs.Link.Relocation.{Kind, Relocation, relocation_of}
use Rattle.elf_model.specs.declared.records.Rela.{Rela}
use Rattle.debug_image.specs.DebugValues.{Data, Field, byte_under, covers, debug_byte, debug_bytes, entries_for, entry_field, field_byte, field_of, field_with, fields, fields_for, fitting_value, in_range, is_inside, is_shared, shares_bytes, value_by}
use Rattle.debug_image.specs.FieldLaws.{FieldsHaveValues, FieldsWithoutData, IsApart, OthersAreOfInput, field_bytes, formula_value}
use Rattle.debug_image.proofs.AnySteps.{some_at}

counts : (j : ℕ) (g : Field) (gs : List Field) → count_by (covers j) (g ∷ gs) ≡ cond (covers j g) 1 0 + count_by (covers j) gs
counts j g gs = sum_by-cons (λ (f : Field). cond (covers j f) 1 0) g gs

one_of : (b : Bool) → b ≡ true → cond {A = ℕ} b 1 0 ≡ 1
one_of true e = refl
one_of false e = absurd (false≢true e)

nothing_with_one : (a n : ℕ) → a + n ≡ 0 → a ≡ 1 → ⊥
nothing_with_one a n none one = omega (arith, none, one)

rest_is_none : (a n : ℕ) → a + n ≡ 0 → n ≡ 0
rest_is_none a n none = omega (arith, none)

-- a byte in no field
pub untouched : (j x : ℕ) (fs : List Field) → count_by (covers j) fs ≡ 0 → byte_under j x fs ≡ x
untouched j x [] none = refl
untouched j x (g ∷ gs) none = by (covers j g) refl (untouched j x gs (rest_is_none (cond {A = ℕ} (covers j g) 1 0) (count_by (covers j) gs) (sym (counts j g gs) ∙ none)))
  where
    by : (b : Bool) → covers j g ≡ b → byte_under j x gs ≡ x → byte_under j (cond (covers j g) (field_byte j g) x) gs ≡ x
    by true e rest = absurd (nothing_with_one (cond {A = ℕ} (covers j g) 1 0) (count_by (covers j) gs) (sym (counts j g gs) ∙ none) (one_of (covers j g) e))
    by false e rest = ap (λ (b : Bool). byte_under j (cond b (field_byte j g) x) gs) e ∙ rest

at_least : (a n m : ℕ) → m ≡ a + n → a ≡ 1 → 1 ≤ m
at_least a n m is one = omega (arith, is, one)

more_than : (a n m : ℕ) → m ≡ a + n → 1 ≤ n → 1 ≤ m
more_than a n m is some = omega (arith, is, some)

counted : (j : ℕ) (fs : List Field) (f : Field) → Contains fs f → covers j f ≡ true → 1 ≤ count_by (covers j) fs
counted j [] f (k, low, is) there = absurd (omega (arith, low))
counted j (g ∷ gs) f (zero, low, is) there =
    at_least (cond {A = ℕ} (covers j g) 1 0) (count_by (covers j) gs) (count_by (covers j) (g ∷ gs)) (counts j g gs) (one_of (covers j g) (ap (covers j) is ∙ there))
counted j (g ∷ gs) f (suc k, low, is) there =
    more_than (cond {A = ℕ} (covers j g) 1 0) (count_by (covers j) gs) (count_by (covers j) (g ∷ gs)) (counts j g gs) (counted j gs f (k, omega (arith, low), is) there)

rest_of_one : (a n m : ℕ) → m ≡ a + n → a ≡ 1 → m ≤ 1 → n ≡ 0
rest_of_one a n m is one most = omega (arith, is, one, most)

two_of_one : (a n m : ℕ) → m ≡ a + n → a ≡ 1 → 1 ≤ n → m ≤ 1 → ⊥
two_of_one a n m is one some most = omega (arith, is, one, some, most)

rest_at_most : (a n m : ℕ) → m ≡ a + n → m ≤ 1 → n ≤ 1
rest_at_most a n m is most = omega (arith, is, most)

-- a byte in one field only
pub alone : (j b : ℕ) (fs : List Field) (f : Field) → Contains fs f → covers j f ≡ true → count_by (covers j) fs ≤ 1 → byte_under j b fs ≡ field_byte j f
alone j b [] f (k, low, is) there most = absurd (omega (arith, low))
alone j b (g ∷ gs) f (zero, low, is) there most =
    untouched j (cond (covers j g) (field_byte j g) b) gs
    (rest_of_one (cond {A = ℕ} (covers j g) 1 0) (count_by (covers j) gs) (count_by (covers j) (g ∷ gs)) (counts j g gs) (one_of (covers j g) (ap (covers j) is ∙ there)) most)
    ∙ (ap (λ (h : Field). cond (covers j h) (field_byte j h) b) is ∙ ap (λ (t : Bool). cond t (field_byte j f) b) there)
alone j b (g ∷ gs) f (suc k, low, is) there most =
    by (covers j g) refl
    (alone j b gs f (k, omega (arith, low), is) there (rest_at_most (cond {A = ℕ} (covers j g) 1 0) (count_by (covers j) gs) (count_by (covers j) (g ∷ gs)) (counts j g gs) most))
  where
    by : (t : Bool) → covers j g ≡ t → byte_under j b gs ≡ field_byte j f → byte_under j (cond (covers j g) (field_byte j g) b) gs ≡ field_byte j f
    by true e rest =
        absurd
        (two_of_one (cond {A = ℕ} (covers j g) 1 0) (count_by (covers j) gs) (count_by (covers j) (g ∷ gs)) (counts j g gs) (one_of (covers j g) e)
        (counted j gs f (k, omega (arith, low), is) there) most)
    by false e rest = ap (λ (t : Bool). byte_under j (cond t (field_byte j g) b) gs) e ∙ rest

-- what an entry has is among what entries have
among : {X Y : Type 0} (h : X → Option Y) (xs : List X) (x : X) (y : Y) → Contains xs x → h x ≡ Some y → Contains (filter_map h xs) y
among h [] x y (k, low, is) has = absurd (omega (arith, low))
among {X} {Y} h (z ∷ xs) x y (zero, low, is) has = first (h z) (ap h is ∙ has)
  where
    first : (o : Option Y) → o ≡ Some y → Contains (cons_option o (filter_map h xs)) y
    first None e = absurd (none-some y e)
    first (Some w) e = (0, omega arith, same_Some w y e)
among {X} {Y} h (z ∷ xs) x y (suc k, low, is) has = later (h z) (among h xs x y (k, omega (arith, low), is) has)
  where
    later : (o : Option Y) → Contains (filter_map h xs) y → Contains (cons_option o (filter_map h xs)) y
    later None c = c
    later (Some w) (i, below, at) = (suc i, omega (arith, below), at)

-- the bytes of such a field
module _ (d : Data) (q : Placed) (f : Field) (there : Contains (fields d q) f) (inside : f.at + f.width ≤ length q.piece.bytes) (apart : shares_bytes d q ≡ false) where
  few : (j : ℕ) → j < length q.piece.bytes → count_by (covers j) (fields d q) ≤ 1
  few j low = by (is_shared (fields d q) j) refl
    where
      by : (b : Bool) → is_shared (fields d q) j ≡ b → count_by (covers j) (fields d q) ≤ 1
      by true e = absurd (false≢true (sym apart ∙ some_at (is_shared (fields d q)) (length q.piece.bytes) j low e))
      by false e = grind (arith, nat_tests)

  byte_at : (i : ℕ) → i < f.width → debug_byte d q (f.at + i) ≡ get_or (le_bytes f.width f.value) i 0
  byte_at i low =
      let covered : covers (f.at + i) f ≡ true = grind (arith, nat_tests, low) in
      let within : f.at + i < length q.piece.bytes = omega (arith, low, inside) in
      alone (f.at + i) (slice_index q.piece.bytes (f.at + i)) (fields d q) f there covered (few (f.at + i) within)
      ∙ ap (λ (n : ℕ). get_or (le_bytes f.width f.value) n 0) (omega arith)

  pub spelled : take f.width (drop f.at (debug_bytes d q)) ≡ le_bytes f.width f.value
  spelled =
      let n = length q.piece.bytes in
      let all : length (debug_bytes d q) ≡ n = length-map-range_with_len (debug_byte d q) 0 n in
      let t = length-take f.width (drop f.at (debug_bytes d q)) in
      let r = length-drop f.at (debug_bytes d q) in
      let w = length-le_bytes f.width f.value in
      ext_get_or 0 (take f.width (drop f.at (debug_bytes d q))) (le_bytes f.width f.value) (omega (arith, t, r, all, w, inside))
      (λ i low.
      let below : i < f.width = omega (arith, low, t) in
      get_or-take f.width (drop f.at (debug_bytes d q)) i 0 below
      ∙ (get_or-drop f.at (debug_bytes d q) i 0
      ∙ (get_or-map-range_with_len (debug_byte d q) 0 n (f.at + i) (f.at + i) 0 (omega (arith, below, inside)) (omega arith) ∙ byte_at i below)))

-- the field of an entry
module _ (d : Data) (q : Placed) (o : LoadedObject) (r : Rela) (k : Kind) (a : IsApart d q o r k) where
  here : Relocation
  here = relocation_of q.piece.object o q.piece.section r

  field : Field
  field = field_with r k (fitting_value d q (relocation_of q.piece.object o q.piece.section r) k)

  has_field : entry_field d q o r ≡ Some (field_with r k (fitting_value d q (relocation_of q.piece.object o q.piece.section r) k))
  has_field =
      ap (option_and_then (field_of d q (relocation_of q.piece.object o q.piece.section r))) a.kind
      ∙ ap (λ (b : Bool). cond {A = Option Field} b (Some (field_with r k (fitting_value d q (relocation_of q.piece.object o q.piece.section r) k))) None) is_in
    where
      is_in : is_inside q r k ≡ true
      is_in = let fits = a.inside in grind (arith, nat_tests, fits)

  listed : Contains (fields d q) (field_with r k (fitting_value d q (relocation_of q.piece.object o q.piece.section r) k))
  listed =
      subst (λ (fs : List Field). Contains fs (field_with r k (fitting_value d q (relocation_of q.piece.object o q.piece.section r) k)))
      (sym (ap (λ (x : Option LoadedObject). option_map_or (fields_for d q) x []) a.object))
      (among (entry_field d q o) (entries_for o q.piece.section) r _ a.entry has_field)

  pub valued : (v : Option ℕ) → fitting_value d q (relocation_of q.piece.object o q.piece.section r) k ≡ v → field_bytes d q r k ≡ le_bytes k.width (field_with r k v).value
  valued v is =
      spelled d q (field_with r k (fitting_value d q (relocation_of q.piece.object o q.piece.section r) k)) listed a.inside a.apart
      ∙ ap (λ (w : Option ℕ). le_bytes k.width (field_with r k w).value) is

pub values_hold : FieldsHaveValues
values_hold d q o r k s a means fits =
    valued d q o r k a (Some (formula_value d q o r k s))
    (ap (option_and_then (in_range k)) (ap (value_by d q (relocation_of q.piece.object o q.piece.section r) k) means)
    ∙ ap (λ (b : Bool). cond {A = Option ℕ} b (Some (formula_value d q o r k s)) None) fits)

pub nowhere_holds : FieldsWithoutData
nowhere_holds d q o r k a means =
    valued d q o r k a None (ap (option_and_then (in_range k)) (ap (value_by d q (relocation_of q.piece.object o q.piece.section r) k) means))

pub others_hold : OthersAreOfInput
others_hold d q j low none =
    get_or-map-range_with_len (debug_byte d q) 0 (length q.piece.bytes) j j 0 low (omega arith)
    ∙ untouched j (slice_index q.piece.bytes j) (fields d q) none
