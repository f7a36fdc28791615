-- The byte that a row's fields give is the wanted one, and a row's fields lie inside the piece of their section.
use Rattle.std.proofs.Common.{◌≡◌, ℕ, zero, suc, ◌+◌, ◌<◌, ◌≤◌, ◌&&◌, ◌⊎◌, inl, inr, Bool, true, false, List, [], ◌∷◌, ◌++◌, Option, Some, None, get_or, length, map, option_map, refl, sym, ap, subst, ◌∙◌, arith}
use Rattle.std.specs.Prelude.{All, AllPairs, Contains, IsPermutation, filter, find, unwrap_or}
use Rattle.std.specs.Global.{Vec}
use Rattle.std.specs.List.{slice_get}
use Rattle.std.specs.Option.{option_or}
use Rattle.std.proofs.lemmas.Bool.{eqb-true}
use Rattle.std.proofs.lemmas.Bool.Decides.{nat_tests}
use Rattle.std.proofs.lemmas.List.Elements.{All-contains, All-contains_itself, All-filter, All-map, All-weaker, filter_passes}
use Rattle.std.proofs.lemmas.List.Folds.{find-append}
use Rattle.std.proofs.lemmas.List.Sorted.{All-permutation, IsPermutation-sym}
use Rattle.std.proofs.lemmas.Option.{slice_get-get_or, slice_get_cases}
use Rattle.elf_model.proofs.Finding.{find-found, find-none, none-passes}
use Rattle.elf_model.proofs.Found.{find-agree, find-filter, find-map, or_none}
use Rattle.elf_model.proofs.Listed.{find_only}
use Rattle.elf_model.proofs.Pairs.{related}
use Rattle.elf_model.proofs.RelocationFields.{ends_inside, in_field, later_objects, own_object, own_sizes, width_some}
use Rattle.elf_model.specs.Link.Loading.{LoadedObject}
use Rattle.elf_model.specs.Inputs.ObjectFile.{section, sections}
use Rattle.elf_model.specs.Link.Placement.{Where}
use Rattle.elf_model.specs.Link.Pieces.{Piece}
use Rattle.elf_model.specs.Link.Relocation.{Relocation, is_in_field, relocations, relocations_from, relocations_of, width_of}
use Rattle.elf_model.specs.Link.WantedBytes.{byte_or_field, wanted_byte}
use Rattle.elf_model.proofs.OwnFields.{in_range}
use Rattle.check_relocs.specs.Bytes.{FitsIn, byte_of, covers, fields_in, is_of, row_of}
use Rattle.check_relocs.specs.Fields.{AreRows, IsBefore, IsRight, IsRow, IsRowOf, LiesIn, field_of}
use Rattle.check_relocs.specs.declared.fields.Field.{Field}

-- Searches.

find-left : {X : Type 0} (p : X → Bool) (xs ys : List X) → All (λ y. p y ≡ false) ys → find p (xs ++ ys) ≡ find p xs
find-left {X} p xs ys none =
    find-append p xs ys ∙ (ap (λ (o : Option X). option_or (find p xs) o) (find-none p ys none) ∙ or_none (find p xs))

find-right : {X : Type 0} (p : X → Bool) (xs ys : List X) → All (λ x. p x ≡ false) xs → find p (xs ++ ys) ≡ find p ys
find-right {X} p xs ys none = find-append p xs ys ∙ ap (λ (o : Option X). option_or o (find p ys)) (find-none p xs none)

-- a test that two related elements never both pass finds the same in any order
find-moved :
    {X : Type 0} (R : X → X → Type 0) (p : X → Bool) (xs ys : List X) → IsPermutation xs ys → AllPairs R ys →
    ((x y : X) → R x y → p x ≡ true → p y ≡ true → ⊥) → find p ys ≡ find p xs
find-moved {X} R p xs ys moved pairs apart = by (find p ys) refl
  where
    only : (x y : X) → Contains ys x → Contains ys y → p x ≡ true → p y ≡ true → y ≡ x
    only x y cx cy ex ey = of (related R ys y x pairs cy cx)
      where
        of : (y ≡ x) ⊎ (R y x ⊎ R x y) → y ≡ x
        of (inl e) = e
        of (inr (inl r)) = absurd (apart y x r ey ex)
        of (inr (inr r)) = absurd (apart x y r ex ey)

    there : (x : X) → Contains ys x → Contains xs x
    there x c =
        All-contains (Contains xs) ys x
        (All-permutation (Contains xs) xs ys moved (λ k d low. All-contains_itself xs k d low)) c

    back : (x : X) → Contains xs x → Contains ys x
    back x c =
        All-contains (Contains ys) xs x
        (All-permutation (Contains ys) ys xs (IsPermutation-sym xs ys moved) (λ k d low. All-contains_itself ys k d low)) c

    by : (o : Option X) → find p ys ≡ o → find p ys ≡ find p xs
    by None e =
        e
        ∙ sym
        (find-none p xs
        (All-permutation (λ (x : X). p x ≡ false) ys xs (IsPermutation-sym xs ys moved) (none-passes p ys e)))
    by (Some x) e =
        let f = find-found p ys x e in
        e ∙ sym (find_only p xs x (there x f.there) f.passes (λ y c t. only x y f.there (back y c) f.passes t))

-- The relocations of one object among all.

-- of another object no relocation has the byte
not_in : (o s k : ℕ) (r : Relocation) → (r.object ≡ o → ⊥) → is_in_field o s k r ≡ false
not_in o s k r differ = by (is_in_field o s k r) refl
  where
    by : (b : Bool) → is_in_field o s k r ≡ b → is_in_field o s k r ≡ false
    by true e = absurd (differ (in_field o s k r e).0)
    by false e = e

of_object :
    (os : List LoadedObject) (n i s k : ℕ) (d : LoadedObject) → i < length os →
    find (is_in_field (n + i) s k) (relocations_of n os) ≡ find (is_in_field (n + i) s k) (relocations_from (n + i) (get_or os i d))
of_object [] n i s k d low = absurd (omega (arith, low))
of_object (o ∷ os) n zero s k d low =
    let e : n + 0 ≡ n = omega arith in
    let one =
    find-left (is_in_field n s k) (relocations_from n o) (relocations_of (n + 1) os)
    (All-weaker (λ (r : Relocation). n + 1 ≤ r.object) (λ r. is_in_field n s k r ≡ false) (λ r h. not_in n s k r (λ same. omega (arith, h, same)))
    (relocations_of (n + 1) os) (later_objects (n + 1) os)) in
    subst (λ (m : ℕ). find (is_in_field m s k) (relocations_of n (o ∷ os)) ≡ find (is_in_field m s k) (relocations_from m o)) (sym e) one
of_object (o ∷ os) n (suc i) s k d low =
    let e : n + suc i ≡ (n + 1) + i = omega arith in
    let rest = of_object os (n + 1) i s k d (omega (arith, low)) in
    let whole =
    find-right (is_in_field ((n + 1) + i) s k) (relocations_from n o) (relocations_of (n + 1) os)
    (All-weaker (λ (r : Relocation). r.object ≡ n) (λ r. is_in_field ((n + 1) + i) s k r ≡ false) (λ r h. not_in ((n + 1) + i) s k r (λ same. omega (arith, h, same)))
    (relocations_from n o) (own_object n o)) ∙ rest in
    subst (λ (m : ℕ). find (is_in_field m s k) (relocations_of n (o ∷ os)) ≡ find (is_in_field m s k) (relocations_from m (get_or os i d))) (sym e) whole

-- the first object's number is 0
of_all :
    (os : List LoadedObject) (i s k : ℕ) (d : LoadedObject) → i < length os →
    find (is_in_field i s k) (relocations os) ≡ find (is_in_field i s k) (relocations_from i (get_or os i d))
of_all os i s k d low =
    let e : 0 + i ≡ i = omega arith in
    subst (λ (m : ℕ). find (is_in_field m s k) (relocations os) ≡ find (is_in_field m s k) (relocations_from m (get_or os i d))) e
    (of_object os 0 i s k d low)

-- The fields of one section in a row.

both : (s k : ℕ) (f : Field) → (is_of s f && covers k f) ≡ true → (f.section ≡ s) × (f.at ≤ k) × (k < f.at + f.width)
both s k f e = (grind (arith, nat_tests), grind (arith, nat_tests), grind (arith, nat_tests))

not_both : (s k : ℕ) (f g : Field) → IsBefore f g → (is_of s f && covers k f) ≡ true → (is_of s g && covers k g) ≡ true → ⊥
not_both s k f g before e h = of before (both s k f e) (both s k g h)
  where
    of : IsBefore f g → (f.section ≡ s) × (f.at ≤ k) × (k < f.at + f.width) → (g.section ≡ s) × (g.at ≤ k) × (k < g.at + g.width) → ⊥
    of (inl less) a b = omega (arith, less, a.0, b.0)
    of (inr same) a b = omega (arith, same.1, a.2, b.1)

-- the field of a row that has byte k of section s
row_found :
    (objects : List LoadedObject) (ps : Where) (o s k : ℕ) (rs : List Relocation) (row : List Field) → All (λ r. r.object ≡ o) rs →
    IsRow (map (field_of objects ps) rs) row →
    find (covers k) (filter (is_of s) row) ≡ option_map (field_of objects ps) (find (is_in_field o s k) rs)
row_found objects ps o s k rs row own is =
    find-filter (is_of s) (covers k) row
    ∙ (find-moved IsBefore (λ (f : Field). is_of s f && covers k f) (map (field_of objects ps) rs) row is.same is.rising (not_both s k)
    ∙ (find-map (λ (f : Field). is_of s f && covers k f) (field_of objects ps) rs
    ∙ ap (option_map (field_of objects ps))
    (find-agree (λ (r : Relocation). is_of s (field_of objects ps r) && covers k (field_of objects ps r)) (is_in_field o s k) rs
    (λ i d low. in_range o s k (get_or rs i d) (own i d low)))))

byte_is :
    (objects : List LoadedObject) (ps : Where) (p : Piece) (k : ℕ) (o : Option Relocation) →
    byte_of p.bytes k (option_map (field_of objects ps) o) ≡ byte_or_field objects ps p k o
byte_is objects ps p k None = refl
byte_is objects ps p k (Some r) = refl

-- the row of an object that is there
row_at : (rows : List (Vec Field)) (i : ℕ) (d : Vec Field) → i < length rows → row_of rows i ≡ (get_or rows i d).items
row_at rows i d low = ap (λ (o : Option (Vec Field)). unwrap_or (option_map (λ row. row.items) o) []) (slice_get-get_or rows i d low)

-- a row that is there
some_row : (rows : List (Vec Field)) (i : ℕ) → i < length rows → (d : Vec Field) × (slice_get rows i ≡ Some d)
some_row rows i low = of (slice_get_cases rows i).1
  where
    of : ((x : Vec Field) × (i < length rows) × (slice_get rows i ≡ Some x) × (get_or rows i x ≡ x)) ⊎ ((length rows ≤ i) × (slice_get rows i ≡ None)) → (d : Vec Field) × (slice_get rows i ≡ Some d)
    of (inl a) = (a.0, a.2)
    of (inr b) = absurd (omega (arith, low, b.0))

pub some_object : (os : List LoadedObject) (i : ℕ) → i < length os → (o : LoadedObject) × (slice_get os i ≡ Some o)
some_object os i low = of (slice_get_cases os i).1
  where
    of : ((x : LoadedObject) × (i < length os) × (slice_get os i ≡ Some x) × (get_or os i x ≡ x)) ⊎ ((length os ≤ i) × (slice_get os i ≡ None)) → (o : LoadedObject) × (slice_get os i ≡ Some o)
    of (inl a) = (a.0, a.2)
    of (inr b) = absurd (omega (arith, low, b.0))

-- the byte that the fields of its section give a piece of an object that is there, in that object's row
pub byte_in_row :
    (objects : List LoadedObject) (ps : Where) (row : List Field) (p : Piece) (k : ℕ) (o : LoadedObject) → p.object < length objects →
    IsRowOf objects ps p.object (get_or objects p.object o) row →
    byte_of p.bytes k (find (covers k) (filter (is_of p.section) row)) ≡ wanted_byte objects ps p k
byte_in_row objects ps row p k o low is =
    let rs = relocations_from p.object (get_or objects p.object o) in
    ap (byte_of p.bytes k) (row_found objects ps p.object p.section k rs row (own_object p.object (get_or objects p.object o)) is.sorted)
    ∙ (byte_is objects ps p k (find (is_in_field p.object p.section k) rs)
    ∙ ap (byte_or_field objects ps p k) (sym (of_all objects p.object p.section k o low)))

-- and they lie inside the piece where it has its section's size
pub fields_inside :
    (objects : List LoadedObject) (ps : Where) (row : List Field) (n : ℕ) (s : ℕ) (size : ℕ) (o : LoadedObject) →
    size ≡ (section (sections o.bytes) s).sh_size → IsRowOf objects ps n o row → All (FitsIn size) (filter (is_of s) row)
fields_inside objects ps row n s size o has is i d within =
    let f = get_or (filter (is_of s) row) i d in
    let lies : LiesIn o.bytes f = All-filter (is_of s) (LiesIn o.bytes) row is.inside i d within in
    let of : f.section ≡ s = eqb-true f.section s (filter_passes (is_of s) row i d within) in
    let same : (section (sections o.bytes) f.section).sh_size ≡ size = ap (λ (j : ℕ). (section (sections o.bytes) j).sh_size) of ∙ sym has in
    record { inside = subst (λ (n : ℕ). f.at + f.width ≤ n) same lies.inside; narrow = lies.narrow }

module _ (objects : List LoadedObject) (ps : Where) (rows : List (Vec Field)) (are : AreRows objects ps rows) where
  own_row : (i : ℕ) (o : LoadedObject) → i < length objects → IsRowOf objects ps i (get_or objects i o) (row_of rows i)
  own_row i o low =
      let count = are.count in
      let there : i < length rows = omega (arith, low, count) in
      let d = (some_row rows i there).0 in
      subst (IsRowOf objects ps i (get_or objects i o)) (sym (row_at rows i d there)) (are.each i d o there)

  -- the byte that the fields of its section give a piece of an object that is there
  pub byte_wanted :
      (p : Piece) (k : ℕ) → p.object < length objects →
      byte_of p.bytes k (find (covers k) (fields_in rows p.object p.section)) ≡ wanted_byte objects ps p k
  byte_wanted p k low =
      let o = (some_object objects p.object low).0 in
      byte_in_row objects ps (row_of rows p.object) p k o low (own_row p.object o low)

-- the fields of right relocations lie inside their sections, in a row of them too
pub row_inside :
    (objects : List LoadedObject) (ps : Where) (n : ℕ) (o : LoadedObject) (row : List Field) → All (IsRight objects ps) (relocations_from n o) →
    IsPermutation (map (field_of objects ps) (relocations_from n o)) row → All (LiesIn o.bytes) row
row_inside objects ps n o row right moved =
    All-permutation (LiesIn o.bytes) (map (field_of objects ps) (relocations_from n o)) row moved
    (All-map (LiesIn o.bytes) (field_of objects ps) (relocations_from n o) (λ i d low. lies (get_or (relocations_from n o) i d) (right i d low) (own_sizes n o i d low)))
  where
    lies : (r : Relocation) → IsRight objects ps r → r.size ≡ (section (sections o.bytes) r.section).sh_size → LiesIn o.bytes (field_of objects ps r)
    lies r w size =
        let inside : r.entry.r_offset + width_of r ≤ r.size = ends_inside r w.lawful.known w.lawful.inside in
        record { inside = subst (λ (m : ℕ). r.entry.r_offset + width_of r ≤ m) size inside; narrow = (width_some r w.lawful.known).1 }
