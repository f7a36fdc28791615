-- Symbols inside instructions, by numbers of where they are defined, and object by object.
use Rattle.std.proofs.Common.{◌≡◌, ℕ, ◌+◌, ◌*◌, ◌<◌, ◌≤◌, ◌^◌, ◌==◌, ◌⊎◌, inl, inr, Bool, true, false, not, cond, List, [], ◌∷◌, length, get_or, Some, ap, refl, subst, sym, ◌∙◌, arith}
use Rattle.std.specs.Prelude.{◌↔◌, All, Any, Contains, IsPermutation, IsTrue, min}
use Rattle.std.specs.List.{flat_map, slice_get}
use Rattle.std.specs.Option.{option_map_or}
use Rattle.std.proofs.lemmas.Bool.{cases_lt, eqb-true, false≢true}
use Rattle.std.proofs.lemmas.List.Elements.{All-contains, All-weaker}
use Rattle.std.proofs.lemmas.List.Sorted.{Contains-permutation, IsPermutation-sym}
use Rattle.elf_model.proofs.Finding.{Any-from_contains}
use Rattle.field_judge.proofs.SomeRow.{any_at}
use Rattle.elf_model.proofs.Listed.{All-from_contains, Contains-cons_cases, Contains-flat_map, Contains-from_flat_map, Contains-here, Contains-nil}
use Rattle.elf_model.specs.Inputs.ObjectFile.{symbols}
use Rattle.elf_model.specs.Link.Loading.{LoadedObject}
use Rattle.elf_model.specs.Link.Relocation.{Relocation, relocations}
use Rattle.elf_model.specs.declared.link_map.DropLine.{DropLine}
use Rattle.elf_model.specs.declared.records.Symbol.{Symbol}
use Rattle.judge_model.specs.Certificates.{is_left_out}
use Rattle.judge_model.specs.Fields.{IsDefinedInside, IsWholeInstruction, place_start, place_width, symbols_in}
use Rattle.judge_model.specs.Links.{ForeignLink, is_in_image_too, objects_of, relocations_of}
use Rattle.judge_model.specs.Rewrites.{front_of}
use Rattle.link_fields.proofs.Lists.{passing}
use Rattle.input_judge.specs.WholeCode.{IsBetween, IsShort, IsWholeUnlessOut, key_of, point_of, points_of}
use Rattle.input_judge.specs.declared.whole_code.Point.{Point}

-- the points of a symbol
points_has : (s : Symbol) (p : Point) → Contains (points_of s) p → p ≡ point_of s
points_has s p c = by (s.st_value == 0) c
  where
    by : (b : Bool) → Contains (cond b [] (point_of s ∷ [])) p → p ≡ point_of s
    by true c = absurd (Contains-nil p c)
    by false c = only (Contains-cons_cases (point_of s) [] p c)
      where
        only : (point_of s ≡ p) ⊎ Contains [] p → p ≡ point_of s
        only (inl e) = sym e
        only (inr none) = absurd (Contains-nil p none)

has_point : (s : Symbol) → 0 < s.st_value → Contains (points_of s) (point_of s)
has_point s some = by (s.st_value == 0) refl
  where
    by : (b : Bool) → (s.st_value == 0) ≡ b → Contains (cond b [] (point_of s ∷ [])) (point_of s)
    by true e = let none = eqb-true s.st_value 0 e in absurd (omega (arith, none, some))
    by false e = Contains-here [] (point_of s)

-- numbers in order are values in order
same_section :
    (section value from start high : ℕ) → value < 2 ^ 64 → high ≤ 2 ^ 64 → from * 2 ^ 64 + start < section * 2 ^ 64 + value →
    section * 2 ^ 64 + value < from * 2 ^ 64 + high → (section ≡ from) × ((start < value) × (value < high))
same_section section value from start high short low above below =
    let same : section ≡ from = omega (arith, short, low, above, below) in
    (same, (omega (arith, same, above), omega (arith, same, below)))

module _ (r : Relocation) (ss : List Symbol) (points : List Point) (same : IsPermutation (flat_map points_of ss) points) (short : All IsShort ss) (low high : ℕ) (low_is : low ≡ key_of r.section (place_start r)) (high_is : high ≡ key_of r.section (min (place_start r + place_width r) (2 ^ 64))) where
  inside_of : Any (IsBetween low high) points → Any (IsDefinedInside r) ss
  inside_of (i, p, within, at, between) =
      let c = Contains-permutation points (flat_map points_of ss) p (IsPermutation-sym (flat_map points_of ss) points same) (i, within, at) in
      let f = Contains-from_flat_map points_of ss p c in
      let key = ap (λ (q : Point). q.key) (points_has f.of p f.within) in
      let fits = All-contains IsShort ss f.of short f.there in
      let top : min (place_start r + place_width r) (2 ^ 64) ≤ 2 ^ 64 = omega arith in
      let least : min (place_start r + place_width r) (2 ^ 64) ≤ place_start r + place_width r = omega arith in
      let above = between.0 in
      let below = between.1 in
      let found =
      same_section f.of.st_shndx f.of.st_value r.section (place_start r) (min (place_start r + place_width r) (2 ^ 64)) fits top
      (subst (λ (n : ℕ). n < key_of f.of.st_shndx f.of.st_value) low_is (subst (λ (n : ℕ). low < n) key above))
      (subst (λ (n : ℕ). key_of f.of.st_shndx f.of.st_value < n) high_is (subst (λ (n : ℕ). n < high) key below)) in
      let last = found.1.1 in
      Any-from_contains (IsDefinedInside r) ss f.of f.there (found.0, found.1.0, omega (arith, last, least))

  between_of : Any (IsDefinedInside r) ss → Any (IsBetween low high) points
  between_of (i, s, within, at, here) =
      let section = here.0 in
      let above = here.1 in
      let below = here.2 in
      let fits = All-contains IsShort ss s short (i, within, at) in
      let c =
      Contains-permutation (flat_map points_of ss) points (point_of s) same
      (Contains-flat_map points_of ss s (point_of s) (i, within, at) (has_point s (omega (arith, above)))) in
      Any-from_contains (IsBetween low high) points (point_of s) c (omega (arith, low_is, section, above), omega (arith, high_is, section, below, fits))

  pub inside_by : (b : Bool) → IsTrue b ↔ Any (IsBetween low high) points → IsTrue b ↔ Any (IsDefinedInside r) ss
  inside_by b both = (λ t. inside_of (both.0 t), λ some. both.1 (between_of some))

-- a number between two among points in order
pub counted_between :
    (points : List Point) (low high a b : ℕ) (r : Bool) → b ≤ length points →
    ((k : ℕ) (d : Point) → k < a → (get_or points k d).key ≤ low) → ((k : ℕ) (d : Point) → a ≤ k → k < length points → low < (get_or points k d).key) →
    ((k : ℕ) (d : Point) → k < b → (get_or points k d).key < high) → ((k : ℕ) (d : Point) → b ≤ k → k < length points → high ≤ (get_or points k d).key) →
    IsTrue r ↔ (a < b) → IsTrue r ↔ Any (IsBetween low high) points
counted_between points low high a b r within through behind before from told = (to, back)
  where
    origin : Point
    origin = record { key = 0 }

    to : IsTrue r → Any (IsBetween low high) points
    to t =
        let less = told.0 t in
        any_at (IsBetween low high) points a origin (omega (arith, less, within)) (behind a origin (omega arith) (omega (arith, less, within)), before a origin less)

    back : Any (IsBetween low high) points → IsTrue r
    back (i, x, there, at, between) = told.1 (by (cases_lt i a) (cases_lt i b))
      where
        above : low < (get_or points i x).key
        above = subst (λ (p : Point). low < p.key) (sym at) between.0

        below : (get_or points i x).key < high
        below = subst (λ (p : Point). p.key < high) (sym at) between.1

        by : (i < a) ⊎ (a ≤ i) → (i < b) ⊎ (b ≤ i) → a < b
        by (inl early) other = let most = through i x early in let least = above in absurd (omega (arith, most, least))
        by (inr late) (inl before_b) = omega (arith, late, before_b)
        by (inr late) (inr past) = let least = from i x past there in let most = below in absurd (omega (arith, least, most))

pub key_at : (section value from at : ℕ) → from ≡ section → value ≡ at → key_of section value ≡ key_of from at
key_at section value from at same is = omega (arith, same, is)

-- one that tells no instruction, and one that isn't broken
pub untold : (objects : List LoadedObject) (drops : List DropLine) (r : Relocation) → front_of r.entry ≡ 0 → IsWholeUnlessOut objects drops r
untold objects drops r none = record { whole = λ kept. record { none = λ told. absurd (omega (arith, told, none)) } }

pub out_of : (objects : List LoadedObject) (drops : List DropLine) (r : Relocation) → is_left_out drops r.object r.section ≡ true → IsWholeUnlessOut objects drops r
out_of objects drops r out = record { whole = λ kept. absurd (false≢true (sym (ap not out) ∙ kept)) }

none_of : {X : Type 0} (P : X → Type 0) (xs : List X) → (Any P xs → ⊥) → All (λ x. ¬ P x) xs
none_of {X} P xs never = All-from_contains (λ (x : X). ¬ P x) xs (λ x there p. never (Any-from_contains P xs x there p))

module _ (objects : List LoadedObject) (drops : List DropLine) (o : LoadedObject) (r : Relocation) (own : slice_get objects r.object ≡ Some o) where
  own_symbols : symbols o.bytes ≡ symbols_in objects r.object
  own_symbols = ap (λ x. option_map_or (λ (q : LoadedObject). symbols q.bytes) x []) (sym own)

  pub whole_by :
      (b : Bool) → 0 < front_of r.entry → is_left_out drops r.object r.section ≡ false → IsTrue b ↔ Any (IsDefinedInside r) (symbols o.bytes) →
      IsTrue (not b) ↔ IsWholeUnlessOut objects drops r
  whole_by true told kept both = (
    λ t. absurd (false≢true t),
    λ w.
        let some = both.0 refl in
        let none = subst (λ (ss : List Symbol). All (λ s. ¬ IsDefinedInside r s) ss) (sym own_symbols) ((w.whole (ap not kept)).none told) in
        absurd (All-contains (λ (s : Symbol). ¬ IsDefinedInside r s) (symbols o.bytes) some.1 none (some.0, some.2, some.3) some.4),
  )
  whole_by false told kept both = (
    λ t. record {
      whole = λ there. record {
        none = λ some.
            subst (λ (ss : List Symbol). All (λ s. ¬ IsDefinedInside r s) ss) own_symbols
            (none_of (IsDefinedInside r) (symbols o.bytes) (λ any. false≢true (both.1 any)));
      };
    },
    λ w. refl,
  )

-- the relocations of the image among all
pub all_whole :
    (l : ForeignLink) (objects : List LoadedObject) (drops : List DropLine) → objects_of l ≡ objects → l.certificate.drops ≡ drops →
    All (IsWholeUnlessOut objects drops) (relocations objects) ↔ All (IsWholeInstruction (objects_of l)) (relocations_of l)
all_whole l objects drops same dropped =
    subst (λ (os : List LoadedObject). All (IsWholeUnlessOut os drops) (relocations os) ↔ All (IsWholeInstruction (objects_of l)) (relocations_of l)) same
    (subst (λ (ds : List DropLine). All (IsWholeUnlessOut (objects_of l) ds) (relocations (objects_of l)) ↔ All (IsWholeInstruction (objects_of l)) (relocations_of l)) dropped
    (to, from))
  where
    P : Relocation → Type 0
    P = IsWholeInstruction (objects_of l)

    to : All (IsWholeUnlessOut (objects_of l) l.certificate.drops) (relocations (objects_of l)) → All P (relocations_of l)
    to all =
        (passing P (is_in_image_too l) (relocations (objects_of l))).1
        (All-weaker (IsWholeUnlessOut (objects_of l) l.certificate.drops) (λ r. is_in_image_too l r ≡ true → P r) (λ r h there. h.whole there)
        (relocations (objects_of l)) all)

    from : All P (relocations_of l) → All (IsWholeUnlessOut (objects_of l) l.certificate.drops) (relocations (objects_of l))
    from all =
        All-weaker (λ r. is_in_image_too l r ≡ true → P r) (IsWholeUnlessOut (objects_of l) l.certificate.drops) (λ r h. record { whole = h })
        (relocations (objects_of l)) ((passing P (is_in_image_too l) (relocations (objects_of l))).0 all)
