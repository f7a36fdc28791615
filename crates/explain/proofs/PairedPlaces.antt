-- Two kept relocations that have two places are two of all: so fields that share a byte are no fields that are all apart.
use Rattle.std.proofs.Common.{◌≡◌, ◌∙◌, ◌⊎◌, inl, inr, ℕ, zero, suc, ◌+◌, ◌<◌, Bool, true, false, cond, List, [], ◌∷◌, ◌++◌, Some, ap, arith, map, refl, subst, sym}
use Rattle.std.specs.Prelude.{All, AllPairs, Contains, filter}
use Rattle.std.specs.List.{slice_get}
use Rattle.std.proofs.lemmas.Bool.{cases_order}
use Rattle.std.proofs.lemmas.List.Elements.{All-contains, All-cons, All-nil}
use Rattle.std.proofs.lemmas.Option.{none-some, same_Some}
use Rattle.elf_model.proofs.Listed.{All-parts, Contains-filter, Contains-from_slice_get, Contains-map}
use Rattle.elf_model.proofs.Pairs.{AllPairs-head, AllPairs-parts, AllPairs-tail, AllPairs-unmap}
use Rattle.elf_model.proofs.RelocationFields.{in_field}
use Rattle.elf_model.specs.Inputs.ObjectFile.{relas_of, sections}
use Rattle.elf_model.specs.Link.Loading.{LoadedObject}
use Rattle.elf_model.specs.Link.Relocation.{AreFieldsApart, Relocation, is_in_field, is_kept_rela, is_some_kind, relocation_of, relocations, relocations_behind, relocations_from, relocations_in, relocations_of}
use Rattle.elf_model.specs.declared.records.Rela.{Rela}
use Rattle.elf_model.specs.declared.records.SectionHeader.{SectionHeader}
use Rattle.flaws.proofs.Located.{among}
use Rattle.input_names.specs.RelocationPlaces.{IsOverlap, IsRelocationAt}
use Rattle.input_names.specs.declared.relocation_places.RelocationPlace.{RelocationPlace}

-- each of a front with each of the rest
cross : {X : Type 0} (R : X → X → Type 0) (xs ys : List X) → AllPairs R (xs ++ ys) → All (λ x. All (R x) ys) xs
cross R [] ys pairs = All-nil (λ x. All (R x) ys)
cross R (x ∷ xs) ys pairs =
    All-cons (λ z. All (R z) ys) x xs (All-parts (R x) xs ys (AllPairs-head R x (xs ++ ys) pairs)).1 (cross R xs ys (AllPairs-tail R x (xs ++ ys) pairs))

module _ {X Y : Type 0} (R : Y → Y → Type 0) (f : ℕ → X → List Y) (all : ℕ → List X → List Y) (more : (k : ℕ) (x : X) (xs : List X) → all k (x ∷ xs) ≡ f k x ++ all (k + 1) xs) where
  -- what one element of a list has, by its number
  within : (xs : List X) (k i n : ℕ) (x : X) → AllPairs R (all k xs) → slice_get xs i ≡ Some x → n ≡ k + i → AllPairs R (f n x)
  within [] k i n x pairs there number = absurd (none-some x there)
  within (z ∷ zs) k zero n x pairs there number =
      let at : k ≡ n = omega (arith, number) in
      subst (λ (m : ℕ). AllPairs R (f m x)) at
      (subst (λ (y : X). AllPairs R (f k y)) (same_Some z x there) (AllPairs-parts R (f k z) (all (k + 1) zs) (subst (AllPairs R) (more k z zs) pairs)).0)
  within (z ∷ zs) k (suc i) n x pairs there number =
      within zs (k + 1) i n x (AllPairs-parts R (f k z) (all (k + 1) zs) (subst (AllPairs R) (more k z zs) pairs)).1 there (omega (arith, number))

  -- and what two have
  across :
      (xs : List X) (k i j n m : ℕ) (x y : X) (a b : Y) → AllPairs R (all k xs) → slice_get xs i ≡ Some x → slice_get xs j ≡ Some y → n ≡ k + i → m ≡ k + j → i < j →
      Contains (f n x) a → Contains (f m y) b → R a b
  across [] k i j n m x y a b pairs there other one two low here late = absurd (none-some x there)
  across (z ∷ zs) k i zero n m x y a b pairs there other one two low here late = absurd (omega (arith, low))
  across (z ∷ zs) k zero (suc j) n m x y a b pairs there other one two low here late =
      let at : n ≡ k = omega (arith, one) in
      let first : Contains (f k z) a = subst (λ (i : ℕ). Contains (f i z) a) at (subst (λ (w : X). Contains (f n w) a) (sym (same_Some z x there)) here) in
      All-contains (R a) (all (k + 1) zs) b
      (All-contains (λ c. All (R c) (all (k + 1) zs)) (f k z) a (cross R (f k z) (all (k + 1) zs) (subst (AllPairs R) (more k z zs) pairs)) first)
      (among f all more zs (k + 1) j m y b other (omega (arith, two)) late)
  across (z ∷ zs) k (suc i) (suc j) n m x y a b pairs there other one two low here late =
      across zs (k + 1) i j n m x y a b (AllPairs-parts R (f k z) (all (k + 1) zs) (subst (AllPairs R) (more k z zs) pairs)).1 there other
      (omega (arith, one)) (omega (arith, two)) (omega (arith, low)) here late

-- two of a list that pass a test
passing :
    {X : Type 0} (R : X → X → Type 0) (t : X → Bool) (xs : List X) (i j : ℕ) (x y : X) → AllPairs R (filter t xs) → slice_get xs i ≡ Some x → slice_get xs j ≡ Some y →
    i < j → t x ≡ true → t y ≡ true → R x y
passing R t [] i j x y pairs there other low one two = absurd (none-some x there)
passing R t (z ∷ zs) i zero x y pairs there other low one two = absurd (omega (arith, low))
passing {X} R t (z ∷ zs) zero (suc j) x y pairs there other low one two =
    let is : z ≡ x = same_Some z x there in
    let passes : t z ≡ true = ap t is ∙ one in
    let front : AllPairs R (z ∷ filter t zs) = subst (λ (b : Bool). AllPairs R (cond b (z ∷ filter t zs) (filter t zs))) passes pairs in
    subst (λ (w : X). R w y) is (All-contains (R z) (filter t zs) y (AllPairs-head R z (filter t zs) front) (Contains-filter t zs y (Contains-from_slice_get zs j y other) two))
passing R t (z ∷ zs) (suc i) (suc j) x y pairs there other low one two = passing R t zs i j x y (by (t z) pairs) there other (omega (arith, low)) one two
  where
    by : (b : Bool) → AllPairs R (cond b (z ∷ filter t zs) (filter t zs)) → AllPairs R (filter t zs)
    by true p = AllPairs-tail R z (filter t zs) p
    by false p = p

-- the relocations of a section of an object, where it is a kept RELA section
abbrev behind : ℕ → LoadedObject → ℕ → SectionHeader → List Relocation
behind n o i h = cond (is_kept_rela o i h) (relocations_in n o h) []

here : (objects : List LoadedObject) (p : RelocationPlace) (r : Relocation) (v : IsRelocationAt objects p r) → Contains (behind p.object v.o p.table v.h) r
here objects p r v =
    subst (λ (b : Bool). Contains (cond b (relocations_in p.object v.o v.h) []) r) (sym v.at.kept)
    (subst (Contains (relocations_in p.object v.o v.h)) (sym v.relocation)
    (Contains-map (relocation_of p.object v.o v.h.sh_info) (filter is_some_kind (relas_of v.o.bytes v.h)) p.entry
    (Contains-filter is_some_kind (relas_of v.o.bytes v.h) p.entry (Contains-from_slice_get (relas_of v.o.bytes v.h) p.number p.entry v.at.entry) v.at.some_kind)))

swap : (r t : Relocation) → AreFieldsApart r t → AreFieldsApart t r
swap r t apart object s k a b = apart object s k b a

-- two relocations of one object, the first in an earlier section, or earlier in the same one
in_order :
    (objects : List LoadedObject) (p q : RelocationPlace) (r t : Relocation) (v : IsRelocationAt objects p r) (w : IsRelocationAt objects q t) →
    AllPairs AreFieldsApart (relocations objects) → p.object ≡ q.object → (p.table < q.table) ⊎ ((p.table ≡ q.table) × (p.number < q.number)) → AreFieldsApart r t
in_order objects p q r t v w pairs same order = by order
  where
    object_same : w.o ≡ v.o
    object_same = same_Some w.o v.o (sym w.at.object ∙ (ap (slice_get objects) (sym same) ∙ v.at.object))

    own : AllPairs AreFieldsApart (relocations_from p.object v.o)
    own = within AreFieldsApart relocations_from relocations_of (λ k x xs. refl) objects 0 p.object p.object v.o pairs v.at.object (omega arith)

    table : slice_get (sections v.o.bytes) q.table ≡ Some w.h
    table = subst (λ (o : LoadedObject). slice_get (sections o.bytes) q.table ≡ Some w.h) object_same w.at.table

    there : Contains (behind p.object v.o q.table w.h) t
    there = subst (λ (n : ℕ). Contains (behind n v.o q.table w.h) t) (sym same) (subst (λ (o : LoadedObject). Contains (behind q.object o q.table w.h) t) object_same (here objects q t w))

    by : (p.table < q.table) ⊎ ((p.table ≡ q.table) × (p.number < q.number)) → AreFieldsApart r t
    by (inl low) =
        across AreFieldsApart (behind p.object v.o) (relocations_behind p.object v.o) (λ k x xs. refl) (sections v.o.bytes) 0 p.table q.table p.table q.table v.h w.h r t own
        v.at.table table (omega arith) (omega arith) low (here objects p r v) there
    by (inr (one, low)) =
        let header : w.h ≡ v.h = same_Some w.h v.h (sym table ∙ (ap (slice_get (sections v.o.bytes)) (sym one) ∙ v.at.table)) in
        let section = within AreFieldsApart (behind p.object v.o) (relocations_behind p.object v.o) (λ k x xs. refl) (sections v.o.bytes) 0 p.table p.table v.h own v.at.table (omega arith) in
        let listed : AllPairs AreFieldsApart (relocations_in p.object v.o v.h) = subst (λ (b : Bool). AllPairs AreFieldsApart (cond b (relocations_in p.object v.o v.h) [])) v.at.kept section in
        let entry = subst (λ (h : SectionHeader). slice_get (relas_of v.o.bytes h) q.number ≡ Some q.entry) header (subst (λ (o : LoadedObject). slice_get (relas_of o.bytes w.h) q.number ≡ Some q.entry) object_same w.at.entry) in
        let apart =
        passing (λ (x y : Rela). AreFieldsApart (relocation_of p.object v.o v.h.sh_info x) (relocation_of p.object v.o v.h.sh_info y)) is_some_kind (relas_of v.o.bytes v.h) p.number q.number p.entry q.entry
        (AllPairs-unmap AreFieldsApart (relocation_of p.object v.o v.h.sh_info) (filter is_some_kind (relas_of v.o.bytes v.h)) listed) v.at.entry entry low v.at.some_kind w.at.some_kind in
        let second : relocation_of p.object v.o v.h.sh_info q.entry ≡ t = (λ j. relocation_of (same j) (sym object_same j) (sym header j).sh_info q.entry) ∙ sym w.relocation in
        subst (λ (x : Relocation). AreFieldsApart x t) (sym v.relocation) (subst (AreFieldsApart (relocation_of p.object v.o v.h.sh_info p.entry)) second apart)

pub overlap_paired : (objects : List LoadedObject) (p q : RelocationPlace) → IsOverlap objects p q → ¬ AllPairs AreFieldsApart (relocations objects)
overlap_paired objects p q v pairs =
    v.wrong (λ object s k a b. apart (one_object object s k a b) (cases_order p.table q.table) (cases_order p.number q.number) object s k a b)
  where
    apart : p.object ≡ q.object → (p.table ≡ q.table) ⊎ ((p.table < q.table) ⊎ (q.table < p.table)) → (p.number ≡ q.number) ⊎ ((p.number < q.number) ⊎ (q.number < p.number)) → AreFieldsApart v.r v.t
    apart same (inl one) (inl two) = absurd (v.two (one, two))
    apart same (inl one) (inr (inl low)) = in_order objects p q v.r v.t v.first v.second pairs same (inr (one, low))
    apart same (inl one) (inr (inr high)) = swap v.t v.r (in_order objects q p v.t v.r v.second v.first pairs (sym same) (inr (sym one, high)))
    apart same (inr (inl low)) other = in_order objects p q v.r v.t v.first v.second pairs same (inl low)
    apart same (inr (inr high)) other = swap v.t v.r (in_order objects q p v.t v.r v.second v.first pairs (sym same) (inl high))

    one_object : (object s k : ℕ) → is_in_field object s k v.r ≡ true → is_in_field object s k v.t ≡ true → p.object ≡ q.object
    one_object object s k a b =
        sym (ap (λ (x : Relocation). x.object) v.first.relocation)
        ∙ ((in_field object s k v.r a).0 ∙ (sym (in_field object s k v.t b).0 ∙ ap (λ (x : Relocation). x.object) v.second.relocation))
