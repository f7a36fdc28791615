-- The entries of an object: its kept relocations, what their fields say of these, and that no two have the same numbers.
use Rattle.std.proofs.Common.{◌≡◌, ◌∙◌, ◌⊎◌, inl, inr, ℕ, ◌+◌, ◌<◌, ◌≤◌, Bool, true, false, cond, List, [], ◌∷◌, ◌++◌, Some, ap, arith, map, refl, subst, sym}
use Rattle.std.specs.Prelude.{◌≢◌, All, AllPairs, filter}
use Rattle.std.specs.List.{slice_get}
use Rattle.std.proofs.lemmas.Bool.{false≢true}
use Rattle.std.proofs.lemmas.List.{map-append}
use Rattle.std.proofs.lemmas.List.Elements.{All-append, All-cons, All-head, All-map, All-nil, All-tail, All-weaker, filter-append}
use Rattle.std.proofs.lemmas.List.Kept.{AllPairs-cons, AllPairs-filter}
use Rattle.elf_model.proofs.Listed.{All-from_contains, All-parts, Contains-from_filter}
use Rattle.std.proofs.lemmas.List.Elements.{All-contains}
use Rattle.elf_model.proofs.Pairs.{AllPairs-append, AllPairs-head, AllPairs-map, AllPairs-nil, AllPairs-tail, AllPairs-unmap, AllPairs-weaker}
use Rattle.elf_model.proofs.RelocationFields.{in_field, objects_apart}
use Rattle.elf_model.specs.Inputs.ObjectFile.{relas_of, section, sections}
use Rattle.elf_model.specs.Link.Loading.{LoadedObject}
use Rattle.elf_model.specs.Link.Relocation.{AreFieldsApart, IsLawfulRelocation, Relocation, is_kept_rela, is_some_kind, relocation_of, relocations_from, relocations_of}
use Rattle.elf_model.specs.declared.records.Rela.{Rela}
use Rattle.elf_model.specs.declared.records.SectionHeader.{SectionHeader}
use Rattle.flaws.proofs.Located.{of_each}
use Rattle.search.proofs.KeptListLaws.{relas_kept, relocations_listed}
use Rattle.search.specs.KeptLists.{IsKeptRela, kept_relas, object_of, relas_behind, relocations_of_relas}
use Rattle.search.specs.declared.kept_lists.KeptRela.{KeptRela}
use Rattle.wrong_references.specs.Entries.{EntryOf, entries_in, entries_of, entries_of_relas, entry_of, rela_entries}
use Rattle.wrong_references.specs.Overlaps.{AreApart, field_at, fields_of}
use Rattle.wrong_references.specs.declared.flaw.EntryNumber.{EntryNumber}
use Rattle.wrong_references.specs.declared.overlaps.FieldAt.{FieldAt}

-- the relocations of entries
abbrev has_kind : EntryOf → Bool
has_kind e = is_some_kind e.relocation.entry

abbrev kept_of : List EntryOf → List Relocation
kept_of es = map (λ e. e.relocation) (filter has_kind es)

kept_append : (es fs : List EntryOf) → kept_of (es ++ fs) ≡ kept_of es ++ kept_of fs
kept_append es fs = ap (map (λ (e : EntryOf). e.relocation)) (filter-append has_kind es fs) ∙ map-append (λ (e : EntryOf). e.relocation) (filter has_kind es) (filter has_kind fs)

kept_in : (k : ℕ) (o : LoadedObject) (rela : KeptRela) (n : ℕ) (xs : List Rela) → kept_of (entries_in k o rela n xs) ≡ map (relocation_of k o rela.target) (filter is_some_kind xs)
kept_in k o rela n [] = refl
kept_in k o rela n (x ∷ xs) = by (is_some_kind x) (kept_in k o rela (n + 1) xs)
  where
    by :
        (b : Bool) → kept_of (entries_in k o rela (n + 1) xs) ≡ map (relocation_of k o rela.target) (filter is_some_kind xs) →
        map (λ e. e.relocation) (cond b (entry_of k o rela n x ∷ filter has_kind (entries_in k o rela (n + 1) xs)) (filter has_kind (entries_in k o rela (n + 1) xs)))
        ≡ map (relocation_of k o rela.target) (cond b (x ∷ filter is_some_kind xs) (filter is_some_kind xs))
    by true rest = ap (λ (rs : List Relocation). relocation_of k o rela.target x ∷ rs) rest
    by false rest = rest

kept_of_relas : (k : ℕ) (o : LoadedObject) (relas : List KeptRela) → All (IsKeptRela o) relas → kept_of (entries_of_relas k o relas) ≡ relocations_of_relas k o relas
kept_of_relas k o [] all = refl
kept_of_relas k o (rela ∷ relas) all =
    kept_append (entries_in k o rela 0 (rela_entries o rela)) (entries_of_relas k o relas)
    ∙ (λ j. at j ++ kept_of_relas k o relas (All-tail (IsKeptRela o) rela relas all) j)
  where
    at : kept_of (entries_in k o rela 0 (rela_entries o rela)) ≡ map (relocation_of k o (section (sections o.bytes) rela.number).sh_info) (filter is_some_kind (rela_entries o rela))
    at =
        kept_in k o rela 0 (rela_entries o rela)
        ∙ ap (λ (i : ℕ). map (relocation_of k o i) (filter is_some_kind (rela_entries o rela))) (All-head (IsKeptRela o) rela relas all).target_is

-- an object's relocations are those of its entries
kept_are : (k : ℕ) (o : LoadedObject) → kept_of (entries_of_relas k o (kept_relas o)) ≡ relocations_from k o
kept_are k o = kept_of_relas k o (kept_relas o) (relas_kept k o) ∙ sym (relocations_listed k o)

-- an entry is of type NONE, or lawful
abbrev pub IsWell : List LoadedObject → EntryOf → Type 0
IsWell objects e = (is_some_kind e.relocation.entry ≡ false) ⊎ IsLawfulRelocation objects e.relocation

lawful_from : (objects : List LoadedObject) (k : ℕ) (o : LoadedObject) → All (IsWell objects) (entries_of_relas k o (kept_relas o)) → All (IsLawfulRelocation objects) (relocations_from k o)
lawful_from objects k o well =
    subst (All (IsLawfulRelocation objects)) (kept_are k o)
    (All-map (IsLawfulRelocation objects) (λ (e : EntryOf). e.relocation) (filter has_kind es)
    (All-from_contains (λ (e : EntryOf). IsLawfulRelocation objects e.relocation) (filter has_kind es) (λ e there.
    let from = Contains-from_filter has_kind es e there in
    elim (All-contains (IsWell objects) es e well from.0) as (λ _. IsLawfulRelocation objects e.relocation) [
      | inl none ↦ absurd (false≢true (sym none ∙ from.1))
      | inr lawful ↦ lawful
    ])))
  where
    es : List EntryOf
    es = entries_of_relas k o (kept_relas o)

-- fields that are apart are those of relocations that are
fields_apart : (e d : EntryOf) → AreApart (field_at e) (field_at d) → AreFieldsApart e.relocation d.relocation
fields_apart e d apart object s n a b =
    let p = in_field object s n e.relocation a in
    let q = in_field object s n d.relocation b in
    apart (p.1 ∙ sym q.1) n p.2 p.3 q.2 q.3

apart_from : (k : ℕ) (o : LoadedObject) → AllPairs AreApart (fields_of k o) → AllPairs AreFieldsApart (relocations_from k o)
apart_from k o apart =
    subst (AllPairs AreFieldsApart) (kept_are k o)
    (AllPairs-map AreFieldsApart (λ (e : EntryOf). e.relocation) (filter has_kind es)
    (AllPairs-filter (λ (e d : EntryOf). AreFieldsApart e.relocation d.relocation) has_kind es
    (AllPairs-weaker (λ (e d : EntryOf). AreApart (field_at e) (field_at d)) (λ e d. AreFieldsApart e.relocation d.relocation) fields_apart es (AllPairs-unmap AreApart field_at es apart))))
  where
    es : List EntryOf
    es = entries_of_relas k o (kept_relas o)

-- so it is with all objects
abbrev pub AreApartFrom : ℕ → List LoadedObject → Type 0
AreApartFrom k [] = Unit {0}
AreApartFrom k (o ∷ os) = AllPairs AreApart (fields_of k o) × AreApartFrom (k + 1) os

pub lawful_of : (objects : List LoadedObject) (k : ℕ) (os : List LoadedObject) → All (IsWell objects) (entries_of k os) → All (IsLawfulRelocation objects) (relocations_of k os)
lawful_of objects k [] well = All-nil (IsLawfulRelocation objects)
lawful_of objects k (o ∷ os) well =
    let parts = All-parts (IsWell objects) (entries_of_relas k o (kept_relas o)) (entries_of (k + 1) os) well in
    All-append (IsLawfulRelocation objects) (relocations_from k o) (relocations_of (k + 1) os) (lawful_from objects k o parts.0) (lawful_of objects (k + 1) os parts.1)

pub apart_of : (k : ℕ) (os : List LoadedObject) → AreApartFrom k os → AllPairs AreFieldsApart (relocations_of k os)
apart_of k [] apart = AllPairs-nil AreFieldsApart
apart_of k (o ∷ os) apart =
    AllPairs-append AreFieldsApart (relocations_from k o) (relocations_of (k + 1) os) (apart_from k o apart.0) (apart_of (k + 1) os apart.1) (objects_apart k o os)

-- what a field says of its entry
pub record IsFieldOf (k : ℕ) (o : LoadedObject) (f : FieldAt) : Type 0 where
  pub h : SectionHeader
  pub x : Rela
  pub table : slice_get (sections o.bytes) f.entry.table ≡ Some h
  pub kept : is_kept_rela o f.entry.table h ≡ true
  pub entry : slice_get (relas_of o.bytes h) f.entry.number ≡ Some x
  pub is : f ≡ field_at (record { table = f.entry.table; number = f.entry.number; relocation = relocation_of k o h.sh_info x })

fields_listed_in : (k : ℕ) (o : LoadedObject) (relas : List KeptRela) → All (IsKeptRela o) relas → All (λ e. IsFieldOf k o (field_at e)) (entries_of_relas k o relas)
fields_listed_in k o [] kept = All-nil (λ (e : EntryOf). IsFieldOf k o (field_at e))
fields_listed_in k o (rela ∷ relas) kept =
    All-append (λ (e : EntryOf). IsFieldOf k o (field_at e)) (entries_in k o rela 0 (rela_entries o rela)) (entries_of_relas k o relas)
    (of_each (λ (e : EntryOf). IsFieldOf k o (field_at e)) (λ n x. entry_of k o rela n x ∷ []) (entries_in k o rela) (λ n. refl) (λ n x xs. refl) (rela_entries o rela) 0
    (λ n i x is there.
    All-cons (λ (e : EntryOf). IsFieldOf k o (field_at e)) (entry_of k o rela n x) []
    (let same : i ≡ n = omega (arith, is) in
    record {
      h = section (sections o.bytes) rela.number;
      x = x;
      table = first.there;
      kept = first.kept;
      entry = subst (λ (m : ℕ). slice_get (rela_entries o rela) m ≡ Some x) same there;
      is = ap (λ (i : ℕ). field_at (record { table = rela.number; number = n; relocation = relocation_of k o i x })) first.target_is;
    })
    (All-nil (λ (e : EntryOf). IsFieldOf k o (field_at e)))))
    (fields_listed_in k o relas (All-tail (IsKeptRela o) rela relas kept))
  where
    first : IsKeptRela o rela
    first = All-head (IsKeptRela o) rela relas kept

pub fields_listed : (k : ℕ) (o : LoadedObject) → All (IsFieldOf k o) (fields_of k o)
fields_listed k o = All-map (IsFieldOf k o) field_at (entries_of_relas k o (kept_relas o)) (fields_listed_in k o (kept_relas o) (relas_kept k o))

-- no two fields are of one entry
abbrev Differ : EntryOf → EntryOf → Type 0
Differ e d = (field_at e).entry ≢ (field_at d).entry

relas_later : (bytes dropped : List ℕ) (i : ℕ) (hs : List SectionHeader) → All (λ rela. i ≤ rela.number) (relas_behind bytes dropped i hs)
relas_later bytes dropped i [] = All-nil (λ (rela : KeptRela). i ≤ rela.number)
relas_later bytes dropped i (h ∷ hs) = by (is_kept_rela (object_of bytes dropped) i h) (All-weaker (λ (rela : KeptRela). i + 1 ≤ rela.number) (λ (rela : KeptRela). i ≤ rela.number) (λ rela low. omega (arith, low)) (relas_behind bytes dropped (i + 1) hs) (relas_later bytes dropped (i + 1) hs))
  where
    by :
        (b : Bool) → All (λ rela. i ≤ rela.number) (relas_behind bytes dropped (i + 1) hs) →
        All (λ rela. i ≤ rela.number) (cond b (record { target = h.sh_info; number = i } ∷ []) [] ++ relas_behind bytes dropped (i + 1) hs)
    by true rest = All-cons (λ (rela : KeptRela). i ≤ rela.number) (record { target = h.sh_info; number = i }) (relas_behind bytes dropped (i + 1) hs) (omega arith) rest
    by false rest = rest

relas_differ : (bytes dropped : List ℕ) (i : ℕ) (hs : List SectionHeader) → AllPairs (λ a b. a.number < b.number) (relas_behind bytes dropped i hs)
relas_differ bytes dropped i [] = AllPairs-nil (λ (a b : KeptRela). a.number < b.number)
relas_differ bytes dropped i (h ∷ hs) = by (is_kept_rela (object_of bytes dropped) i h) (relas_differ bytes dropped (i + 1) hs)
  where
    by :
        (b : Bool) → AllPairs (λ a b. a.number < b.number) (relas_behind bytes dropped (i + 1) hs) →
        AllPairs (λ a b. a.number < b.number) (cond b (record { target = h.sh_info; number = i } ∷ []) [] ++ relas_behind bytes dropped (i + 1) hs)
    by true rest =
        AllPairs-cons (λ (a b : KeptRela). a.number < b.number) (record { target = h.sh_info; number = i }) (relas_behind bytes dropped (i + 1) hs)
        (All-weaker (λ (rela : KeptRela). i + 1 ≤ rela.number) (λ (rela : KeptRela). i < rela.number) (λ rela low. omega (arith, low)) (relas_behind bytes dropped (i + 1) hs) (relas_later bytes dropped (i + 1) hs))
        rest
    by false rest = rest

entries_later : (k : ℕ) (o : LoadedObject) (rela : KeptRela) (n : ℕ) (xs : List Rela) → All (λ e. (e.table ≡ rela.number) × (n ≤ e.number)) (entries_in k o rela n xs)
entries_later k o rela n [] = All-nil (λ (e : EntryOf). (e.table ≡ rela.number) × (n ≤ e.number))
entries_later k o rela n (x ∷ xs) =
    All-cons (λ (e : EntryOf). (e.table ≡ rela.number) × (n ≤ e.number)) (entry_of k o rela n x) (entries_in k o rela (n + 1) xs) (refl, omega arith)
    (All-weaker (λ (e : EntryOf). (e.table ≡ rela.number) × (n + 1 ≤ e.number)) (λ (e : EntryOf). (e.table ≡ rela.number) × (n ≤ e.number)) (λ e low. (low.0, (let m = low.1 in omega (arith, m)))) (entries_in k o rela (n + 1) xs) (entries_later k o rela (n + 1) xs))

entries_differ : (k : ℕ) (o : LoadedObject) (rela : KeptRela) (n : ℕ) (xs : List Rela) → AllPairs Differ (entries_in k o rela n xs)
entries_differ k o rela n [] = AllPairs-nil Differ
entries_differ k o rela n (x ∷ xs) =
    AllPairs-cons Differ (entry_of k o rela n x) (entries_in k o rela (n + 1) xs)
    (All-weaker (λ (e : EntryOf). (e.table ≡ rela.number) × (n + 1 ≤ e.number)) (Differ (entry_of k o rela n x)) (λ e low same. (let m = low.1 in let at = ap (λ (i : EntryNumber). i.number) same in omega (arith, m, at))) (entries_in k o rela (n + 1) xs) (entries_later k o rela (n + 1) xs))
    (entries_differ k o rela (n + 1) xs)

tables_later : (k : ℕ) (o : LoadedObject) (m : ℕ) (relas : List KeptRela) → All (λ rela. m < rela.number) relas → All (λ e. m < e.table) (entries_of_relas k o relas)
tables_later k o m [] later = All-nil (λ (e : EntryOf). m < e.table)
tables_later k o m (rela ∷ relas) later =
    All-append (λ (e : EntryOf). m < e.table) (entries_in k o rela 0 (rela_entries o rela)) (entries_of_relas k o relas)
    (All-weaker (λ (e : EntryOf). (e.table ≡ rela.number) × (0 ≤ e.number)) (λ (e : EntryOf). m < e.table) (λ e at. (let is = at.0 in omega (arith, is, first))) (entries_in k o rela 0 (rela_entries o rela)) (entries_later k o rela 0 (rela_entries o rela)))
    (tables_later k o m relas (All-tail (λ (r : KeptRela). m < r.number) rela relas later))
  where
    first : m < rela.number
    first = All-head (λ (r : KeptRela). m < r.number) rela relas later

all_differ : (k : ℕ) (o : LoadedObject) (relas : List KeptRela) → AllPairs (λ a b. a.number < b.number) relas → AllPairs Differ (entries_of_relas k o relas)
all_differ k o [] pairs = AllPairs-nil Differ
all_differ k o (rela ∷ relas) pairs =
    AllPairs-append Differ (entries_in k o rela 0 (rela_entries o rela)) (entries_of_relas k o relas) (entries_differ k o rela 0 (rela_entries o rela))
    (all_differ k o relas (AllPairs-tail (λ (a b : KeptRela). a.number < b.number) rela relas pairs))
    (All-weaker (λ (e : EntryOf). (e.table ≡ rela.number) × (0 ≤ e.number)) (λ (e : EntryOf). All (Differ e) (entries_of_relas k o relas))
    (λ e at.
    All-weaker (λ (d : EntryOf). rela.number < d.table) (Differ e) (λ d high same. (let is = at.0 in let one = ap (λ (i : EntryNumber). i.table) same in omega (arith, is, high, one)))
    (entries_of_relas k o relas) (tables_later k o rela.number relas (AllPairs-head (λ (a b : KeptRela). a.number < b.number) rela relas pairs)))
    (entries_in k o rela 0 (rela_entries o rela)) (entries_later k o rela 0 (rela_entries o rela)))

pub fields_differ : (k : ℕ) (o : LoadedObject) → AllPairs (λ f g. f.entry ≢ g.entry) (fields_of k o)
fields_differ k o = AllPairs-map (λ (f g : FieldAt). f.entry ≢ g.entry) field_at (entries_of_relas k o (kept_relas o)) (all_differ k o (kept_relas o) (relas_differ o.bytes o.dropped 0 (sections o.bytes)))
