-- The kept relocations of all objects, object after object, section after section, entry after entry: what a
-- loop has still to come through. The lists of objects, of sections and of entries are given by what is left
-- of them, `drop i`, and the objects as a view of each.
use Rattle.std.proofs.Common.{◌≡◌, ℕ, ◌+◌, ◌<◌, ◌≤◌, Bool, true, false, cond, List, [], ◌∷◌, ◌++◌, length, get_or, drop, map, refl, ap, ◌∙◌}
use Rattle.std.specs.Prelude.{filter}
use Rattle.std.proofs.lemmas.List.{drop_all}
use Rattle.elf_model.specs.Link.Loading.{LoadedObject}
use Rattle.elf_model.specs.Link.Relocation.{Relocation, is_kept_rela, is_some_kind, relocation_of, relocations_behind, relocations_from, relocations_in, relocations_of}
use Rattle.elf_model.specs.declared.records.Rela.{Rela}
use Rattle.elf_model.specs.declared.records.SectionHeader.{SectionHeader}
use Rattle.elf_model.proofs.Rests.{rest_at}

-- the relocations of the objects that are left
abbrev pub left_of_objects : {X : Type 0} → (X → LoadedObject) → List X → ℕ → List Relocation
left_of_objects view xs i = relocations_of i (map view (drop i xs))

pub object_more :
    {X : Type 0} (view : X → LoadedObject) (xs : List X) (i : ℕ) (d : X) → i < length xs →
    left_of_objects view xs i ≡ relocations_from i (view (get_or xs i d)) ++ left_of_objects view xs (i + 1)
object_more {X} view xs i d within = ap (λ (ys : List X). relocations_of i (map view ys)) (rest_at xs i d within)

pub object_end : {X : Type 0} (view : X → LoadedObject) (xs : List X) (i : ℕ) → length xs ≤ i → left_of_objects view xs i ≡ []
object_end {X} view xs i behind = ap (λ (ys : List X). relocations_of i (map view ys)) (drop_all i xs behind)

-- the relocations of the sections that are left
abbrev pub left_of_sections : ℕ → LoadedObject → List SectionHeader → ℕ → List Relocation
left_of_sections object o hs i = relocations_behind object o i (drop i hs)

section_cases :
    (object : ℕ) (o : LoadedObject) (hs : List SectionHeader) (i : ℕ) (d : SectionHeader) → i < length hs → (b : Bool) →
    is_kept_rela o i (get_or hs i d) ≡ b →
    left_of_sections object o hs i ≡ cond b (relocations_in object o (get_or hs i d)) [] ++ left_of_sections object o hs (i + 1)
section_cases object o hs i d within b e =
    ap (λ (ys : List SectionHeader). relocations_behind object o i ys) (rest_at hs i d within)
    ∙ ap (λ (t : Bool). cond t (relocations_in object o (get_or hs i d)) [] ++ left_of_sections object o hs (i + 1)) e

pub section_more :
    (object : ℕ) (o : LoadedObject) (hs : List SectionHeader) (i : ℕ) (d : SectionHeader) → i < length hs →
    is_kept_rela o i (get_or hs i d) ≡ true →
    left_of_sections object o hs i ≡ relocations_in object o (get_or hs i d) ++ left_of_sections object o hs (i + 1)
section_more object o hs i d within kept = section_cases object o hs i d within true kept

pub section_skip :
    (object : ℕ) (o : LoadedObject) (hs : List SectionHeader) (i : ℕ) (d : SectionHeader) → i < length hs →
    is_kept_rela o i (get_or hs i d) ≡ false → left_of_sections object o hs i ≡ left_of_sections object o hs (i + 1)
section_skip object o hs i d within other = section_cases object o hs i d within false other

pub section_end : (object : ℕ) (o : LoadedObject) (hs : List SectionHeader) (i : ℕ) → length hs ≤ i → left_of_sections object o hs i ≡ []
section_end object o hs i behind = ap (λ (ys : List SectionHeader). relocations_behind object o i ys) (drop_all i hs behind)

-- the relocations of the entries that are left, for section k
abbrev pub left_of_entries : ℕ → LoadedObject → ℕ → List Rela → ℕ → List Relocation
left_of_entries object o k rs i = map (relocation_of object o k) (filter is_some_kind (drop i rs))

entry_cases :
    (object : ℕ) (o : LoadedObject) (k : ℕ) (rs : List Rela) (i : ℕ) (d : Rela) → i < length rs → (b : Bool) →
    is_some_kind (get_or rs i d) ≡ b →
    left_of_entries object o k rs i ≡ cond b (relocation_of object o k (get_or rs i d) ∷ []) [] ++ left_of_entries object o k rs (i + 1)
entry_cases object o k rs i d within b e =
    ap (λ (ys : List Rela). map (relocation_of object o k) (filter is_some_kind ys)) (rest_at rs i d within)
    ∙ ap (λ (t : Bool). map (relocation_of object o k) (cond t (get_or rs i d ∷ filter is_some_kind (drop (i + 1) rs)) (filter is_some_kind (drop (i + 1) rs)))) e
    ∙ by b
  where
    by :
        (t : Bool) →
        map (relocation_of object o k) (cond t (get_or rs i d ∷ filter is_some_kind (drop (i + 1) rs)) (filter is_some_kind (drop (i + 1) rs)))
        ≡ cond t (relocation_of object o k (get_or rs i d) ∷ []) [] ++ left_of_entries object o k rs (i + 1)
    by true = refl
    by false = refl

pub entry_more :
    (object : ℕ) (o : LoadedObject) (k : ℕ) (rs : List Rela) (i : ℕ) (d : Rela) → i < length rs → is_some_kind (get_or rs i d) ≡ true →
    left_of_entries object o k rs i ≡ relocation_of object o k (get_or rs i d) ∷ left_of_entries object o k rs (i + 1)
entry_more object o k rs i d within other = entry_cases object o k rs i d within true other

pub entry_skip :
    (object : ℕ) (o : LoadedObject) (k : ℕ) (rs : List Rela) (i : ℕ) (d : Rela) → i < length rs → is_some_kind (get_or rs i d) ≡ false →
    left_of_entries object o k rs i ≡ left_of_entries object o k rs (i + 1)
entry_skip object o k rs i d within none = entry_cases object o k rs i d within false none

pub entry_end : (object : ℕ) (o : LoadedObject) (k : ℕ) (rs : List Rela) (i : ℕ) → length rs ≤ i → left_of_entries object o k rs i ≡ []
entry_end object o k rs i behind =
    ap (λ (ys : List Rela). map (relocation_of object o k) (filter is_some_kind ys)) (drop_all i rs behind)
