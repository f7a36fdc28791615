-- The kept relocations of an object, listed: as relocations they are those of the definitions, and each has a place.
use Rattle.std.proofs.Common.{◌≡◌, ℕ, ◌+◌, ◌<◌, ◌≤◌, ◌==◌, Bool, true, false, not, ◌&&◌, cond, List, [], ◌∷◌, ◌++◌, Option, None, Some, drop, get_or, length, map, refl, subst, sym, ap, ap₂, ◌∙◌}
use Rattle.std.specs.Prelude.{All, filter, unwrap_or}
use Rattle.std.specs.List.{slice_get}
use Rattle.std.specs.Option.{option_and_then}
use Rattle.std.proofs.lemmas.Bool.{and_parts}
use Rattle.std.proofs.lemmas.List.{drop_all, map-append}
use Rattle.std.proofs.lemmas.List.Elements.{All-append, All-cons, All-head, All-nil, All-tail}
use Rattle.elf_model.specs.Link.Loading.{LoadedObject, is_dropped}
use Rattle.elf_model.specs.Inputs.ObjectFile.{relas, relas_in, relas_of, section, sections}
use Rattle.elf_model.specs.Link.Pieces.{is_kept}
use Rattle.elf_model.specs.Link.Relocation.{Relocation, is_kept_rela, is_some_kind, relocation_of, relocations_behind, relocations_from, relocations_in}
use Rattle.elf_model.specs.declared.constants.TheConstants.{SHT_RELA}
use Rattle.elf_model.specs.declared.records.Rela.{Rela}
use Rattle.elf_model.specs.declared.records.SectionHeader.{SectionHeader}
use Rattle.elf_model.proofs.Rests.{rest_at}
use Rattle.elf_read.specs.Reading.{null_rela}
use Rattle.check_load.specs.Kept.{IsKeptRela, rela_at, relas_behind}
use Rattle.check_load.specs.KeptRelocations.{IsKeptRelocation, entries_behind, entry_at, entry_if_kept, kept_relocations, relocation_at, relocations_of_rela, relocations_of_relas}
use Rattle.check_load.specs.declared.kept_relocations.KeptRelocation.{KeptRelocation}
use Rattle.check_load.specs.declared.kept_sections.KeptRela.{KeptRela}
use Rattle.check_load.proofs.KeptLaws.{StandsAt, first_stands, others_stand, relas_kept, whole_stands}

-- Entries that are left: the first is told, or is passed over, or there is none.
module _ (k : KeptRela) (es : List Rela) (i : ℕ) where
  abbrev others : List KeptRelocation
  others = entries_behind k (i + 1) (drop (i + 1) es)

  first_is : (e : Rela) (b : Bool) → i < length es → e ≡ get_or es i null_rela → is_some_kind e ≡ b →
      entries_behind k i (drop i es) ≡ cond b (entry_at k i e ∷ []) [] ++ others
  first_is e b within is kind =
      ap (entries_behind k i) (rest_at es i null_rela within)
      ∙ ap (λ (x : Rela). entry_if_kept k i x ++ others) (sym is)
      ∙ ap (λ (t : Bool). cond t (entry_at k i e ∷ []) [] ++ others) kind

  pub entry_told : (e : Rela) → i < length es → e ≡ get_or es i null_rela → is_some_kind e ≡ true →
      entries_behind k i (drop i es) ≡ entry_at k i e ∷ others
  entry_told e within is kind = first_is e true within is kind

  pub entry_passed : (e : Rela) → i < length es → e ≡ get_or es i null_rela → is_some_kind e ≡ false → entries_behind k i (drop i es) ≡ others
  entry_passed e within is kind = first_is e false within is kind

  pub entries_ended : length es ≤ i → entries_behind k i (drop i es) ≡ []
  entries_ended behind = ap (entries_behind k i) (drop_all i es behind)

-- the entries of a kept RELA section
is_rela : (o : LoadedObject) (i : ℕ) (h : SectionHeader) → is_kept_rela o i h ≡ true → (h.sh_type == SHT_RELA) ≡ true
is_rela o i h kept = (and_parts (h.sh_type == SHT_RELA) (not (is_dropped o i) && is_kept o h.sh_info (section (sections o.bytes) h.sh_info)) kept).0

relas_told :
    (o : LoadedObject) (i : ℕ) (h : SectionHeader) → slice_get (sections o.bytes) i ≡ Some h → is_kept_rela o i h ≡ true →
    unwrap_or (relas o.bytes i) [] ≡ relas_of o.bytes h
relas_told o i h there kept =
    ap (λ (x : Option SectionHeader). unwrap_or (option_and_then (relas_in o.bytes) x) []) there
    ∙ ap (λ (b : Bool). unwrap_or (cond b (Some (relas_of o.bytes h)) None) []) (is_rela o i h kept)

module _ (n : ℕ) (o : LoadedObject) where
  entries_listed :
      (k : KeptRela) (i : ℕ) (es : List Rela) →
      map (relocation_at n o) (entries_behind k i es) ≡ map (relocation_of n o k.target) (filter is_some_kind es)
  entries_listed k i [] = refl
  entries_listed k i (e ∷ es) = by (is_some_kind e) (entries_listed k (i + 1) es)
    where
      by :
          (b : Bool) → map (relocation_at n o) (entries_behind k (i + 1) es) ≡ map (relocation_of n o k.target) (filter is_some_kind es) →
          map (relocation_at n o) (cond b (entry_at k i e ∷ []) [] ++ entries_behind k (i + 1) es)
          ≡ map (relocation_of n o k.target) (cond b (e ∷ filter is_some_kind es) (filter is_some_kind es))
      by true rest = ap (λ (rs : List Relocation). relocation_of n o k.target e ∷ rs) rest
      by false rest = rest

  rela_listed :
      (i : ℕ) (h : SectionHeader) → slice_get (sections o.bytes) i ≡ Some h → is_kept_rela o i h ≡ true →
      map (relocation_at n o) (relocations_of_rela o.bytes (rela_at i h)) ≡ relocations_in n o h
  rela_listed i h there kept =
      ap (λ (es : List Rela). map (relocation_at n o) (entries_behind (rela_at i h) 0 es)) (relas_told o i h there kept)
      ∙ entries_listed (rela_at i h) 0 (relas_of o.bytes h)

  sections_listed :
      (hs : List SectionHeader) (i : ℕ) → StandsAt (sections o.bytes) i hs →
      map (relocation_at n o) (relocations_of_relas o.bytes (relas_behind o.dropped o.bytes i hs)) ≡ relocations_behind n o i hs
  sections_listed [] i stands = refl
  sections_listed (h ∷ hs) i stands =
      by (is_kept_rela o i h) refl (first_stands (sections o.bytes) i h hs stands) (sections_listed hs (i + 1) (others_stand (sections o.bytes) i h hs stands))
    where
      by :
          (b : Bool) → is_kept_rela o i h ≡ b → slice_get (sections o.bytes) i ≡ Some h →
          map (relocation_at n o) (relocations_of_relas o.bytes (relas_behind o.dropped o.bytes (i + 1) hs)) ≡ relocations_behind n o (i + 1) hs →
          map (relocation_at n o)
          (relocations_of_relas o.bytes (cond b (rela_at i h ∷ []) [] ++ relas_behind o.dropped o.bytes (i + 1) hs))
          ≡ cond b (relocations_in n o h) [] ++ relocations_behind n o (i + 1) hs
      by true e there rest =
          map-append (relocation_at n o) (relocations_of_rela o.bytes (rela_at i h))
          (relocations_of_relas o.bytes (relas_behind o.dropped o.bytes (i + 1) hs))
          ∙ ap₂ ◌++◌ (rela_listed i h there e) rest
      by false e there rest = rest

  pub relocations_listed : map (relocation_at n o) (kept_relocations o) ≡ relocations_from n o
  relocations_listed = sections_listed (sections o.bytes) 0 (whole_stands (sections o.bytes))

-- Each has a place.
entries_kept :
    (o : LoadedObject) (k : KeptRela) (all : List Rela) → IsKeptRela o k → all ≡ relas_of o.bytes (section (sections o.bytes) k.number) →
    (i : ℕ) (es : List Rela) → StandsAt all i es → All (IsKeptRelocation o) (entries_behind k i es)
entries_kept o k all kept are i [] stands = All-nil (IsKeptRelocation o)
entries_kept o k all kept are i (e ∷ es) stands =
    by (is_some_kind e) refl (first_stands all i e es stands) (entries_kept o k all kept are (i + 1) es (others_stand all i e es stands))
  where
    by :
        (b : Bool) → is_some_kind e ≡ b → slice_get all i ≡ Some e → All (IsKeptRelocation o) (entries_behind k (i + 1) es) →
        All (IsKeptRelocation o)
        (cond b (entry_at k i e ∷ []) [] ++ entries_behind k (i + 1) es)
    by true kind there rest =
        All-cons (IsKeptRelocation o) (entry_at k i e) (entries_behind k (i + 1) es) (record {
          there = kept.there;
          kept = kept.kept;
          section_is = kept.target_is;
          entry_there = subst (λ (rs : List Rela). slice_get rs i ≡ Some e) are there;
          some_kind = kind;
        }) rest
    by false kind there rest = rest

of_relas_kept : (o : LoadedObject) (ks : List KeptRela) → All (IsKeptRela o) ks → All (IsKeptRelocation o) (relocations_of_relas o.bytes ks)
of_relas_kept o [] all = All-nil (IsKeptRelocation o)
of_relas_kept o (k ∷ ks) all =
    let here = All-head (IsKeptRela o) k ks all in
    let es = unwrap_or (relas o.bytes k.number) [] in
    All-append (IsKeptRelocation o) (relocations_of_rela o.bytes k) (relocations_of_relas o.bytes ks)
    (entries_kept o k es here (relas_told o k.number (section (sections o.bytes) k.number) here.there here.kept) 0 es (whole_stands es))
    (of_relas_kept o ks (All-tail (IsKeptRela o) k ks all))

pub relocations_kept : (o : LoadedObject) → All (IsKeptRelocation o) (kept_relocations o)
relocations_kept o = of_relas_kept o _ (relas_kept o)

-- Steps of the walk: a RELA section is begun, and its entries come; or there is none.
pub rela_begun :
    (bytes : List ℕ) (entries next : List KeptRelocation) (k : KeptRela) (all others : List KeptRela) (whole : List KeptRelocation) →
    entries ≡ [] → all ≡ k ∷ others → next ≡ relocations_of_rela bytes k → entries ++ relocations_of_relas bytes all ≡ whole →
    next ++ relocations_of_relas bytes others ≡ whole
rela_begun bytes entries next k all others whole none are is left =
    ap (λ (rs : List KeptRelocation). rs ++ relocations_of_relas bytes others) is
    ∙ (sym (ap (λ (ks : List KeptRela). relocations_of_relas bytes ks) are)
    ∙ (sym (ap (λ (rs : List KeptRelocation). rs ++ relocations_of_relas bytes all) none) ∙ left))
