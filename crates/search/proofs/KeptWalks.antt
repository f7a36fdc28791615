-- Walks over the lists of what is kept of an object: what is left of them, and the relocations of one RELA section.
use Rattle.std.proofs.Common.{◌≡◌, ℕ, ◌+◌, ◌<◌, ◌≤◌, Bool, false, true, cond, List, [], ◌∷◌, ◌++◌, ap, drop, get_or, length, map, sym, ◌∙◌}
use Rattle.std.specs.Prelude.{filter}
use Rattle.std.proofs.lemmas.List.{drop_all}
use Rattle.elf_model.specs.Link.Loading.{LoadedObject}
use Rattle.elf_model.specs.Inputs.ObjectFile.{relas_of, section, sections}
use Rattle.elf_model.specs.Link.Relocation.{is_some_kind, relocation_of}
use Rattle.elf_model.specs.declared.records.Rela.{Rela}
use Rattle.elf_model.proofs.Rests.{rest_at}
use Rattle.elf_read.specs.Reading.{null_rela}
use Rattle.search.specs.KeptLists.{IsKeptRela, piece_at, pieces_at, relocations_by, relocations_of_relas}
use Rattle.search.specs.declared.kept_lists.KeptRela.{KeptRela}

-- what stands in place of a RELA section past the end of a list
abbrev pub no_rela : KeptRela
no_rela = record { target = 0; number = 0 }

-- the pieces of the sections that are left
pub pieces_more :
    (n : ℕ) (o : LoadedObject) (is : List ℕ) (i d : ℕ) → i < length is →
    pieces_at n o (drop i is) ≡ piece_at n o (get_or is i d) ∷ pieces_at n o (drop (i + 1) is)
pieces_more n o is i d within = ap (pieces_at n o) (rest_at is i d within)

-- the relocations of the RELA sections that are left
pub relas_more :
    (n : ℕ) (o : LoadedObject) (ks : List KeptRela) (i : ℕ) (d : KeptRela) → i < length ks →
    relocations_of_relas n o (drop i ks) ≡ relocations_by n o (get_or ks i d) ++ relocations_of_relas n o (drop (i + 1) ks)
relas_more n o ks i d within = ap (relocations_of_relas n o) (rest_at ks i d within)

pub relas_end : (n : ℕ) (o : LoadedObject) (ks : List KeptRela) (i : ℕ) → length ks ≤ i → relocations_of_relas n o (drop i ks) ≡ []
relas_end n o ks i behind = ap (relocations_of_relas n o) (drop_all i ks behind)

-- the entries of one of them, which relocate its target
pub entries_told :
    (n : ℕ) (o : LoadedObject) (k : KeptRela) (es : List Rela) → IsKeptRela o k → es ≡ relas_of o.bytes (section (sections o.bytes) k.number) →
    map (relocation_of n o k.target) (filter is_some_kind es) ≡ relocations_by n o k
entries_told n o k es kept are =
    ap (λ (t : ℕ). map (relocation_of n o t) (filter is_some_kind es)) kept.target_is
    ∙ ap (λ (xs : List Rela). map (relocation_of n o (section (sections o.bytes) k.number).sh_info) (filter is_some_kind xs)) are

-- Entries that are left: the first is kept, or is passed over, or there is none.
module _ (es : List Rela) (i : ℕ) where
  abbrev others : List Rela
  others = filter is_some_kind (drop (i + 1) es)

  first_is : (e : Rela) (b : Bool) → i < length es → e ≡ get_or es i null_rela → is_some_kind e ≡ b →
      filter is_some_kind (drop i es) ≡ cond b (e ∷ others) others
  first_is e b within is kind =
      ap (filter is_some_kind) (rest_at es i null_rela within)
      ∙ ap (λ (x : Rela). filter is_some_kind (x ∷ drop (i + 1) es)) (sym is)
      ∙ ap (λ (t : Bool). cond t (e ∷ others) others) kind

  pub kept_told : (e : Rela) → i < length es → e ≡ get_or es i null_rela → is_some_kind e ≡ true →
      filter is_some_kind (drop i es) ≡ e ∷ others
  kept_told e within is kind = first_is e true within is kind

  pub kept_passed : (e : Rela) → i < length es → e ≡ get_or es i null_rela → is_some_kind e ≡ false → filter is_some_kind (drop i es) ≡ others
  kept_passed e within is kind = first_is e false within is kind

  pub kept_ended : length es ≤ i → filter is_some_kind (drop i es) ≡ []
  kept_ended behind = ap (filter is_some_kind) (drop_all i es behind)

-- what the first entry that is left tells, where its section's number is the same
pub entry_first :
    (n : ℕ) (o : LoadedObject) (t k : ℕ) (e : Rela) (left rest : List Rela) → k ≡ t → left ≡ e ∷ rest →
    map (relocation_of n o t) left ≡ relocation_of n o k e ∷ map (relocation_of n o t) rest
entry_first n o t k e left rest same steps =
    ap (map (relocation_of n o t)) steps ∙ ap (λ (x : ℕ). relocation_of n o x e ∷ map (relocation_of n o t) rest) (sym same)
