-- The kept RELA sections of an object by the sections that they relocate. Their relocations are those of the object, in
-- another order.
use Rattle.std.proofs.Common.{◌≡◌, ℕ, suc, ◌≤◌, ◌==◌, Bool, true, false, cond, List, [], ◌∷◌, ◌++◌, drop, length, map, refl, subst, sym, take, ap, ◌∙◌, arith}
use Rattle.std.specs.Prelude.{All, Contains, filter, slice_range}
use Rattle.std.specs.List.Sorted.{IsNonDecreasingBy}
use Rattle.std.proofs.lemmas.List.{length-take-le, map-append, take-append-drop, take-append-le}
use Rattle.std.proofs.lemmas.Bool.{eqb-false, eqb-true}
use Rattle.std.proofs.lemmas.Grind.{flat_map-append}
use Rattle.std.proofs.lemmas.List.Elements.{All-contains, All-head, All-tail}
use Rattle.std.proofs.lemmas.List.Folds.{drop_split}
use Rattle.std.proofs.lemmas.Slice.{between_is}
use Rattle.elf_model.specs.Link.ArrayOrder.{by_rank}
use Rattle.elf_model.specs.Link.Loading.{LoadedObject}
use Rattle.elf_model.specs.Inputs.ObjectFile.{section, sections}
use Rattle.elf_model.specs.Link.Placement.{Where}
use Rattle.elf_model.specs.Link.Relocation.{Relocation, relocations_from}
use Rattle.elf_model.proofs.ArrayOrder.{Contains-by_rank, Contains-from_by_rank, IsRising, by_rank_is, by_rank_kept}
use Rattle.elf_model.proofs.Listed.{All-from_contains, Contains-flat_map, Contains-from_flat_map}
use Rattle.search.proofs.KeptListLaws.{relas_kept, relocations_listed}
use Rattle.search.specs.KeptLists.{IsKeptRela, kept_relas, relocations_by, relocations_of_relas}
use Rattle.search.specs.declared.kept_lists.KeptRela.{KeptRela}
use Rattle.relocate.proofs.Rows.{own_section, patches_append, patches_elsewhere, patches_here}
use Rattle.relocate.specs.RelaOrders.{target_of}
use Rattle.relocate.specs.Values.{patch_of, patches_in}
use Rattle.reloc_values.specs.declared.patch.Patch.{Patch}

-- By their targets.

module _ (n : ℕ) (o : LoadedObject) (relas : List KeptRela) (order : relas ≡ by_rank target_of (kept_relas o)) where
  pub ordered_kept : All (IsKeptRela o) relas
  ordered_kept =
      subst (All (IsKeptRela o)) (sym order)
      (All-from_contains (IsKeptRela o) (by_rank target_of (kept_relas o))
      (λ k there. All-contains (IsKeptRela o) (kept_relas o) k (relas_kept n o) (Contains-from_by_rank target_of (kept_relas o) k there)))

  there_from : (r : Relocation) → Contains (relocations_of_relas n o relas) r → Contains (relocations_from n o) r
  there_from r there =
      let p = Contains-from_flat_map (relocations_by n o) relas r there in
      subst (λ (rs : List Relocation). Contains rs r) (sym (relocations_listed n o))
      (Contains-flat_map (relocations_by n o) (kept_relas o) p.of r
      (Contains-from_by_rank target_of (kept_relas o) p.of (subst (λ (ks : List KeptRela). Contains ks p.of) order p.there)) p.within)

  there_back : (r : Relocation) → Contains (relocations_from n o) r → Contains (relocations_of_relas n o relas) r
  there_back r there =
      let p = Contains-from_flat_map (relocations_by n o) (kept_relas o) r (subst (λ (rs : List Relocation). Contains rs r) (relocations_listed n o) there) in
      Contains-flat_map (relocations_by n o) relas p.of r
      (subst (λ (ks : List KeptRela). Contains ks p.of) (sym order) (Contains-by_rank target_of (kept_relas o) p.of p.there)) p.within

  -- what holds of all relocations of the object holds of them in this order
  pub all_ordered : (P : Relocation → Type 0) → All P (relocations_from n o) → All P (relocations_of_relas n o relas)
  all_ordered P all =
      All-from_contains P (relocations_of_relas n o relas) (λ r there. All-contains P (relocations_from n o) r all (there_from r there))

  pub all_from_ordered : (P : Relocation → Type 0) → All P (relocations_of_relas n o relas) → All P (relocations_from n o)
  all_from_ordered P all =
      All-from_contains P (relocations_from n o) (λ r there. All-contains P (relocations_of_relas n o relas) r all (there_back r there))

-- a list that ascends is in this order
rises : (ks : List KeptRela) → IsNonDecreasingBy target_of ks → IsRising target_of ks
rises [] up = tt
rises (k ∷ ks) up = (
  (λ j d within. up 0 (suc j) d (omega arith) (omega (arith, within))),
  rises ks (λ i j d order within. up (suc i) (suc j) d (omega (arith, order)) (omega (arith, within))),
)

pub ascending_is : (ks : List KeptRela) → IsNonDecreasingBy target_of ks → ks ≡ by_rank target_of ks
ascending_is ks up = by_rank_is target_of ks ks (rises ks up) (λ z. refl)

-- the relocations of a row of them
pub row_left :
    (n : ℕ) (o : LoadedObject) (ks : List KeptRela) (from end : ℕ) → from ≤ end →
    relocations_of_relas n o (drop from ks) ≡ relocations_of_relas n o (slice_range ks from end) ++ relocations_of_relas n o (drop end ks)
row_left n o ks from end low =
    ap (relocations_of_relas n o) (drop_split ks from end low) ∙ flat_map-append (relocations_by n o) (slice_range ks from end) (drop end ks)

pub row_done :
    (n : ℕ) (o : LoadedObject) (ks : List KeptRela) (from end : ℕ) → from ≤ end → end ≤ length ks →
    relocations_of_relas n o (take from ks) ++ relocations_of_relas n o (slice_range ks from end) ≡ relocations_of_relas n o (take end ks)
row_done n o ks from end low within =
    sym (flat_map-append (relocations_by n o) (take from ks) (slice_range ks from end)) ∙ ap (relocations_of_relas n o) (sym parts)
  where
    long : length (take end ks) ≡ end
    long = length-take-le end ks within

    front : take from (take end ks) ≡ take from ks
    front = sym (take-append-le from (take end ks) (drop end ks) (omega (arith, long, low))) ∙ ap (take from) (take-append-drop end ks)

    parts : take end ks ≡ take from ks ++ slice_range ks from end
    parts =
        sym (take-append-drop from (take end ks))
        ∙ (ap (λ (xs : List KeptRela). xs ++ drop from (take end ks)) front
        ∙ ap (λ (xs : List KeptRela). take from ks ++ xs) (sym (between_is ks from end)))

-- the relocations of RELA sections of one section are of that section
pub row_section :
    (n : ℕ) (o : LoadedObject) (t : ℕ) (ks : List KeptRela) → All (IsKeptRela o) ks → All (λ k. k.target ≡ t) ks →
    All (λ r. r.section ≡ t) (relocations_of_relas n o ks)
row_section n o t ks kept targets =
    All-from_contains (λ r. r.section ≡ t) (relocations_of_relas n o ks)
    (λ r there.
    let p = Contains-from_flat_map (relocations_by n o) ks r there in
    All-contains (λ (x : Relocation). x.section ≡ (section (sections o.bytes) p.of.number).sh_info) (relocations_by n o p.of) r
    (own_section n o (section (sections o.bytes) p.of.number)) p.within
    ∙ (sym (All-contains (IsKeptRela o) ks p.of kept p.there).target_is ∙ All-contains (λ (k : KeptRela). k.target ≡ t) ks p.of targets p.there))

-- the patches of a section are those of the RELA sections that relocate it, in either order
module _ (objects : List LoadedObject) (w : Where) (n : ℕ) (o : LoadedObject) (s : ℕ) where
  pub by_row :
      (ks : List KeptRela) → All (IsKeptRela o) ks →
      patches_in objects w (relocations_of_relas n o ks) s ≡ map (patch_of objects w) (relocations_of_relas n o (filter (λ k. s == k.target) ks))
  by_row [] kept = refl
  by_row (k ∷ ks) kept = by (s == k.target) refl (by_row ks (All-tail (IsKeptRela o) k ks kept))
    where
      own : All (λ r. r.section ≡ k.target) (relocations_by n o k)
      own =
          subst (λ (t : ℕ). All (λ (r : Relocation). r.section ≡ t) (relocations_by n o k)) (sym (All-head (IsKeptRela o) k ks kept).target_is)
          (own_section n o (section (sections o.bytes) k.number))

      parts : patches_in objects w (relocations_of_relas n o (k ∷ ks)) s ≡ patches_in objects w (relocations_by n o k) s ++ patches_in objects w (relocations_of_relas n o ks) s
      parts = patches_append objects w (relocations_by n o k) (relocations_of_relas n o ks) s

      by :
          (b : Bool) → (s == k.target) ≡ b →
          patches_in objects w (relocations_of_relas n o ks) s ≡ map (patch_of objects w) (relocations_of_relas n o (filter (λ j. s == j.target) ks)) →
          patches_in objects w (relocations_of_relas n o (k ∷ ks)) s
          ≡ map (patch_of objects w) (relocations_of_relas n o (cond (s == k.target) (k ∷ filter (λ j. s == j.target) ks) (filter (λ j. s == j.target) ks)))
      by true e rest =
          parts
          ∙ (ap (λ (ps : List Patch). ps ++ patches_in objects w (relocations_of_relas n o ks) s)
          (patches_here objects w s (relocations_by n o k) (subst (λ (t : ℕ). All (λ (r : Relocation). r.section ≡ t) (relocations_by n o k)) (sym (eqb-true s k.target e)) own))
          ∙ (ap (λ (ps : List Patch). map (patch_of objects w) (relocations_by n o k) ++ ps) rest
          ∙ (sym (map-append (patch_of objects w) (relocations_by n o k) (relocations_of_relas n o (filter (λ j. s == j.target) ks)))
          ∙ ap (λ (t : Bool). map (patch_of objects w) (relocations_of_relas n o (cond t (k ∷ filter (λ j. s == j.target) ks) (filter (λ j. s == j.target) ks)))) (sym e))))
      by false e rest =
          parts
          ∙ (ap (λ (ps : List Patch). ps ++ patches_in objects w (relocations_of_relas n o ks) s)
          (patches_elsewhere objects w k.target s (relocations_by n o k) own (λ f. eqb-false s k.target e (sym f)))
          ∙ (rest
          ∙ ap (λ (t : Bool). map (patch_of objects w) (relocations_of_relas n o (cond t (k ∷ filter (λ j. s == j.target) ks) (filter (λ j. s == j.target) ks)))) (sym e)))

  pub patches_ordered :
      (relas : List KeptRela) → relas ≡ by_rank target_of (kept_relas o) →
      patches_in objects w (relocations_of_relas n o relas) s ≡ patches_in objects w (relocations_from n o) s
  patches_ordered relas order =
      by_row relas (ordered_kept n o relas order)
      ∙ (ap (λ (ks : List KeptRela). map (patch_of objects w) (relocations_of_relas n o ks))
      (ap (filter (λ k. s == k.target)) order ∙ by_rank_kept target_of (record { target = s; number = 0 }) (kept_relas o))
      ∙ (sym (by_row (kept_relas o) (relas_kept n o)) ∙ ap (λ (rs : List Relocation). patches_in objects w rs s) (sym (relocations_listed n o))))
