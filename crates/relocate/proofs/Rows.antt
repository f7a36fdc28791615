-- The patches of the sections of an object, from those of some of its relocations.
use Rattle.std.proofs.Common.{◌≡◌, ℕ, ◌==◌, Bool, true, false, cond, List, [], ◌∷◌, ◌++◌, map, refl, sym, ap, ◌∙◌}
use Rattle.std.specs.Prelude.{All, filter}
use Rattle.std.proofs.lemmas.Bool.{eq-eqb, ne_eqb}
use Rattle.std.proofs.lemmas.List.{map-append}
use Rattle.std.proofs.lemmas.List.Elements.{All-head, All-map, All-tail, filter-append}
use Rattle.elf_model.specs.Link.Loading.{LoadedObject}
use Rattle.elf_model.specs.Inputs.ObjectFile.{relas_of}
use Rattle.elf_model.specs.Link.Placement.{Where}
use Rattle.elf_model.specs.Link.Relocation.{Relocation, is_some_kind, relocation_of, relocations_in}
use Rattle.elf_model.specs.declared.records.SectionHeader.{SectionHeader}
use Rattle.relocate.specs.Values.{fitting_of, is_in_section, patch_of, patches_in}
use Rattle.reloc_values.specs.declared.patch.Patch.{Patch}
use Rattle.relocate.specs.declared.values.Fitting.{Fitting}

module _ (objects : List LoadedObject) (w : Where) where
  -- a fitting value at the place of its field is the patch of its relocation
  pub patch_is :
      (r : Relocation) (f : Fitting) (at : ℕ) → f ≡ fitting_of objects w r → at ≡ r.entry.r_offset →
      record { value = f.value; at = at; width = f.width } ≡ patch_of objects w r
  patch_is r f at fitting place = λ i. record { value = (fitting i).value; at = place i; width = (fitting i).width }

  pub patches_append : (here more : List Relocation) (s : ℕ) → patches_in objects w (here ++ more) s ≡ patches_in objects w here s ++ patches_in objects w more s
  patches_append here more s =
      ap (map (patch_of objects w)) (filter-append (is_in_section s) here more)
      ∙ map-append (patch_of objects w) (filter (is_in_section s) here) (filter (is_in_section s) more)

  -- of relocations of one section
  pub patches_here : (t : ℕ) (rs : List Relocation) → All (λ r. r.section ≡ t) rs → patches_in objects w rs t ≡ map (patch_of objects w) rs
  patches_here t [] own = refl
  patches_here t (r ∷ rs) own =
      let same : (r.section == t) ≡ true = eq-eqb r.section t (All-head (λ (x : Relocation). x.section ≡ t) r rs own) in
      ap (λ (b : Bool). map (patch_of objects w) (cond b (r ∷ filter (is_in_section t) rs) (filter (is_in_section t) rs))) same
      ∙ ap (λ (qs : List Patch). patch_of objects w r ∷ qs) (patches_here t rs (All-tail (λ (x : Relocation). x.section ≡ t) r rs own))

  pub patches_elsewhere : (t s : ℕ) (rs : List Relocation) → All (λ r. r.section ≡ t) rs → (t ≡ s → ⊥) → patches_in objects w rs s ≡ []
  patches_elsewhere t s [] own other = refl
  patches_elsewhere t s (r ∷ rs) own other =
      let at : r.section ≡ t = All-head (λ (x : Relocation). x.section ≡ t) r rs own in
      let differs : (r.section == s) ≡ false = ne_eqb r.section s (λ e. other (sym at ∙ e)) in
      ap (λ (b : Bool). map (patch_of objects w) (cond b (r ∷ filter (is_in_section s) rs) (filter (is_in_section s) rs))) differs
      ∙ patches_elsewhere t s rs (All-tail (λ (x : Relocation). x.section ≡ t) r rs own) other

-- the relocations of a RELA section are all of the section that it names
pub own_section : (n : ℕ) (o : LoadedObject) (h : SectionHeader) → All (λ r. r.section ≡ h.sh_info) (relocations_in n o h)
own_section n o h =
    All-map (λ (r : Relocation). r.section ≡ h.sh_info) (relocation_of n o h.sh_info) (filter is_some_kind (relas_of o.bytes h))
    (λ k d low. refl)
