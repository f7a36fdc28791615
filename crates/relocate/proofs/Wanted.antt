-- The patches of a section of an object: the one that has a byte, that they are apart, and how wide they are.
use Rattle.std.proofs.Common.{◌≡◌, ℕ, ◌<◌, ◌&&◌, Bool, true, List, get_or, length, option_map, sym, ap, ◌∙◌, arith}
use Rattle.std.specs.Prelude.{All, AllPairs, filter, find}
use Rattle.std.proofs.lemmas.List.Elements.{All-filter, All-map, filter_passes}
use Rattle.std.proofs.lemmas.List.Kept.{AllPairs-filter}
use Rattle.elf_model.proofs.Found.{find-agree, find-filter, find-map}
use Rattle.elf_model.proofs.Pairs.{AllPairs-map}
use Rattle.elf_model.proofs.RelocationFields.{width_some}
use Rattle.elf_model.specs.Link.Loading.{LoadedObject}
use Rattle.elf_model.specs.Link.Placement.{Where}
use Rattle.elf_model.specs.Link.Relocation.{AreFieldsApart, IsLawfulRelocation, Relocation, is_in_field}
use Rattle.elf_model.proofs.OwnFields.{in_range}
use Rattle.reloc_values.specs.Patches.{AreDisjoint, IsNarrow, covers}
use Rattle.relocate.specs.Values.{is_in_section, patch_of, patches_in}

pub patch_found :
    (objects : List LoadedObject) (w : Where) (k s j : ℕ) (rs : List Relocation) → All (λ r. r.object ≡ k) rs →
    find (covers j) (patches_in objects w rs s) ≡ option_map (patch_of objects w) (find (is_in_field k s j) rs)
patch_found objects w k s j rs own =
    find-map (covers j) (patch_of objects w) (filter (is_in_section s) rs)
    ∙ ap (option_map (patch_of objects w))
    (find-filter (is_in_section s) (λ r. covers j (patch_of objects w r)) rs
    ∙ find-agree (λ r. is_in_section s r && covers j (patch_of objects w r)) (is_in_field k s j) rs
    (λ i d low. in_range k s j (get_or rs i d) (own i d low)))

-- patches of relocations of one object whose fields are apart
pub patches_apart :
    (objects : List LoadedObject) (w : Where) (k s : ℕ) (rs : List Relocation) → All (λ r. r.object ≡ k) rs → AllPairs AreFieldsApart rs →
    AllPairs AreDisjoint (patches_in objects w rs s)
patches_apart objects w k s rs own apart =
    AllPairs-map AreDisjoint (patch_of objects w) (filter (is_in_section s) rs)
    (λ i j d low high x e f.
    AllPairs-filter AreFieldsApart (is_in_section s) rs apart i j d low high k s x
    (within i d (omega (arith, low, high)) x e) (within j d high x f))
  where
    within :
        (i : ℕ) (d : Relocation) → i < length (filter (is_in_section s) rs) → (x : ℕ) →
        covers x (patch_of objects w (get_or (filter (is_in_section s) rs) i d)) ≡ true →
        is_in_field k s x (get_or (filter (is_in_section s) rs) i d) ≡ true
    within i d low x e =
        let r = get_or (filter (is_in_section s) rs) i d in
        sym (in_range k s x r (All-filter (is_in_section s) (λ (t : Relocation). t.object ≡ k) rs own i d low))
        ∙ (ap (λ (b : Bool). b && covers x (patch_of objects w r)) (filter_passes (is_in_section s) rs i d low) ∙ e)

-- patches of lawful relocations have 1 to 8 bytes
pub patches_narrow :
    (objects : List LoadedObject) (w : Where) (s : ℕ) (rs : List Relocation) → All (IsLawfulRelocation objects) rs →
    All IsNarrow (patches_in objects w rs s)
patches_narrow objects w s rs lawful =
    All-map IsNarrow (patch_of objects w) (filter (is_in_section s) rs)
    (λ i d low.
    let l = All-filter (is_in_section s) (IsLawfulRelocation objects) rs lawful i d low in
    let width = width_some (get_or (filter (is_in_section s) rs) i d) l.known in
    record { some = width.0; narrow = width.1 })
