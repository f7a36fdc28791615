-- The bytes of a part of a piece, with the patches of its section's row over them, are the wanted ones.
use Rattle.std.proofs.Common.{◌≡◌, ℕ, ◌+◌, ◌<◌, List, Option, Some, None, length, map, option_map, refl, slice_index, subst, sym, ap, ◌∙◌, arith}
use Rattle.std.specs.Prelude.{IsSome, find}
use Rattle.std.specs.List.{range_with_len}
use Rattle.std.proofs.lemmas.List.{ext_get_or}
use Rattle.std.proofs.lemmas.List.FromFn.{get_or-map-range_with_len, length-map-range_with_len}
use Rattle.elf_model.specs.Link.Loading.{LoadedObject}
use Rattle.elf_model.specs.Link.Pieces.{Piece}
use Rattle.elf_model.specs.Link.Placement.{Where}
use Rattle.elf_model.specs.Link.Relocation.{Relocation, is_in_field, relocations}
use Rattle.elf_model.specs.Link.WantedBytes.{byte_or_field, wanted_byte}
use Rattle.reloc_values.specs.Patches.{byte_in, covers, patched_byte}
use Rattle.relocate.specs.Values.{HasFields, patch_of}
use Rattle.reloc_values.specs.declared.patch.Patch.{Patch}

module _ (objects : List LoadedObject) (w : Where) (k s : ℕ) (row : List Patch) (fields : HasFields objects w k s row) (p : Piece) (here : p.object ≡ k) (there : p.section ≡ s) where
  -- the search for a relocation of the piece's section
  same_section : (j : ℕ) (o : Option Relocation) → o ≡ find (is_in_field k s j) (relocations objects) → byte_or_field objects w p j o ≡ wanted_byte objects w p j
  same_section j o e =
      ap (byte_or_field objects w p j) e
      ∙ (ap (λ (m : ℕ). byte_or_field objects w p j (find (is_in_field m s j) (relocations objects))) (sym here)
      ∙ ap (λ (m : ℕ). byte_or_field objects w p j (find (is_in_field p.object m j) (relocations objects))) (sym there))

  -- a byte with the patch over it of the relocation that has it
  part_byte :
      (from : ℕ) (base : List ℕ) (j : ℕ) (o : Option Relocation) → slice_index base j ≡ slice_index p.bytes (from + j) →
      byte_in from base j (option_map (patch_of objects w) o) ≡ byte_or_field objects w p (from + j) o
  part_byte from base j None same = same
  part_byte from base j (Some r) same = refl

  pub part_wanted :
      (from : ℕ) (base new : List ℕ) (part : List Patch) → length new ≡ length base →
      ((j : ℕ) → j < length base → slice_index new j ≡ patched_byte from base part j) →
      ((j : ℕ) → j < length base → find (covers (from + j)) part ≡ find (covers (from + j)) row) →
      ((j : ℕ) → j < length base → slice_index base j ≡ slice_index p.bytes (from + j)) →
      new ≡ map (wanted_byte objects w p) (range_with_len from (length base))
  part_wanted from base new part long written found same =
      let wanted : ℕ → ℕ = wanted_byte objects w p in
      let n = length base in
      let other = length-map-range_with_len wanted from n in
      ext_get_or 0 new (map wanted (range_with_len from n)) (long ∙ sym other)
      (λ j within.
      let low : j < n = omega (arith, within, long) in
      let o = find (is_in_field k s (from + j)) (relocations objects) in
      written j low
      ∙ (ap (byte_in from base j) (found j low ∙ fields (from + j))
      ∙ (part_byte from base j o (same j low)
      ∙ (same_section (from + j) o refl
      ∙ sym (get_or-map-range_with_len wanted from n j (from + j) 0 low refl)))))

  -- a byte that no patch has is wanted as it is
  pub untouched : (j : ℕ) → find (covers j) row ≡ None → wanted_byte objects w p j ≡ slice_index p.bytes j
  untouched j none = sym (same_section j None (sym (unmapped (find (is_in_field k s j) (relocations objects)) (sym (fields j) ∙ none))))
    where
      unmapped : (o : Option Relocation) → option_map (patch_of objects w) o ≡ None → o ≡ None
      unmapped None e = refl
      unmapped (Some r) e = cc

-- and one that a patch has lies in a relocation's field
pub touched :
    (objects : List LoadedObject) (w : Where) (k s : ℕ) (row : List Patch) → HasFields objects w k s row → (j : ℕ) → IsSome (find (covers j) row) →
    IsSome (find (is_in_field k s j) (relocations objects))
touched objects w k s row fields j there =
    of (find (is_in_field k s j) (relocations objects)) (subst (λ (o : Option Patch). IsSome o) (fields j) there)
  where
    of : (o : Option Relocation) → IsSome (option_map (patch_of objects w) o) → IsSome o
    of None e = e
    of (Some r) e = refl
