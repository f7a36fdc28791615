-- The fields of relocations: how wide they are, which bytes lie in them, and those of one object among all.
use Rattle.std.proofs.Common.{◌≡◌, ℕ, ◌+◌, ◌<◌, ◌≤◌, Bool, true, false, cond, List, [], ◌∷◌, Some, get_or, option_map, refl, sym, ◌∙◌, arith}
use Rattle.std.specs.Prelude.{All, IfSome, IsSome as IsThere, Option, None, filter, unwrap_or}
use Rattle.std.proofs.lemmas.Bool.{false≢true}
use Rattle.std.proofs.lemmas.Bool.Decides.{nat_tests}
use Rattle.std.proofs.lemmas.List.Elements.{All-append, All-map, All-nil, All-weaker}
use Rattle.elf_model.specs.Link.Loading.{LoadedObject}
use Rattle.elf_model.specs.Inputs.ObjectFile.{rela_type, relas_of, section, sections}
use Rattle.elf_model.specs.Link.Relocation.{AreFieldsApart, IsFieldInside, Kind, Relocation, is_in_field, is_kept_rela, is_some_kind, relocation_kind, relocation_of, relocations_behind, relocations_from, relocations_in, relocations_of, width_of}
use Rattle.elf_model.specs.declared.records.SectionHeader.{SectionHeader}
use Rattle.elf_model.proofs.KindWidths.{kind_width}

-- a relocation of a known kind has a field of 1 to 8 bytes
pub width_some : (r : Relocation) → IsThere (relocation_kind r) → (0 < width_of r) × (width_of r ≤ 8)
width_some r there = by (relocation_kind r) there (kind_width (rela_type r.entry) (relocation_kind r) refl)
  where
    by : (o : Option Kind) → IsThere o → IfSome o (λ k. (0 < k.width) × (k.width ≤ 8)) → (0 < unwrap_or (option_map (λ k. k.width) o) 0) × (unwrap_or (option_map (λ k. k.width) o) 0 ≤ 8)
    by None h n = absurd (false≢true h)
    by (Some k) h n = n

-- a field that lies inside its section ends within it
pub ends_inside : (r : Relocation) → IsThere (relocation_kind r) → IsFieldInside r → r.entry.r_offset + width_of r ≤ r.size
ends_inside r there inside = by (relocation_kind r) there inside
  where
    by : (o : Option Kind) → IsThere o → IfSome o (λ k. r.entry.r_offset + k.width ≤ r.size) → r.entry.r_offset + unwrap_or (option_map (λ k. k.width) o) 0 ≤ r.size
    by None h n = absurd (false≢true h)
    by (Some k) h n = n

-- byte k lies in a field
pub in_field : (object s k : ℕ) (r : Relocation) → is_in_field object s k r ≡ true → (r.object ≡ object) × (r.section ≡ s) × (r.entry.r_offset ≤ k) × (k < r.entry.r_offset + width_of r)
in_field object s k r e = (grind (arith, nat_tests), grind (arith, nat_tests), grind (arith, nat_tests), grind (arith, nat_tests))

pub field_has :
    (object s k : ℕ) (r : Relocation) → r.object ≡ object → r.section ≡ s → r.entry.r_offset ≤ k → k < r.entry.r_offset + width_of r →
    is_in_field object s k r ≡ true
field_has object s k r o t low high = grind (arith, nat_tests)

-- fields of different objects are apart
other_object : (r t : Relocation) → (r.object ≡ t.object → ⊥) → AreFieldsApart r t
other_object r t differ object s k e f = differ ((in_field object s k r e).0 ∙ sym (in_field object s k t f).0)

-- what holds of the relocations of each RELA section holds of those of an object
module _ (P : Relocation → Type 0) (n : ℕ) (o : LoadedObject) (each : (h : SectionHeader) → All P (relocations_in n o h)) where
  pub own_behind : (i : ℕ) (hs : List SectionHeader) → All P (relocations_behind n o i hs)
  own_behind i [] = All-nil P
  own_behind i (h ∷ hs) =
      All-append P (cond (is_kept_rela o i h) (relocations_in n o h) []) (relocations_behind n o (i + 1) hs) (by (is_kept_rela o i h)) (own_behind (i + 1) hs)
    where
      by : (b : Bool) → All P (cond b (relocations_in n o h) [])
      by true = each h
      by false = All-nil P

-- the relocations of an object have its number
pub own_object : (n : ℕ) (o : LoadedObject) → All (λ r. r.object ≡ n) (relocations_from n o)
own_object n o =
    own_behind (λ (r : Relocation). r.object ≡ n) n o
    (λ h. All-map (λ (r : Relocation). r.object ≡ n) (relocation_of n o h.sh_info) (filter is_some_kind (relas_of o.bytes h)) (λ k d low. refl))
    0 (sections o.bytes)

-- those of later objects have later numbers
pub later_objects : (n : ℕ) (os : List LoadedObject) → All (λ r. n ≤ r.object) (relocations_of n os)
later_objects n [] = All-nil (λ (r : Relocation). n ≤ r.object)
later_objects n (o ∷ os) =
    All-append (λ (r : Relocation). n ≤ r.object) (relocations_from n o) (relocations_of (n + 1) os)
    (All-weaker (λ (r : Relocation). r.object ≡ n) (λ (r : Relocation). n ≤ r.object) (λ r e. omega (arith, e)) (relocations_from n o) (own_object n o))
    (All-weaker (λ (r : Relocation). n + 1 ≤ r.object) (λ (r : Relocation). n ≤ r.object) (λ r e. omega (arith, e)) (relocations_of (n + 1) os) (later_objects (n + 1) os))

-- so the fields of one object meet none of a later one
pub objects_apart : (n : ℕ) (o : LoadedObject) (os : List LoadedObject) → All (λ r. All (AreFieldsApart r) (relocations_of (n + 1) os)) (relocations_from n o)
objects_apart n o os i d low j e high =
    let r = get_or (relocations_from n o) i d in
    let t = get_or (relocations_of (n + 1) os) j e in
    let here : r.object ≡ n = own_object n o i d low in
    let there : n + 1 ≤ t.object = later_objects (n + 1) os j e high in
    other_object r t (λ same. omega (arith, here, there, same))

-- a relocation's size is its section's
pub own_sizes : (n : ℕ) (o : LoadedObject) → All (λ r. r.size ≡ (section (sections o.bytes) r.section).sh_size) (relocations_from n o)
own_sizes n o =
    own_behind (λ (r : Relocation). r.size ≡ (section (sections o.bytes) r.section).sh_size) n o
    (λ h. All-map (λ (r : Relocation). r.size ≡ (section (sections o.bytes) r.section).sh_size) (relocation_of n o h.sh_info) (filter is_some_kind (relas_of o.bytes h)) (λ k d low. refl))
    0 (sections o.bytes)
