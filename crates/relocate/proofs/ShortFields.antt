-- A field lies in a section that is a part of an object's file, so its place has 32 bits.
use Rattle.std.proofs.Common.{◌≡◌, ℕ, ◌+◌, ◌<◌, ◌≤◌, ◌&&◌, ◌⊎◌, inl, inr, Bool, true, false, cond, not, List, [], ◌∷◌, ◌^◌, ◌==◌, Option, Some, None, length, refl, arith}
use Rattle.std.specs.Prelude.{All, IfSome, IsSome, filter}
use Rattle.std.proofs.lemmas.Bool.{and_parts, eqb-true, false≢true}
use Rattle.std.proofs.lemmas.List.Elements.{All-append, All-head, All-map, All-nil, All-tail}
use Rattle.elf_model.specs.Inputs.ObjectFile.{IsObject, IsRelaSection, LiesInside, MayBeRelocated, relas_of, section, sections}
use Rattle.elf_model.specs.Link.Loading.{AreObjects, LoadedObject, is_dropped}
use Rattle.elf_model.specs.Link.Pieces.{is_kept}
use Rattle.elf_model.specs.Link.Relocation.{AreLawfulRelocations, Kind, Relocation, is_kept_rela, is_some_kind, relocation_of, relocations, relocations_behind, relocations_from, relocations_in, relocations_of}
use Rattle.elf_model.specs.declared.constants.TheConstants.{SHT_NOBITS, SHT_NULL, SHT_RELA}
use Rattle.elf_model.specs.declared.records.SectionHeader.{SectionHeader}
use Rattle.elf_model.specs.Inputs.ObjectFile.{null_section}
use Rattle.relocate.specs.Values.{IsPatchable}

-- its section is smaller than 2 ^ 32 bytes
abbrev IsShort : Relocation → Type 0
IsShort r = r.size < 2 ^ 32

module _ (n : ℕ) (o : LoadedObject) (object : IsObject o.bytes) where
  abbrev ss : List SectionHeader
  ss = sections o.bytes

  size_of : (k : ℕ) → MayBeRelocated ss k → (section ss k).sh_size < 2 ^ 32
  size_of k may = by (object.ranges k null_section may.there).range
    where
      by : ((section ss k).sh_type ≡ SHT_NULL) ⊎ ((section ss k).sh_type ≡ SHT_NOBITS) ⊎ LiesInside (length o.bytes) (section ss k) → (section ss k).sh_size < 2 ^ 32
      by (inl null) = absurd (may.not_null null)
      by (inr (inl nobits)) = absurd (may.not_nobits nobits)
      by (inr (inr inside)) = let small = object.size in omega (arith, inside, small)

  of_rela : (h : SectionHeader) → IsRelaSection ss h → All IsShort (relocations_in n o h)
  of_rela h is =
      All-map IsShort (relocation_of n o h.sh_info) (filter is_some_kind (relas_of o.bytes h)) (λ i d within. size_of h.sh_info is.relocates)

  of_sections :
      (i : ℕ) (hs : List SectionHeader) → All (λ h. h.sh_type ≡ SHT_RELA → IsRelaSection ss h) hs → All IsShort (relocations_behind n o i hs)
  of_sections i [] all = All-nil IsShort
  of_sections i (h ∷ hs) all =
      All-append IsShort (cond (is_kept_rela o i h) (relocations_in n o h) []) (relocations_behind n o (i + 1) hs)
      (by (is_kept_rela o i h) refl)
      (of_sections (i + 1) hs (All-tail (λ (x : SectionHeader). x.sh_type ≡ SHT_RELA → IsRelaSection ss x) h hs all))
    where
      by : (b : Bool) → is_kept_rela o i h ≡ b → All IsShort (cond b (relocations_in n o h) [])
      by false e = All-nil IsShort
      by true e =
          let rela : h.sh_type ≡ SHT_RELA =
          eqb-true h.sh_type SHT_RELA (and_parts (h.sh_type == SHT_RELA) (not (is_dropped o i) && is_kept o h.sh_info (section (sections o.bytes) h.sh_info)) e).0 in
          of_rela h (All-head (λ (x : SectionHeader). x.sh_type ≡ SHT_RELA → IsRelaSection ss x) h hs all rela)

of_objects : (k : ℕ) (os : List LoadedObject) → AreObjects os → All IsShort (relocations_of k os)
of_objects k [] all = All-nil IsShort
of_objects k (o ∷ os) all =
    let object = All-head (λ (x : LoadedObject). IsObject x.bytes) o os all in
    All-append IsShort (relocations_from k o) (relocations_of (k + 1) os) (of_sections k o object 0 (sections o.bytes) object.relas.tables.relas)
    (of_objects (k + 1) os (All-tail (λ (x : LoadedObject). IsObject x.bytes) o os all))

-- a field inside a section begins in it
begins_inside : (o : Option Kind) (at size : ℕ) → IsSome o → IfSome o (λ k. at + k.width ≤ size) → at ≤ size
begins_inside None at size known inside = absurd (false≢true known)
begins_inside (Some k) at size known inside = omega (arith, inside)

-- lawful relocations of objects get patches
pub are_patchable : (objects : List LoadedObject) → AreObjects objects → AreLawfulRelocations objects → All IsPatchable (relocations objects)
are_patchable objects are lawful i d within =
    let each = lawful.each i d within in
    let small = of_objects 0 objects are i d within in
    let begins = begins_inside _ _ _ each.known each.inside in
    record { known = each.known; short = omega (arith, small, begins) }
