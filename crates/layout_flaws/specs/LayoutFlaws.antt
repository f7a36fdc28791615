-- The flaws of the own layout: of the kept sections in load order each that by itself takes up more than all addresses from the
-- base on; of the kept relocations in load order each whose value there doesn't fit its field.
use Rattle.std.specs.Prelude.{◌≡◌, ◌⊎◌, ◌<◌, ◌≤◌, ◌%◌, ◌^◌, ℕ, ◌+◌, true, false, List, [], ◌∷◌, ◌++◌, Some}
use Rattle.std.specs.List.{slice_get}
use Rattle.elf_model.specs.Inputs.ObjectFile.{sections}
use Rattle.elf_model.specs.Link.Loading.{LoadedObject}
use Rattle.elf_model.specs.Link.Pieces.{AreLawfulKinds, Piece, is_kept, kept_sections}
use Rattle.elf_model.specs.Link.Placement.{Where, section_address}
use Rattle.elf_model.specs.Link.Relocation.{Relocation, is_some_kind}
use Rattle.elf_model.specs.Link.RelocationValues.{Fits, value_of}
use Rattle.elf_model.specs.Link.Slots as wanted
use Rattle.elf_model.specs.declared.records.SectionHeader.{SectionHeader}
use Rattle.layout.specs.Placements.{Basis}
use Rattle.relocate.specs.Values.{pointer_in, where_in}
use Rattle.search.specs.Loads.{LoadedPlan}
use Rattle.flaws.specs.Flaws.{AreAdded}
use Rattle.wrong_references.specs.Entries.{EntryOf, entries}
use Rattle.wrong_references.specs.References.{IsKeptEntry, relocation_at}
use Rattle.wrong_references.specs.declared.flaw.EntryNumber.{EntryNumber}
use Rattle.layout_flaws.specs.declared.flaw.LayoutFlaw.{LayoutFlaw}
use Rattle.layout_flaws.specs.declared.flaw.LayoutFlaw.TheVariants as flaw
use Rattle.layout_flaws.specs.declared.values.LaidOut.{LaidOut}

-- the base and the objects of what is loaded
abbrev pub basis_of : LoadedPlan → Basis
basis_of l = record { base = l.plan.base; objects = l.objects }

-- a kept section adds nothing where it ends within the addresses as it begins at the base; else itself
abbrev pub AddsLarge : ℕ → Piece → List LayoutFlaw → List LayoutFlaw → Type 0
AddsLarge base p before after =
    ((base + p.size ≤ 2 ^ 46) × (after ≡ before))
    ⊎ ((2 ^ 46 < base + p.size) × (after ≡ before ++ flaw.Large p.object p.section ∷ []))

abbrev pub AreLargeSections : Basis → List LayoutFlaw → Type 0
AreLargeSections b flaws = AreAdded (AddsLarge b.base) (kept_sections b.objects) [] flaws

-- the address of a relocation's field, modulo 2 ^ 64; and the flaw of an entry
abbrev pub field_address : Where → Relocation → ℕ
field_address w r = (section_address w.placed r.object r.section + r.entry.r_offset) % 2 ^ 64

abbrev pub unfit_at : List LoadedObject → Where → EntryOf → LayoutFlaw
unfit_at objects w e =
    flaw.Unfit e.relocation.object (record { table = e.table; number = e.number })
    (value_of objects w e.relocation) (field_address w e.relocation)

-- an entry adds nothing where it is of type NONE, or its value fits; else itself
abbrev pub AddsUnfit : List LoadedObject → Where → EntryOf → List LayoutFlaw → List LayoutFlaw → Type 0
AddsUnfit objects w e before after =
    ((is_some_kind e.relocation.entry ≡ false) × (after ≡ before))
    ⊎ (Fits objects w e.relocation × (after ≡ before))
    ⊎ ((is_some_kind e.relocation.entry ≡ true) × (¬ Fits objects w e.relocation) × (after ≡ before ++ unfit_at objects w e ∷ []))

abbrev pub AreUnfitValues : Basis → List LayoutFlaw → Type 0
AreUnfitValues b flaws = AreAdded (AddsUnfit b.objects (where_in b)) (entries b.objects) [] flaws

-- a flaw is one of a layout: a kept section that is too large, or a kept relocation whose value, which is told with the address
-- of its field, doesn't fit
pub record IsLarge (b : Basis) (k i : ℕ) : Type 0 where
  pub o : LoadedObject
  pub h : SectionHeader
  pub object : slice_get b.objects k ≡ Some o
  pub section : slice_get (sections o.bytes) i ≡ Some h
  pub kept : is_kept o i h ≡ true
  pub wrong : 2 ^ 46 < b.base + h.sh_size

pub record IsUnfit (b : Basis) (k : ℕ) (e : EntryNumber) (value : ℕ) (address : ℕ) : Type 0 where
  pub at : IsKeptEntry b.objects k e
  pub value_is : value ≡ value_of b.objects (where_in b) (relocation_at at)
  pub address_is : address ≡ field_address (where_in b) (relocation_at at)
  pub wrong : ¬ Fits b.objects (where_in b) (relocation_at at)

abbrev pub IsFlaw : Basis → LayoutFlaw → Type 0
IsFlaw b (flaw.Large k i) = IsLarge b k i
IsFlaw b (flaw.Unfit k e value address) = IsUnfit b k e value address

-- it is told of sections, or of values
abbrev pub IsOfSections : LayoutFlaw → Type 0
IsOfSections (flaw.Large k i) = Unit {0}
IsOfSections _ = ⊥

abbrev pub IsOfValues : LayoutFlaw → Type 0
IsOfValues (flaw.Unfit k e value address) = Unit {0}
IsOfValues _ = ⊥

abbrev pub IsLargeSection : Basis → LayoutFlaw → Type 0
IsLargeSection b f = IsFlaw b f × IsOfSections f

abbrev pub IsUnfitValue : Basis → LayoutFlaw → Type 0
IsUnfitValue b f = IsFlaw b f × IsOfValues f

-- lawful sections are laid out, and the GOT's slots and the thread pointer are those of this layout
pub record IsLaidOut (l : LaidOut) : Type 0 where
  pub objects : l.resolved.now ≡ l.placement.now.objects
  pub kinds : AreLawfulKinds l.placement.now.objects
  pub slots : l.slots.now.slots ≡ wanted.slots l.placement.now.objects
  pub slots_of : l.slots.now.objects ≡ l.resolved.now
  pub pointer : l.pointer ≡ pointer_in (where_in l.placement.now)
