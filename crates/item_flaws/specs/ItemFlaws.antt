-- Why nothing is loaded of the items of a plan: each item without a file, in their order; where each has one, each archive that is
-- none, or has no index and is searched; where all can be searched, the object at which loading stops, and each other item that
-- is to be an object and is none.
use Rattle.std.specs.Prelude.{◌≡◌, ◌≢◌, ◌⊎◌, ℕ, ◌+◌, true, false, List, [], ◌∷◌, ◌++◌, Option, None, Some}
use Rattle.std.specs.List.{slice_get}
use Rattle.bad_members.specs.BadMembers.{IsBadMember}
use Rattle.command.specs.Views.{source_of}
use Rattle.command.specs.declared.items.Source.{Source}
use Rattle.elf_model.specs.Inputs.ArchiveFile.{IsArchive}
use Rattle.elf_model.specs.Inputs.Command.{Item, Plan}
use Rattle.elf_model.specs.Inputs.Files.{File}
use Rattle.elf_model.specs.Inputs.ObjectFile.{IsObject}
use Rattle.elf_model.specs.Inputs.Opening.{HasFile, Opened, lacks_index, opened}
use Rattle.elf_model.specs.Link.Loading.{AreObjects, HaveLawfulGroups, loaded_objects}
use Rattle.elf_model.specs.Own.Causes.{IsBadArchive, IsBadObject, IsWithoutIndex}
use Rattle.elf_model.specs.declared.faults.ArFault.{ArFault}
use Rattle.elf_model.specs.declared.faults.ArFault.TheVariants as archive_fault
use Rattle.elf_model.specs.declared.faults.GroupFault.{GroupFault}
use Rattle.elf_model.specs.declared.faults.ObjFault.{ObjFault}
use Rattle.elf_model.specs.declared.faults.ObjFault.TheVariants as object_fault
use Rattle.flaws.specs.Flaws.{AreAdded}
use Rattle.opening.specs.Faults.{IsSearchable}
use Rattle.search.specs.Faults.{IsRefusedIn}
use Rattle.search.specs.declared.faults.SearchFault.{SearchFault}
use Rattle.search.specs.declared.faults.SearchFault.TheVariants as search_fault
use Rattle.search.specs.declared.loader.Reached.{Reached}
use Rattle.item_flaws.specs.declared.flaw.ItemFlaw.{ItemFlaw}
use Rattle.item_flaws.specs.declared.flaw.ItemFlaw.TheVariants as flaw

-- where an opened item is
pub record IsOpenedAt (p : Reached) (o : Opened) : Type 0 where
  pub number : p.item ≡ o.number
  pub path : p.path.now ≡ o.path
  pub bytes : p.bytes.now ≡ o.bytes

-- a fault of an archive is that of the member whose header is at an offset, or of the whole file, where that is 0
abbrev pub IsOffsetOf : List ℕ → ArFault → ℕ → Type 0
IsOffsetOf bytes f at = (at ≡ 0) ⊎ IsBadMember bytes f at

-- items by their numbers
abbrev pub numbered : ℕ → List Item → List (ℕ × Item)
numbered i [] = []
numbered i (item ∷ items) = (i, item) ∷ numbered (i + 1) items

-- an item adds nothing where it has a file; else itself, with its source
abbrev pub AddsMissing : List File → List (List ℕ) → ℕ × Item → List ItemFlaw → List ItemFlaw → Type 0
AddsMissing files directories p before after =
    (HasFile files directories p.1 × (after ≡ before))
    ⊎ ((¬ HasFile files directories p.1)
    × (source : Source)
    × (source_of source ≡ p.1.source)
    × (after ≡ before ++ flaw.Missing p.0 source ∷ []))

abbrev pub AreMissingItems : List File → Plan → List ItemFlaw → Type 0
AreMissingItems files plan flaws = AreAdded (AddsMissing files plan.directories) (numbered 0 plan.items) [] flaws

-- an opened item that is read as an archive is one, and has an index where it is searched by it
pub record IsSearchedWell (o : Opened) : Type 0 where
  pub archive : o.archive ≡ true → IsArchive o.bytes
  pub index : o.archive ≡ true → lacks_index o ≡ false

-- it is none, or has no index: the flaw that tells so
pub record IsArchiveFlaw (o : Opened) (f : ArFault) (told : ItemFlaw) : Type 0 where
  pub p : Reached
  pub at : IsOpenedAt p o
  pub offset : IsOffsetOf o.bytes f p.offset
  pub is : told ≡ flaw.Archive p f

pub record IsIndexFlaw (o : Opened) (told : ItemFlaw) : Type 0 where
  pub p : Reached
  pub at : IsOpenedAt p o
  pub is : told ≡ flaw.NoIndex p

abbrev pub AddsUnsearchable : Opened → List ItemFlaw → List ItemFlaw → Type 0
AddsUnsearchable o before after =
    (IsSearchedWell o × (after ≡ before))
    ⊎ ((f : ArFault)
    × (told : ItemFlaw)
    × (f ≢ archive_fault.Memory)
    × IsBadArchive f o
    × IsArchiveFlaw o f told
    × (after ≡ before ++ told ∷ []))
    ⊎ ((told : ItemFlaw) × IsWithoutIndex o × IsIndexFlaw o told × (after ≡ before ++ told ∷ []))

abbrev pub AreUnsearchableItems : List File → Plan → List ItemFlaw → Type 0
AreUnsearchableItems files plan flaws = AreAdded AddsUnsearchable (opened files plan) [] flaws

-- loading a plan stops at the object of a place, which has a fault: the plan's archives can be searched, and all objects before
-- it are objects with lawful groups
abbrev pub IsStoppedAt : List File → Plan → Reached → SearchFault → Type 0
IsStoppedAt files plan p f = IsRefusedIn files plan (Some (record { at = p; fault = f }))

-- all that the plan loads can be loaded, where its archives can be searched
abbrev pub IsLoadable : List File → Plan → Type 0
IsLoadable files plan = IsRefusedIn files plan None

-- the object at which loading stops, by the number of its item; none where it stops at none
abbrev pub AddsStopped : List File → Plan → Option ℕ → List ItemFlaw → List ItemFlaw → Type 0
AddsStopped files plan stop before after =
    ((stop ≡ None) × IsLoadable files plan × (after ≡ before))
    ⊎ ((p : Reached)
    × (f : ObjFault)
    × (stop ≡ Some p.item)
    × IsStoppedAt files plan p (search_fault.BadObject f)
    × (after ≡ before ++ flaw.Object p f ∷ []))
    ⊎ ((p : Reached)
    × (f : GroupFault)
    × (stop ≡ Some p.item)
    × IsStoppedAt files plan p (search_fault.Group f)
    × (after ≡ before ++ flaw.Groups p f ∷ []))

-- an opened item adds nothing where it is an archive, the one at which loading stops, or an object; else itself, with a fault that
-- it has
abbrev pub AddsUnreadable : Option ℕ → Opened → List ItemFlaw → List ItemFlaw → Type 0
AddsUnreadable stop o before after =
    ((o.archive ≡ true) × (after ≡ before))
    ⊎ ((stop ≡ Some o.number) × (after ≡ before))
    ⊎ (IsObject o.bytes × (after ≡ before))
    ⊎ ((p : Reached)
    × (f : ObjFault)
    × (stop ≢ Some o.number)
    × IsOpenedAt p o
    × (f ≢ object_fault.Memory)
    × IsBadObject f o
    × (after ≡ before ++ flaw.Object p f ∷ []))

abbrev pub AreBadObjects : List File → Plan → List ItemFlaw → Type 0
AreBadObjects files plan flaws =
    (stop : Option ℕ)
    × (stopped : List ItemFlaw)
    × AddsStopped files plan stop [] stopped
    × AreAdded (AddsUnreadable stop) (opened files plan) stopped flaws

-- an item of a plan, which names a source, has no file
pub record IsMissing (files : List File) (plan : Plan) (i : ℕ) (source : Source) : Type 0 where
  pub item : Item
  pub there : slice_get plan.items i ≡ Some item
  pub source_is : source_of source ≡ item.source
  pub missing : ¬ HasFile files plan.directories item

-- a place is that of an item of a plan, which is opened, and something stands of it
pub record IsItemAt (files : List File) (plan : Plan) (p : Reached) (Stands : Opened → Type 0) : Type 0 where
  pub item : Opened
  pub there : slice_get (opened files plan) p.item ≡ Some item
  pub path : p.path.now ≡ item.path
  pub bytes : p.bytes.now ≡ item.bytes
  pub stands : Stands item

-- a place is that of an archive that is none, by a fault, or of an object that can't be read
abbrev pub IsBadArchiveAt : List File → Plan → Reached → ArFault → Type 0
IsBadArchiveAt files plan p f =
    IsItemAt files plan p (λ o. (f ≢ archive_fault.Memory) × IsBadArchive f o) × IsOffsetOf p.bytes.now f p.offset

abbrev pub IsBadObjectAt : List File → Plan → Reached → ObjFault → Type 0
IsBadObjectAt files plan p f =
    IsStoppedAt files plan p (search_fault.BadObject f)
    ⊎ IsItemAt files plan p (λ o. (f ≢ object_fault.Memory) × IsBadObject f o)

-- a flaw is one of a plan
abbrev pub IsItemFlaw : List File → Plan → ItemFlaw → Type 0
IsItemFlaw files plan (flaw.Missing i source) = IsMissing files plan i source
IsItemFlaw files plan (flaw.Archive p f) = IsBadArchiveAt files plan p f
IsItemFlaw files plan (flaw.NoIndex p) = IsItemAt files plan p IsWithoutIndex
IsItemFlaw files plan (flaw.Object p f) = IsBadObjectAt files plan p f
IsItemFlaw files plan (flaw.Groups p f) = IsStoppedAt files plan p (search_fault.Group f)

-- it is told of items without files, of archives, or of objects
abbrev pub IsOfFiles : ItemFlaw → Type 0
IsOfFiles (flaw.Missing i source) = Unit {0}
IsOfFiles _ = ⊥

abbrev pub IsOfArchives : ItemFlaw → Type 0
IsOfArchives (flaw.Archive p f) = Unit {0}
IsOfArchives (flaw.NoIndex p) = Unit {0}
IsOfArchives _ = ⊥

abbrev pub IsOfObjects : ItemFlaw → Type 0
IsOfObjects (flaw.Object p f) = Unit {0}
IsOfObjects (flaw.Groups p f) = Unit {0}
IsOfObjects _ = ⊥

abbrev pub IsMissingItem : List File → Plan → ItemFlaw → Type 0
IsMissingItem files plan f = IsItemFlaw files plan f × IsOfFiles f

abbrev pub IsUnsearchableItem : List File → Plan → ItemFlaw → Type 0
IsUnsearchableItem files plan f = IsItemFlaw files plan f × IsOfArchives f

abbrev pub IsBadObjectFlaw : List File → Plan → ItemFlaw → Type 0
IsBadObjectFlaw files plan f = IsItemFlaw files plan f × IsOfObjects f
