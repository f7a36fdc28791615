-- The faults of objects, archives and groups as those of loading, and when each stands.
use Rattle.std.specs.Prelude.{◌≡◌, ◌≢◌, ℕ, List, Any, Option, Some, None}
use Rattle.elf_model.specs.Own.Causes.{HasBadGroups, IsBadArchive, IsWithoutIndex, Reaches}
use Rattle.elf_model.specs.Inputs.Command.{Plan}
use Rattle.elf_model.specs.Inputs.Files.{File}
use Rattle.elf_model.specs.Link.Groups.{GroupFaultStands}
use Rattle.elf_model.specs.Link.Loading.{AreObjects, HaveLawfulGroups, LoadedObject, loaded_objects}
use Rattle.elf_model.specs.Inputs.ObjectFile.{IsObject, ObjFaultStands, groups}
use Rattle.elf_model.specs.Inputs.Opening.{AreFilesThere, opened}
use Rattle.elf_model.specs.declared.faults.ArFault.TheVariants as archive_fault
use Rattle.elf_model.specs.declared.faults.GroupFault.{GroupFault}
use Rattle.elf_model.specs.declared.faults.GroupFault.TheVariants as group_fault
use Rattle.elf_model.specs.declared.faults.ObjFault.{ObjFault}
use Rattle.elf_model.specs.declared.faults.ObjFault.TheVariants as object_fault
use Rattle.opening.specs.Faults.{IsSearchable}
use Rattle.opening.specs.declared.faults.OpenFault.{OpenFault}
use Rattle.opening.specs.declared.faults.OpenFault.TheVariants as open_fault
use Rattle.search.specs.declared.faults.SearchFault.{SearchFault}
use Rattle.search.specs.declared.loader.Reached.{Reached}
use Rattle.search.specs.declared.loader.RefusedObject.{RefusedObject}
use Rattle.search.specs.declared.faults.SearchFault.TheVariants as error

abbrev pub of_object : ObjFault → SearchFault
of_object object_fault.Memory = error.Memory
of_object f = error.BadObject f

-- a fault of items
abbrev pub of_opening : OpenFault → SearchFault
of_opening open_fault.Memory = error.Memory
of_opening open_fault.FileMissing = error.FileMissing
of_opening (open_fault.BadArchive f) = error.BadArchive f
of_opening open_fault.NoIndex = error.NoIndex

abbrev pub of_groups : GroupFault → SearchFault
of_groups group_fault.Memory = error.Memory
of_groups f = error.Group f

-- why an object could not be loaded: its bytes, or its groups
abbrev pub LoadsBadly : SearchFault → LoadedObject → Type 0
LoadsBadly (error.BadObject f) o = (f ≢ object_fault.Memory) × ObjFaultStands o.bytes f
LoadsBadly (error.Group f) o = (f ≢ group_fault.Memory) × HasBadGroups f o
LoadsBadly _ o = ⊥

-- the same by the object's bytes, or want of memory
abbrev pub FailsAt : List ℕ → SearchFault → Type 0
FailsAt bytes error.Memory = Unit {0}
FailsAt bytes (error.BadObject f) = (f ≢ object_fault.Memory) × ObjFaultStands bytes f
FailsAt bytes (error.Group f) = (f ≢ group_fault.Memory) × IsObject bytes × GroupFaultStands (groups bytes) f
FailsAt bytes _ = ⊥

-- an object to which loading has come is this one
pub record IsObjectAt (r : Reached) (o : LoadedObject) : Type 0 where
  pub item : r.item ≡ o.item
  pub path : r.path.now ≡ o.path
  pub offset : r.offset ≡ o.offset
  pub bytes : r.bytes.now ≡ o.bytes

abbrev pub IsReached : Option Reached → LoadedObject → Type 0
IsReached None o = ⊥
IsReached (Some r) o = IsObjectAt r o

-- why objects could not all be loaded: one that loading reaches, which is the one to which it has come, or want of memory
abbrev pub FailsOn : Option Reached → List LoadedObject → SearchFault → Type 0
FailsOn reached objects error.Memory = Unit {0}
FailsOn reached objects e = Reaches objects (λ o. IsReached reached o × LoadsBadly e o)

-- the object that loading reaches and can't load, and why; none where it loads all
abbrev pub IsRefusedOf : List LoadedObject → Option RefusedObject → Type 0
IsRefusedOf objects None = AreObjects objects × HaveLawfulGroups objects
IsRefusedOf objects (Some r) = Reaches objects (λ o. IsObjectAt r.at o × LoadsBadly r.fault o)

-- the object of a plan that loading reaches and can't load, and why; none where its items can't be read, or it loads all
abbrev pub IsRefusedIn : List File → Plan → Option RefusedObject → Type 0
IsRefusedIn files plan None = IsSearchable files plan → IsRefusedOf (loaded_objects files plan) None
IsRefusedIn files plan (Some r) = IsSearchable files plan × IsRefusedOf (loaded_objects files plan) (Some r)

-- why a plan could not be loaded
abbrev pub LoadFails : List File → Plan → SearchFault → Type 0
LoadFails files plan error.Memory = Unit {0}
LoadFails files plan error.FileMissing = ¬ AreFilesThere files plan
LoadFails files plan (error.BadArchive f) = AreFilesThere files plan × (f ≢ archive_fault.Memory) × Any (IsBadArchive f) (opened files plan)
LoadFails files plan error.NoIndex = AreFilesThere files plan × Any IsWithoutIndex (opened files plan)
LoadFails files plan e = IsSearchable files plan × Reaches (loaded_objects files plan) (LoadsBadly e)
