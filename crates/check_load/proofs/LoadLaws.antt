-- The whole command.
use Rattle.std.proofs.Common.{◌≡◌, List, [], ◌∙◌, ap, subst, sym}
use Rattle.elf_model.specs.Inputs.Command.{Plan}
use Rattle.elf_model.specs.Inputs.Files.{File}
use Rattle.elf_model.specs.Link.Loading.{AreObjects, HaveLawfulGroups, LoadedObject, loaded_objects, loaded_steps, steps}
use Rattle.elf_model.specs.Inputs.Opening.{Opened, opened}
use Rattle.opening.specs.Faults.{IsSearchable, ReadsBadly}
use Rattle.opening.specs.declared.faults.OpenFault.{OpenFault}
use Rattle.opening.specs.declared.faults.OpenFault.TheVariants as open_fault
use Rattle.opening.proofs.FaultLaws.{not_searchable}
use Rattle.check_load.specs.Loaders.{AreLoadable}
use Rattle.check_load.specs.Plans.{CanLoad}
use Rattle.check_load.specs.Stops.{Refutes, stop_of}
use Rattle.check_load.specs.declared.stops.Stop.{Stop}
use Rattle.check_load.specs.declared.stops.Stop.TheVariants as stop

-- a loader of the plan with nothing loaded goes through steps as from nothing
pub begun : (plan p : Plan) (xs : List Opened) (os : List LoadedObject) → p ≡ plan → os ≡ [] → loaded_steps p (steps xs) os ≡ loaded_steps plan (steps xs) []
begun plan p xs os same none = ap (λ (q : Plan). loaded_steps q (steps xs) os) same ∙ ap (loaded_steps plan (steps xs)) none

-- the steps of all items lead to the loaded objects
pub whole : (files : List File) (plan : Plan) (xs : List Opened) → xs ≡ opened files plan → loaded_steps plan (steps xs) [] ≡ loaded_objects files plan
unfolding loaded_objects
whole files plan xs all = ap (λ (l : List Opened). loaded_steps plan (steps l) []) all

searchable : (files : List File) (plan : Plan) → CanLoad files plan → IsSearchable files plan
searchable files plan can = record { files_are = can.files_there; archives = can.archives; indexes = can.indexes }

-- what stops a step stops all
pub reading_stops : (files : List File) (plan : Plan) (e : OpenFault) → ReadsBadly files plan e → Refutes (CanLoad files plan) (stop_of e)
reading_stops files plan open_fault.Memory s = tt
reading_stops files plan open_fault.FileMissing s = λ can. s can.files_there
reading_stops files plan (open_fault.BadArchive f) s = λ can. not_searchable files plan (open_fault.BadArchive f) (λ m. cc) s (searchable files plan can)
reading_stops files plan open_fault.NoIndex s = λ can. not_searchable files plan open_fault.NoIndex (λ m. cc) s (searchable files plan can)

pub objects_stop : (files : List File) (plan : Plan) (os : List LoadedObject) (e : Stop) → os ≡ loaded_objects files plan → Refutes (AreLoadable os) e →
    Refutes (CanLoad files plan) e
objects_stop files plan os stop.Memory same s = tt
objects_stop files plan os stop.Unlawful same s = λ can. s (subst AreLoadable (sym same) (record { objects_are = can.objects; lawful = can.groups }))

pub all_good : (files : List File) (plan : Plan) (ls : List LoadedObject) → IsSearchable files plan → ls ≡ loaded_objects files plan → AreLoadable ls → CanLoad files plan
all_good files plan ls there loaded_ loadable = record {
  files_there = there.files_are;
  archives = there.archives;
  indexes = there.indexes;
  objects = subst AreObjects loaded_ loadable.objects_are;
  groups = subst HaveLawfulGroups loaded_ loadable.lawful;
}
