-- The whole command.
use Rattle.std.proofs.Common.{◌≡◌, List, [], Option, Some, None, Result, Ok, Err, ◌∙◌, ap, subst}
use Rattle.std.specs.Prelude.{IfOk}
use Rattle.elf_model.specs.Inputs.Command.{Plan}
use Rattle.elf_model.specs.Inputs.Files.{File}
use Rattle.elf_model.specs.Link.Loading.{LoadedObject, loaded_objects, loaded_steps, steps}
use Rattle.elf_model.specs.Inputs.Opening.{Opened, opened}
use Rattle.elf_model.specs.Own.Causes.{Reaches}
use Rattle.opening.specs.Faults.{IsSearchable, ReadsBadly}
use Rattle.opening.specs.declared.faults.OpenFault.{OpenFault}
use Rattle.opening.specs.declared.faults.OpenFault.TheVariants as open_fault
use Rattle.search.specs.Faults.{FailsOn, IsRefusedIn, IsRefusedOf, LoadFails, LoadsBadly, of_opening}
use Rattle.search.specs.declared.faults.SearchFault.{SearchFault}
use Rattle.search.specs.declared.faults.SearchFault.TheVariants as error
use Rattle.search.specs.declared.loader.Reached.{Reached}
use Rattle.search.specs.declared.loader.RefusedObject.{RefusedObject}

-- the steps of all items lead to the loaded objects
pub whole : (files : List File) (plan p : Plan) (xs : List Opened) (os : List LoadedObject) → p ≡ plan → xs ≡ opened files plan → os ≡ [] →
    loaded_steps p (steps xs) os ≡ loaded_objects files plan
unfolding loaded_objects
whole files plan p xs os same all none =
    ap (λ (q : Plan). loaded_steps q (steps xs) os) same
    ∙ (ap (λ (l : List Opened). loaded_steps plan (steps l) os) all ∙ ap (loaded_steps plan (steps (opened files plan))) none)

-- faults of items, and of objects, as those of a plan
pub reading_fails : (files : List File) (plan : Plan) (e : OpenFault) → ReadsBadly files plan e → LoadFails files plan (of_opening e)
reading_fails files plan open_fault.Memory s = s
reading_fails files plan open_fault.FileMissing s = s
reading_fails files plan (open_fault.BadArchive f) s = s
reading_fails files plan open_fault.NoIndex s = s

pub reaches_weaker : (os : List LoadedObject) (P Q : LoadedObject → Type 0) → ((o : LoadedObject) → P o → Q o) → Reaches os P → Reaches os Q
reaches_weaker os P Q weaker s =
    record { front = s.front; reached = s.reached; rest = s.rest; order = s.order; are_objects = s.are_objects; lawful = s.lawful; stands = weaker s.reached s.stands }

pub objects_fail : (files : List File) (plan : Plan) (r : Option Reached) (os : List LoadedObject) (e : SearchFault) → os ≡ loaded_objects files plan →
    IsSearchable files plan → FailsOn r os e → LoadFails files plan e
objects_fail files plan r os error.Memory same there s = tt
objects_fail files plan r os error.FileMissing same there s = absurd s.stands.1
objects_fail files plan r os (error.BadArchive f) same there s = absurd s.stands.1
objects_fail files plan r os error.NoIndex same there s = absurd s.stands.1
objects_fail files plan r os (error.BadObject f) same there s = (
  there,
  subst (λ (l : List LoadedObject). Reaches l (LoadsBadly (error.BadObject f))) same (reaches_weaker os _ (LoadsBadly (error.BadObject f)) (λ o h. h.1) s),
)
objects_fail files plan r os (error.Group f) same there s =
    (there, subst (λ (l : List LoadedObject). Reaches l (LoadsBadly (error.Group f))) same (reaches_weaker os _ (LoadsBadly (error.Group f)) (λ o h. h.1) s))

-- what is told of the objects of a plan that can be searched is told of the plan
pub refused_in : {E : Type 0} (files : List File) (plan : Plan) (r : Result (Option RefusedObject) E) → IsSearchable files plan →
    IfOk r (IsRefusedOf (loaded_objects files plan)) → IfOk r (IsRefusedIn files plan)
refused_in files plan (Err e) there is = tt
refused_in files plan (Ok None) there is = λ _. is
refused_in files plan (Ok (Some r)) there is = (there, is)
