-- What is reached of an archive's turn and of later steps fails as the whole does.
use Rattle.std.proofs.Common.{◌≡◌, ℕ, false, List, [], ◌∷◌, Result, Ok, Err, subst}
use Rattle.std.specs.Prelude.{All, IfErr}
use Rattle.std.proofs.lemmas.Bool.{cond-false}
use Rattle.elf_model.specs.Inputs.Command.{Plan}
use Rattle.elf_model.specs.Link.Loading.{LoadedObject, Single, loaded_step, object_behind, turn, with_object}
use Rattle.elf_model.specs.Link.Groups.{AreLawfulGroups}
use Rattle.elf_model.specs.Inputs.ObjectFile.{IsObject, groups}
use Rattle.elf_model.specs.Inputs.Opening.{Opened}
use Rattle.std.proofs.lemmas.List.Elements.{All-head}
use Rattle.elf_model.proofs.Listed.{All-parts}
use Rattle.elf_model.proofs.LoadingBounds.{Extends, extends_same}
use Rattle.check_load.specs.Loaders.{AreLoadable, IsLoadable}
use Rattle.check_load.specs.Stops.{Refutes}
use Rattle.check_load.specs.declared.stops.Stop.{Stop}
use Rattle.check_load.specs.declared.stops.Stop.TheVariants as stop

-- objects of which some first ones can't be loaded can't
all_first : (from to : List LoadedObject) → Extends from to → AreLoadable to → AreLoadable from
all_first from to later all = record {
  objects_are = (All-parts (λ o. IsObject o.bytes) from later.0 (subst (All (λ (o : LoadedObject). IsObject o.bytes)) later.1 all.objects_are)).0;
  lawful = (All-parts (λ o. AreLawfulGroups (groups o.bytes)) from later.0 (subst (All (λ (o : LoadedObject). AreLawfulGroups (groups o.bytes))) later.1 all.lawful)).0;
}

pub fails_later : (from to : List LoadedObject) (e : Stop) → Extends from to → Refutes (AreLoadable from) e → Refutes (AreLoadable to) e
fails_later from to stop.Memory later s = tt
fails_later from to stop.Unlawful later s = λ all. s (all_first from to later all)

-- an object that can't be loaded behind others fails what goes on behind it
last_one : (os : List LoadedObject) (o : Opened) (offset : ℕ) (bytes : List ℕ) → AreLoadable (with_object os o offset bytes) → IsLoadable bytes
last_one os o offset bytes all = record {
  object = All-head (λ x. IsObject x.bytes) (object_behind os o offset bytes) [] (All-parts (λ x. IsObject x.bytes) os (object_behind os o offset bytes ∷ []) all.objects_are).1;
  lawful =
      All-head (λ x. AreLawfulGroups (groups x.bytes)) (object_behind os o offset bytes) []
      (All-parts (λ x. AreLawfulGroups (groups x.bytes)) os (object_behind os o offset bytes ∷ []) all.lawful).1;
}

pub fails_next : (os : List LoadedObject) (o : Opened) (offset : ℕ) (bytes : List ℕ) (end : List LoadedObject) (e : Stop) →
    Extends (with_object os o offset bytes) end → Refutes (IsLoadable bytes) e → Refutes (AreLoadable end) e
fails_next os o offset bytes end stop.Memory later s = tt
fails_next os o offset bytes end stop.Unlawful later s = λ all. s (last_one os o offset bytes (all_first (with_object os o offset bytes) end later all))

pub err_fails_next : {X : Type 0} (r : Result X Stop) (os : List LoadedObject) (o : Opened) (offset : ℕ) (bytes : List ℕ) (end : List LoadedObject) →
    Extends (with_object os o offset bytes) end → IfErr r (Refutes (IsLoadable bytes)) → IfErr r (Refutes (AreLoadable end))
err_fails_next (Ok x) os o offset bytes end later s = tt
err_fails_next (Err e) os o offset bytes end later s = fails_next os o offset bytes end e later s

-- A single object.
pub single_fails : {X : Type 0} (plan : Plan) (r : Result X Stop) (os : List LoadedObject) (o : Opened) → o.archive ≡ false →
    IfErr r (Refutes (IsLoadable o.bytes)) → IfErr r (Refutes (AreLoadable (loaded_step plan (Single o) os)))
single_fails plan r os o single s =
    err_fails_next r os o 0 o.bytes (loaded_step plan (Single o) os)
    (extends_same (with_object os o 0 o.bytes) (loaded_step plan (Single o) os) (cond-false o.archive (turn plan o os) (with_object os o 0 o.bytes) single)) s
