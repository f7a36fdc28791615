-- Which symbols of an object are known to have names that are told as undefined.
use Rattle.std.specs.Prelude.{◌≡◌, ℕ, List, [], Option, Some, unwrap_or}
use Rattle.std.specs.List.{slice_get}
use Rattle.elf_model.specs.Inputs.ObjectFile.{symbol_name}
use Rattle.elf_model.specs.Link.Loading.{LoadedObject}
use Rattle.wrong_references.specs.References.{Told}

-- a symbol that was seen has a name that is told, by the flaw with this number
pub record AreSeen (o : LoadedObject) (seen : List (Option ℕ)) (t : Told) : Type 0 where
  pub each : (j i : ℕ) → slice_get seen j ≡ Some (Some i) → t.firsts (unwrap_or (symbol_name o.bytes j) []) ≡ Some i
