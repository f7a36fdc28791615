-- An object whose relocations ask for the GOT and its slots.
use Rattle.std.specs.Prelude.{◌≡◌, List, Some}
use Rattle.std.specs.List.{slice_get}
use Rattle.elf_model.specs.Link.Loading.{LoadedObject}
use Rattle.search.specs.Views.{loaded_view}
use Rattle.got_tls.specs.Asking.{TellsOfGot}
use Rattle.got_tls.specs.declared.requests.Asker.{Asker}

-- the object, and all of them
abbrev pub asking : Asker → LoadedObject
asking k = loaded_view k.loaded.now

abbrev pub all_asked : Asker → List LoadedObject
all_asked k = k.resolved.now

pub record IsAsker (k : Asker) : Type 0 where
  pub here : slice_get (all_asked k) k.number ≡ Some (asking k)
  pub tells : TellsOfGot (all_asked k) k.number (asking k) k.named
