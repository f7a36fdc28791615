-- The loaded objects as the definitions see them.
use Rattle.std.specs.Prelude.{List, map}
use Rattle.elf_model.specs.Link.Loading.{LoadedObject}
use Rattle.check_load.specs.declared.loaded.Loaded.{Loaded}

abbrev pub loaded_view : Loaded → LoadedObject
loaded_view l = record { bytes = l.object; item = l.item; offset = l.offset; path = l.path.now; dropped = l.dropped }

abbrev pub loaded_views : List Loaded → List LoadedObject
loaded_views ls = map loaded_view ls
