-- The loaded objects as the definitions see them.
use Rattle.std.specs.Prelude.{List, map}
use Rattle.elf_model.specs.Link.Loading.{LoadedObject}
use Rattle.search.specs.declared.loaded.LoadedObject as code

abbrev pub loaded_view : code.LoadedObject → LoadedObject
loaded_view l = record { bytes = l.object; item = l.item; offset = l.offset; path = l.path.now; dropped = l.dropped }

abbrev pub loaded_views : List code.LoadedObject → List LoadedObject
loaded_views ls = map loaded_view ls
