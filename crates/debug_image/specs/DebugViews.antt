-- Debug data as the definitions see them.
use Rattle.std.specs.Prelude.{List, map}
use Rattle.std.specs.Global.{Vec}
use Rattle.elf_model.specs.Link.Placement.{Placed}
use Rattle.placing.specs.PlaceViews.{place_view, place_views}
use Rattle.placing.specs.declared.runs.Place.{Place}
use Rattle.debug_image.specs.DebugSections as sections
use Rattle.debug_image.specs.DebugValues as values
use Rattle.debug_image.specs.declared.chunks.Chunk.{Chunk}
use Rattle.debug_image.specs.declared.joined.Joined.{Joined}
use Rattle.debug_image.specs.declared.fields.Field.{Field}

abbrev pub joined_view : Joined → sections.Joined
joined_view j = record { title = j.title.now; end = j.end; align = j.align }

abbrev pub joined_views : List Joined → List sections.Joined
joined_views js = map joined_view js

abbrev pub row_view : Vec Place → List Placed
row_view row = place_views row.items

abbrev pub row_views : List (Vec Place) → List (List Placed)
row_views rows = map row_view rows

abbrev pub chunk_view : Chunk → sections.Chunk
chunk_view c = record { pad = c.pad; place = place_view c.place }

abbrev pub chunk_views : List Chunk → List sections.Chunk
chunk_views cs = map chunk_view cs

abbrev pub field_view : Field → values.Field
field_view f = record { at = f.at; width = f.width; value = f.value; done = f.done }
