-- The relocations of an object among those that are left, and the fields of its relocations against the relocations
-- themselves.
use Rattle.std.proofs.Common.{◌≡◌, ◌+◌, ◌<◌, ◌++◌, ◌∙◌, ℕ, List, ap, get_or, length, map, sym}
use Rattle.std.specs.Prelude.{All}
use Rattle.std.proofs.lemmas.List.Elements.{All-map, All-weaker}
use Rattle.elf_model.specs.Link.Loading.{LoadedObject}
use Rattle.elf_model.specs.Link.Placement.{Where}
use Rattle.elf_model.specs.Link.Relocation.{Relocation, relocations_from}
use Rattle.elf_model.proofs.FlatRelocations.{left_of_objects, object_more}
use Rattle.check_load.specs.Views.{loaded_view}
use Rattle.check_load.specs.declared.loaded.Loaded.{Loaded}
use Rattle.elf_model.proofs.RelocationFields.{width_some}
use Rattle.check_relocs.specs.Fields.{IsNarrow, IsRight, field_of}

-- the fields of right relocations have 1 to 8 bytes
pub narrow_fields :
    (objects : List LoadedObject) (ps : Where) (rs : List Relocation) → All (IsRight objects ps) rs → All IsNarrow (map (field_of objects ps) rs)
narrow_fields objects ps rs each =
    All-map IsNarrow (field_of objects ps) rs
    (All-weaker (IsRight objects ps) (λ r. IsNarrow (field_of objects ps r))
    (λ r l. let w = width_some r l.lawful.known in record { some = w.0; narrow = w.1 }) rs each)

-- the relocations that are left begin with those of the object that is read
pub object_read :
    (xs : List Loaded) (k : ℕ) (x : Loaded) → k < length xs → x ≡ get_or xs k x →
    left_of_objects loaded_view xs k ≡ relocations_from k (loaded_view x) ++ left_of_objects loaded_view xs (k + 1)
object_read xs k x within is =
    object_more loaded_view xs k x within
    ∙ ap (λ (y : Loaded). relocations_from k (loaded_view y) ++ left_of_objects loaded_view xs (k + 1)) (sym is)
