-- What the lines load, and when that can't be loaded.
use Rattle.std.proofs.Common.{◌≡◌, ℕ, ◌+◌, ◌<◌, List, [], ◌∷◌, Option, None, Some, ap, drop, get_or, length, map, refl, subst, sym, ◌∙◌}
use Rattle.std.specs.Prelude.{slice_get}
use Rattle.std.specs.Option.{option_map_or}
use Rattle.std.proofs.lemmas.List.{at_drop_more}
use Rattle.elf_model.specs.Image.MapRecord.{ObjectRow, object_row}
use Rattle.elf_model.specs.declared.link_map.ObjectLine.{ObjectLine}
use Rattle.elf_model.specs.Inputs.Command.{Plan}
use Rattle.elf_model.specs.Inputs.Files.{File}
use Rattle.elf_model.specs.Inputs.Opening.{Opened, opened}
use Rattle.elf_model.specs.Link.Loading.{AreObjects, HaveLawfulGroups, LoadedObject, with_object}
use Rattle.elf_model.proofs.LoadingBounds.{Extends, extends_refl, extends_trans, extends_with}
use Rattle.opening.specs.Faults.{IsSearchable, ReadsBadly}
use Rattle.opening.specs.declared.faults.OpenFault.{OpenFault}
use Rattle.opening.specs.declared.faults.OpenFault.TheVariants as open_fault
use Rattle.opening.proofs.FaultLaws.{not_searchable}
use Rattle.check_load.specs.Loaders.{AreLoadable}
use Rattle.check_load.specs.Stops.{Refutes, stop_of}
use Rattle.check_load.specs.declared.stops.Stop.{Stop}
use Rattle.check_load.specs.declared.stops.Stop.TheVariants as stop
use Rattle.judge_model.specs.Loaded.{objects_behind, objects_in_order, row_bytes, with_row}
use Rattle.judge_load.specs.Rows.{CanLoadRows}

-- a line loads one object more, or none; so lines keep what is loaded before them
row_extends : (os : List Opened) (objects : List LoadedObject) (row : ObjectRow) → Extends objects (with_row os objects row)
row_extends os objects row = by (slice_get os row.item) refl
  where
    by : (o : Option Opened) → slice_get os row.item ≡ o → Extends objects (with_row os objects row)
    by None e = rw e (extends_refl objects)
    by (Some o) e = rw e (extends_with objects o row.offset (row_bytes o row))

pub rows_extend : (os : List Opened) (objects : List LoadedObject) (rows : List ObjectRow) → Extends objects (objects_behind os objects rows)
rows_extend os objects [] = extends_refl objects
rows_extend os objects (row ∷ rows) =
    extends_trans objects (with_row os objects row) (objects_behind os (with_row os objects row) rows)
    (row_extends os objects row) (rows_extend os (with_row os objects row) rows)

-- the object of a line whose item is there
pub row_there :
    (os : List Opened) (objects : List LoadedObject) (row : ObjectRow) (o : Opened) → slice_get os row.item ≡ Some o →
    with_row os objects row ≡ with_object objects o row.offset (row_bytes o row)
row_there os objects row o e =
    ap (λ (x : Option Opened). option_map_or (λ p. with_object objects p row.offset (row_bytes p row)) x objects) e

-- what the next line loads stays
pub later_rows :
    (os : List Opened) (objects : List LoadedObject) (lines : List ObjectLine) (i : ℕ) (line : ObjectLine) → i < length lines →
    line ≡ get_or lines i line →
    Extends (with_row os objects (object_row line)) (objects_behind os objects (map object_row (drop i lines)))
later_rows os objects lines i line low is =
    let front = at_drop_more (map object_row) lines i line low ∙ ap (λ (l : ObjectLine). object_row l ∷ map object_row (drop (i + 1) lines)) (sym is) in
    subst (λ (rows : List ObjectRow). Extends (with_row os objects (object_row line)) (objects_behind os objects rows)) (sym front)
    (rows_extend os (with_row os objects (object_row line)) (map object_row (drop (i + 1) lines)))

-- the lines of all items lead to the objects in their order
pub whole :
    (files : List File) (plan : Plan) (rows : List ObjectRow) (os : List Opened) → os ≡ opened files plan →
    objects_behind os [] rows ≡ objects_in_order files plan rows
unfolding objects_in_order
whole files plan rows os all = ap (λ (l : List Opened). objects_behind l [] rows) all

searchable : (files : List File) (plan : Plan) (rows : List ObjectRow) → CanLoadRows files plan rows → IsSearchable files plan
searchable files plan rows can = record { files_are = can.files_there; archives = can.archives; indexes = can.indexes }

-- what stops a step stops all
pub reading_stops : (files : List File) (plan : Plan) (rows : List ObjectRow) (e : OpenFault) → ReadsBadly files plan e → Refutes (CanLoadRows files plan rows) (stop_of e)
reading_stops files plan rows open_fault.Memory s = tt
reading_stops files plan rows open_fault.FileMissing s = λ can. s can.files_there
reading_stops files plan rows (open_fault.BadArchive f) s = λ can. not_searchable files plan (open_fault.BadArchive f) (λ m. cc) s (searchable files plan rows can)
reading_stops files plan rows open_fault.NoIndex s = λ can. not_searchable files plan open_fault.NoIndex (λ m. cc) s (searchable files plan rows can)

pub objects_stop :
    (files : List File) (plan : Plan) (rows : List ObjectRow) (os : List LoadedObject) (e : Stop) → os ≡ objects_in_order files plan rows →
    Refutes (AreLoadable os) e → Refutes (CanLoadRows files plan rows) e
objects_stop files plan rows os stop.Memory same s = tt
objects_stop files plan rows os stop.Unlawful same s = λ can. s (subst AreLoadable (sym same) (record { objects_are = can.objects; lawful = can.groups }))

pub all_good :
    (files : List File) (plan : Plan) (rows : List ObjectRow) (os : List LoadedObject) → IsSearchable files plan → os ≡ objects_in_order files plan rows →
    AreLoadable os → CanLoadRows files plan rows
all_good files plan rows os there same loadable = record {
  files_there = there.files_are;
  archives = there.archives;
  indexes = there.indexes;
  objects = subst AreObjects same loadable.objects_are;
  groups = subst HaveLawfulGroups same loadable.lawful;
}
