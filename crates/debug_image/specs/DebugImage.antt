-- A debuggable image: the image of a link up to the end of its last file part, with the tables that tools ask for behind that.
use Rattle.std.specs.Prelude.{ℕ, ◌+◌, Bool, cond, List, [], ◌++◌, length}
use Rattle.elf_model.specs.Own.ImageFile.{own_end, own_entry}
use Rattle.elf_model.specs.Link.Loading.{LoadedObject}
use Rattle.elf_model.specs.Link.Meaning.{Meaning}
use Rattle.elf_model.specs.Own.OwnLayout.{own_placed}
use Rattle.elf_model.specs.Link.Placement.{Placed}
use Rattle.elf_model.specs.declared.records.SectionHeader.{SectionHeader}
use Rattle.image_write.specs.Linkages.{Linked}
use Rattle.image_write.specs.Parts.{file_parts}
use Rattle.debug_image.specs.DebugSections.{AreFew, Chunk, Joined, chunks_of, data_end, debug_rows, joined_of, joined_rows}
use Rattle.debug_image.specs.DebugValues.{Data, all_bytes}
use Rattle.debug_image.specs.Reports.{left_data, none_left}
use Rattle.debug_image.specs.Sections.{Section, section_rows, sections_of}
use Rattle.debug_image.specs.Symbols.{Laid, local_rows, meaning_rows}
use Rattle.debug_image.specs.Tables.{IsSmall, Row, Tables, fields_of, header_rows, row_headers, strtab, symtab, tail, titles}
use Rattle.debug_image.specs.declared.debug_file.Wanted.{Wanted}
use Rattle.debug_image.specs.declared.reports.LeftData.{LeftData}

-- the sections of an image, and where its link is laid out
abbrev pub sections_in : ℕ → List LoadedObject → List Section
sections_in base objects = sections_of (length objects) (own_placed base objects)

abbrev pub laid_of : ℕ → List LoadedObject → Laid
laid_of base objects = record { base = base; objects = objects; sections = sections_in base objects }

-- its symbols: the LOCAL ones, where they are wanted, and then what names mean
abbrev pub locals_of : Bool → Laid → List Row
locals_of wanted l = cond wanted (local_rows l) []

abbrev pub rows_of : Bool → Laid → List Meaning → List Row
rows_of wanted l ms = locals_of wanted l ++ meaning_rows l ms

-- its debug data, where they are wanted: those of each object, and what is joined of them
abbrev pub rows_in : Wanted → List LoadedObject → List (List Placed)
rows_in w objects = cond w.debug (debug_rows objects) []

abbrev pub joined_in : Wanted → List LoadedObject → List Joined
joined_in w objects = cond w.debug (joined_of objects) []

-- what is left out of them
abbrev pub left_in : Wanted → List LoadedObject → LeftData
left_in w objects = cond w.debug (left_data objects) none_left

-- its tables: those of sections and of symbols, of which so many are LOCAL, with that of number 0
abbrev pub tables_from : ℕ → ℕ → ℕ → List Section → List Joined → List Row → ℕ → Tables
tables_from base end count ss js rows locals =
    let sections = section_rows base count ss ++ joined_rows end js in record {
      symbols = symtab rows;
      names = strtab rows;
      titles = titles sections;
      locals = locals;
      sections = sections;
    }

abbrev pub tables_with : Bool → ℕ → List LoadedObject → List Joined → List Meaning → Tables
tables_with locals base objects js ms =
    let l = laid_of base objects in
    tables_from base (own_end base objects) (length objects) l.sections js (rows_of locals l ms) (length (locals_of locals l) + 1)

abbrev pub tables_in : Wanted → Linked → List Meaning → Tables
tables_in w l ms = tables_with w.locals l.plan.base l.objects (joined_in w l.objects) ms

-- its numbers can be said
pub record CanBeSaid (w : Wanted) (l : Linked) (ms : List Meaning) : Type 0 where
  pub small : IsSmall (tables_in w l ms)
  pub few : AreFew (rows_in w l.objects) (joined_in w l.objects)

-- The file of a link, of names that mean what is listed: the image up to the end of its last file part, the debug data, and the tables.
abbrev pub end_in : Linked → ℕ
end_in l = own_end l.plan.base l.objects

abbrev pub data_in : Wanted → Linked → Data
data_in w l = record { base = l.plan.base; objects = l.objects; rows = rows_in w l.objects }

abbrev pub chunks_in : Wanted → Linked → List Chunk
chunks_in w l = chunks_of (rows_in w l.objects) (end_in l) (joined_in w l.objects)

abbrev pub data_end_in : Wanted → Linked → ℕ
data_end_in w l = data_end (end_in l) (joined_in w l.objects)

abbrev pub front_of : Linked → Tables → ℕ → List ℕ
front_of l t x = file_parts l.plan.base l.objects (fields_of (own_entry l.plan.base l.objects l.plan.entry) x t)

-- the headers of its sections, but for that of number 0
abbrev pub headers_in : Wanted → Linked → List Meaning → List SectionHeader
headers_in w l ms = row_headers (header_rows (data_end_in w l) (tables_in w l ms))

abbrev pub debug_file : Wanted → Linked → List Meaning → List ℕ
debug_file w l ms =
    let t = tables_in w l ms in
    let x = data_end_in w l in front_of l t x ++ (all_bytes (data_in w l) (chunks_in w l) ++ tail x t)
