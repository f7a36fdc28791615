-- What a reader of the standard's tables finds in an image for tools (System V gABI 4, "Sections", "String Table", "Symbol Table").
use Rattle.std.specs.Prelude.{◌≡◌, ℕ, ◌+◌, ◌==◌, ◌^◌, ◌<◌, Bool, true, false, All, List, [], ◌∷◌, length, map}
use Rattle.std.specs.Str.{bytes_eq}
use Rattle.byteview.specs.Numbers.{part}
use Rattle.elf_model.specs.Image.MapText.{AreBytes}
use Rattle.elf_model.specs.Inputs.Command.{IsBase}
use Rattle.elf_model.specs.Inputs.ObjectFile.{name_of_section, name_of_symbol, null_section, null_symbol, sections, symbol_table, symbols}
use Rattle.elf_model.specs.Link.Listing.{AreListed}
use Rattle.elf_model.specs.Link.Loading.{AreObjects}
use Rattle.elf_model.specs.Link.Meaning.{Meaning}
use Rattle.elf_model.specs.Link.Pieces.{AreLawfulKinds}
use Rattle.elf_model.specs.Link.Placement.{Placed}
use Rattle.elf_model.specs.Link.Resolution.{binding}
use Rattle.elf_model.specs.Own.ImageFile.{own_entry}
use Rattle.elf_model.specs.Own.OwnLayout.{IsNotTooLarge}
use Rattle.elf_model.specs.declared.constants.TheConstants.{STB_LOCAL}
use Rattle.elf_model.specs.declared.records.SectionHeader.{SectionHeader}
use Rattle.elf_model.specs.declared.records.Symbol as entry
use Rattle.image_write.specs.Linkages.{Linked}
use Rattle.debug_image.specs.DebugImage.{CanBeSaid, data_end_in, data_in, debug_file, end_in, joined_in, laid_of, locals_of, rows_of, tables_in}
use Rattle.debug_image.specs.DebugSections.{Joined, joined_header, size_of, start_of}
use Rattle.debug_image.specs.DebugValues.{Data, debug_bytes}
use Rattle.debug_image.specs.Symbols.{meaning_rows}
use Rattle.debug_image.specs.Tables.{HeaderRow, Row, header_rows}
use Rattle.debug_image.specs.declared.debug_file.Wanted.{Wanted}

-- The section headers and the symbols of a file, each with its name in place of the offset of that, as the readers' definitions find them.
abbrev pub read_header : List ℕ → SectionHeader → HeaderRow
read_header file h = record { title = name_of_section file h; header = record h { sh_name = 0 } }

abbrev pub read_headers : List ℕ → List HeaderRow
read_headers file = map (read_header file) (sections file)

abbrev pub read_symbol : List ℕ → entry.Symbol → Row
read_symbol file s = record { name = name_of_symbol file s; entry = record s { st_name = 0 } }

abbrev pub read_symbols : List ℕ → List Row
read_symbols file = map (read_symbol file) (symbols file)

-- those of number 0
abbrev pub null_header : HeaderRow
null_header = record { title = []; header = null_section }

abbrev pub null_row : Row
null_row = record { name = []; entry = null_symbol }

-- a symbol is LOCAL
abbrev pub is_local : Row → Bool
is_local r = binding r.entry == STB_LOCAL

-- a section of debug data stands where the header of its name says, as far behind as it is joined
abbrev pub StandsIn : List ℕ → Data → SectionHeader → List ℕ → Placed → Type 0
StandsIn file d h name q = bytes_eq q.piece.name name ≡ true → part file (h.sh_offset + q.at) (size_of q.piece) ≡ debug_bytes d q

-- so do those of all names, which stand one behind the other from an offset on
abbrev pub StandFrom : List ℕ → Data → ℕ → List Joined → Type 0
StandFrom file d y [] = Unit {0}
StandFrom file d y (j ∷ js) =
    All (All (StandsIn file d (joined_header (start_of y j) j) j.title)) d.rows × StandFrom file d (start_of y j + j.end) js

-- a link that the linker has laid out, of files whose bytes are bytes
pub record IsLaidOut (l : Linked) : Type 0 where
  pub kinds : AreLawfulKinds l.objects
  pub base : IsBase l.plan.base
  pub not_too_large : IsNotTooLarge l.plan.base l.objects
  pub objects : AreObjects l.objects
  pub bytes : All (λ o. AreBytes o.bytes) l.objects
  pub entry : own_entry l.plan.base l.objects l.plan.entry < 2 ^ 64

-- A reader finds the headers that are told and the symbols that are told, of which so many are LOCAL as sh_info says, and these are the
-- first ones; and sections of debug data.
pub record IsReadBack (w : Wanted) (l : Linked) (ms : List Meaning) : Type 0 where
  pub headers : read_headers (debug_file w l ms) ≡ null_header ∷ header_rows (data_end_in w l) (tables_in w l ms)
  pub symbols_are : read_symbols (debug_file w l ms) ≡ null_row ∷ rows_of w.locals (laid_of l.plan.base l.objects) ms
  pub first : (symbol_table (sections (debug_file w l ms))).sh_info ≡ length (locals_of w.locals (laid_of l.plan.base l.objects)) + 1
  pub locals : All (λ r. is_local r ≡ true) (locals_of w.locals (laid_of l.plan.base l.objects))
  pub others : All (λ r. is_local r ≡ false) (meaning_rows (laid_of l.plan.base l.objects) ms)
  pub data_stands : StandFrom (debug_file w l ms) (data_in w l) (end_in l) (joined_in w l.objects)

-- so it is of each link, with what all names mean that have a line in the map
abbrev pub ImagesAreReadBack : Type 0
ImagesAreReadBack = (w : Wanted) (l : Linked) (ms : List Meaning) → IsLaidOut l → AreListed l.objects ms → CanBeSaid w l ms → IsReadBack w l ms
