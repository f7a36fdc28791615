use Rattle.std.proofs.Common.{◌≡◌, ◌∙◌, ◌+◌, ◌++◌, ℕ, List, [], ◌∷◌, ap, append_assoc, arith, codes, drop, drop_at, length, refl, sym}
use Rattle.std.specs.Prelude.{All, Bool, cond, false, replicate, true}
use Rattle.std.proofs.lemmas.List.{length-append, length-replicate}
use Rattle.std.proofs.lemmas.List.Elements.{All-append, All-cons, All-nil}
use Rattle.std.proofs.lemmas.List.FromFn.{length-map-range_with_len}
use Rattle.elf_model.specs.Inputs.Records.{file_header}
use Rattle.elf_model.specs.Link.Listing.{AreListed}
use Rattle.elf_model.specs.Link.Loading.{LoadedObject}
use Rattle.elf_model.specs.Link.Meaning.{Meaning}
use Rattle.elf_model.specs.Link.Placement.{Placed}
use Rattle.elf_model.specs.Own.ImageFile.{HeaderFields, header_bytes, own_entry, own_file_header}
use Rattle.elf_model.specs.Own.OwnLayout.{header_count}
use Rattle.elf_model.specs.declared.records.FileHeader.{FileHeader}
use Rattle.elf_model.specs.declared.records.SectionHeader.{SectionHeader}
use Rattle.image_write.specs.Linkages.{Linked}
use Rattle.own_link.proofs.ImageRead.{FitFields}
use Rattle.debug_image.specs.DebugImage.{CanBeSaid, chunks_in, data_end_in, data_in, debug_file, end_in, front_of, joined_in, laid_of, locals_of, rows_of, sections_in, tables_in}
use Rattle.debug_image.specs.DebugSections.{Chunk, Joined, chunks_of, data_end, debug_rows, joined_of, joined_rows, size_of, start_of}
use Rattle.debug_image.specs.DebugValues.{Data, all_bytes, chunk_bytes, debug_byte, debug_bytes}
use Rattle.debug_image.specs.Sections.{section_rows}
use Rattle.debug_image.specs.Symbols.{Laid, local_rows, meaning_rows}
use Rattle.debug_image.specs.Tables.{HeaderRow, Row, Tables, fields_of, header_rows, shstrtab_at, strings_row, strtab_at, symtab_at, symtab_row, tail}
use Rattle.debug_image.specs.declared.debug_file.Wanted.{Wanted}
use Rattle.debug_image.proofs.OwnHeaders as own
use Rattle.debug_law.specs.ReadImages.{IsLaidOut, IsReadBack, StandFrom, is_local, null_header, null_row}
use Rattle.debug_law.proofs.DataLength as length_law
use Rattle.debug_law.proofs.DataLength.{chunks_size, data_fill}
use Rattle.debug_law.proofs.LocalRows.{locals_local, meanings_not_local}
use Rattle.debug_law.proofs.ReadTables.{HasTables, headers_read, is_symtab, symbols_read, three, unnamed_header, unnamed_row}
use Rattle.debug_law.proofs.Said.{joined_kinds, joined_unnamed, locals_unnamed, meanings_unnamed, section_kinds, sections_unnamed}
use Rattle.debug_law.proofs.Written.{AreWritten, are_written}
use Rattle.debug_law.proofs.Zipped.{unchanged}
use Rattle.debug_law.proofs.images_are_read_back.Goals as goal

-- the bytes of a section with the zeros in front of it, and of all
length_debug_bytes : (d : Data) (q : Placed) → length (debug_bytes d q) ≡ size_of q.piece
length_debug_bytes d q = length-map-range_with_len (debug_byte d q) 0 (length q.piece.bytes)

length_all : (d : Data) (cs : List Chunk) → length (all_bytes d cs) ≡ chunks_size cs
length_all d [] = refl
length_all d (c ∷ cs) =
    let a = length-append (chunk_bytes d c) (all_bytes d cs) in
    let b = length-append (replicate c.pad 0) (debug_bytes d c.place) in
    let p = length-replicate {A = ℕ} c.pad 0 in
    let q = length_debug_bytes d c.place in
    let rest = length_all d cs in omega (arith, a, b, p, q, rest)

-- debug data fill the file, and stand where their headers say, where they are wanted
filled : (wanted : Bool) (objects : List LoadedObject) (y : ℕ) → chunks_size (chunks_of (cond wanted (debug_rows objects) []) y (cond wanted (joined_of objects) [])) + y ≡ data_end y (cond wanted (joined_of objects) [])
filled true objects y = data_fill objects y
filled false objects y = omega arith

abbrev data_of : Bool → ℕ → List LoadedObject → Data
data_of wanted base objects = record { base = base; objects = objects; rows = cond wanted (debug_rows objects) [] }

same_stands :
    (file : List ℕ) (d : Data) (y : ℕ) (js : List Joined) → length_law.StandFrom file (debug_bytes d) (length_debug_bytes d) d.rows y js → StandFrom file d y js
same_stands file d y [] stands = tt
same_stands file d y (j ∷ js) stands = (stands.0, same_stands file d (start_of y j + j.end) js stands.1)

stood :
    (wanted : Bool) (base : ℕ) (objects : List LoadedObject) (file : List ℕ) (y : ℕ) (rest : List ℕ) →
    drop y file ≡ all_bytes (data_of wanted base objects) (chunks_of (cond wanted (debug_rows objects) []) y (cond wanted (joined_of objects) [])) ++ rest →
    StandFrom file (data_of wanted base objects) y (cond wanted (joined_of objects) [])
stood true base objects file y rest e =
    let d : Data = data_of true base objects in
    same_stands file d y (joined_of objects) (length_law.data_stand file (debug_bytes d) (length_debug_bytes d) objects y rest e)
stood false base objects file y rest e = tt

-- LOCAL symbols, where they are wanted
locals_by : (wanted : Bool) (l : Laid) → All (λ r. is_local r ≡ true) (cond wanted (local_rows l) [])
locals_by true l = locals_local l
locals_by false l = All-nil (λ r. is_local r ≡ true)

unnamed_by : (wanted : Bool) (l : Laid) → All (λ r. unnamed_row r ≡ r) (cond wanted (local_rows l) [])
unnamed_by true l = locals_unnamed l
unnamed_by false l = All-nil (λ r. unnamed_row r ≡ r)

module _ (w : Wanted) (l : Linked) (ms : List Meaning) (laid : IsLaidOut l) (listed : AreListed l.objects ms) (said : CanBeSaid w l ms) where
  written : AreWritten w l ms
  written = are_written w l ms laid listed said

  abbrev t : Tables
  t = tables_in w l ms

  abbrev x : ℕ
  x = data_end_in w l

  abbrev file : List ℕ
  file = debug_file w l ms

  abbrev data_bytes : List ℕ
  data_bytes = all_bytes (data_in w l) (chunks_in w l)

  abbrev fields : HeaderFields
  fields = fields_of (own_entry l.plan.base l.objects l.plan.entry) x t

  fit : FitFields fields
  fit =
      let s = said.small.sections in
      record { entry = laid.entry; offset = written.offset; count = omega (arith, s); names = omega (arith, s) }

  header : file_header file ≡ own_file_header fields (header_count l.objects)
  header =
      ap file_header (append_assoc (header_bytes l.plan.base l.objects fields) _ (data_bytes ++ tail x t))
      ∙ own.header_read l.plan.base l.objects laid.kinds laid.base laid.not_too_large laid.objects fields (data_bytes ++ tail x t) fit

  front_long : length (front_of l t x) ≡ end_in l
  front_long = own.part_long l.plan.base l.objects laid.kinds laid.base laid.not_too_large laid.objects fields

  behind_front : drop (end_in l) file ≡ data_bytes ++ tail x t
  behind_front = drop_at (front_of l t x) (data_bytes ++ tail x t) (end_in l) front_long

  has : HasTables file x t
  has =
      let long = length-append (front_of l t x) data_bytes in
      let d = length_all (data_in w l) (chunks_in w l) in
      let f = filled w.debug l.objects (end_in l) in
      record {
        tail_is =
            ap (drop x) (sym (append_assoc (front_of l t x) data_bytes (tail x t)))
            ∙ drop_at (front_of l t x ++ data_bytes) (tail x t) x (omega (arith, long, d, f, front_long));
        shoff = ap (λ (h : FileHeader). h.e_shoff) header;
        shnum = ap (λ (h : FileHeader). h.e_shnum) header;
        shstrndx = ap (λ (h : FileHeader). h.e_shstrndx) header;
      }

  none : All (λ r. is_symtab r.header ≡ false) t.sections
  none =
      All-append (λ r. is_symtab r.header ≡ false) (section_rows l.plan.base (length l.objects) (sections_in l.plan.base l.objects)) (joined_rows (end_in l) (joined_in w l.objects))
      (section_kinds l.plan.base l.objects laid.kinds) (joined_kinds (end_in l) (joined_in w l.objects))

  abbrev symbols : HeaderRow
  symbols = symtab_row (symtab_at x) (length t.symbols) (length t.sections + 2) t.locals

  abbrev names : HeaderRow
  names = strings_row (codes ".strtab") (strtab_at x t) (length t.names)

  abbrev titles : HeaderRow
  titles = strings_row (codes ".shstrtab") (shstrtab_at x t) (length t.titles)

  abbrev IsBare : HeaderRow → Type 0
  IsBare r = unnamed_header r ≡ r

  bare : All IsBare (header_rows x t)
  bare =
      All-append IsBare t.sections (symbols ∷ (names ∷ (titles ∷ [])))
      (All-append IsBare (section_rows l.plan.base (length l.objects) (sections_in l.plan.base l.objects)) (joined_rows (end_in l) (joined_in w l.objects))
      (sections_unnamed l.plan.base (length l.objects) (sections_in l.plan.base l.objects)) (joined_unnamed (end_in l) (joined_in w l.objects)))
      (All-cons IsBare symbols (names ∷ (titles ∷ [])) refl (All-cons IsBare names (titles ∷ []) refl (All-cons IsBare titles [] refl (All-nil IsBare))))

  abbrev own_laid : Laid
  own_laid = laid_of l.plan.base l.objects

  abbrev rows : List Row
  rows = rows_of w.locals own_laid ms

  rows_bare : All (λ r. unnamed_row r ≡ r) rows
  rows_bare = All-append (λ r. unnamed_row r ≡ r) (locals_of w.locals own_laid) (meaning_rows own_laid ms) (unnamed_by w.locals own_laid) (meanings_unnamed own_laid ms)

  read_back : IsReadBack w l ms
  read_back = record {
    headers =
        headers_read file x t has written.headers none (record { titles_are = refl; texts = written.titles; small = said.small.titles })
        ∙ ap (λ rs. null_header ∷ rs) (unchanged unnamed_header (header_rows x t) bare);
    symbols_are =
        symbols_read file x t rows has written.headers none said.small
        (record { symbols_are = refl; names_are = refl; fit = written.symbols; texts = written.names; small = said.small.names })
        ∙ ap (λ rs. null_row ∷ rs) (unchanged unnamed_row rows rows_bare);
    first = ap (λ (h : SectionHeader). h.sh_info) (three file x t has written.headers none).table;
    locals = locals_by w.locals own_laid;
    others = meanings_not_local own_laid ms;
    data_stands = stood w.debug l.plan.base l.objects file (end_in l) (tail x t) behind_front;
  }

pub returns : goal.returns
returns c = λ w l ms laid listed said. read_back w l ms laid listed said
