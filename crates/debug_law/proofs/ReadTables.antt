-- The tables behind an image are read back: the section headers with their names, and the symbols with theirs.
use Rattle.std.proofs.Common.{◌≡◌, ◌∙◌, ◌+◌, ◌-◌, ◌*◌, ◌/◌, ◌%◌, ◌^◌, ◌<◌, ◌++◌, ℕ, suc, List, [], ◌∷◌, ap, append_assoc, arith, codes, drop, drop_at, get_or, length, map, refl, sym, take, take_at}
use Rattle.std.specs.Prelude.{All, Bool, Some, cond, false, find, replicate, unwrap_or, ◌==◌}
use Rattle.std.specs.List.{flat_map, range_with_len}
use Rattle.std.proofs.lemmas.Grind.{flat_map-append}
use Rattle.std.proofs.lemmas.Nat.{mod_below}
use Rattle.std.proofs.lemmas.List.{append-nil, drop-drop, get_or-append-add, length-append, length-replicate}
use Rattle.std.proofs.lemmas.List.Elements.{All-head, All-tail}
use Rattle.byteview.specs.Numbers.{part, text}
use Rattle.elf_model.specs.Image.SymbolTable.{ended}
use Rattle.elf_model.specs.Inputs.ObjectFile.{contents, entries, name_of_section, name_of_symbol, null_section, null_symbol, section, sections, section_strings, symbol_strings, symbol_table, symbols}
use Rattle.elf_model.specs.Inputs.Records.{FitsSectionHeader, FitsSymbol, file_header, section_header, section_header_bytes, symbol, symbol_bytes}
use Rattle.elf_model.specs.declared.constants.TheConstants.{SHT_SYMTAB}
use Rattle.elf_model.specs.declared.records.SectionHeader.{SectionHeader}
use Rattle.elf_model.specs.declared.records.Symbol as code
use Rattle.elf_model.proofs.Running.{rounded_up}
use Rattle.elf_model.proofs.RecordLaws.{length-section_header_bytes, length-symbol_bytes, section_header_written, symbol_written}
use Rattle.debug_image.specs.Tables.{HeaderRow, IsSmall, Row, Tables, entries_from, entry_at, header_at, header_rows, headers, headers_at, headers_from, spelled_from, shstrtab_at, shstrtab_end, strtab_at, symtab, symtab_at, strings_row, strtab, symtab_row, tail, titles}
use Rattle.debug_law.specs.ReadImages.{null_header, null_row, read_header, read_symbol}
use Rattle.debug_law.proofs.ObjectFields.{IsText}
use Rattle.debug_law.proofs.Zipped.{zipped}
use Rattle.debug_law.proofs.ReadBack.{IsSpelling, length_spelled, named_from, names_from, read_from, seen_from}

-- bytes that end with tables behind an offset, as their file header says
pub record HasTables (bytes : List ℕ) (e : ℕ) (t : Tables) : Type 0 where
  pub tail_is : drop e bytes ≡ tail e t
  pub shoff : (file_header bytes).e_shoff ≡ headers_at e t
  pub shnum : (file_header bytes).e_shnum ≡ length t.sections + 4
  pub shstrndx : (file_header bytes).e_shstrndx ≡ length t.sections + 3

-- what stands behind a part of the rest
behind : (bytes xs ys : List ℕ) (a n b : ℕ) → drop a bytes ≡ xs ++ ys → length xs ≡ n → a + n ≡ b → drop b bytes ≡ ys
behind bytes xs ys a n b e long at =
    ap (λ k. drop k bytes) (sym at) ∙ (sym (drop-drop n a bytes) ∙ (ap (drop n) e ∙ drop_at xs ys n long))

part_is : (bytes xs ys : List ℕ) (a n : ℕ) → drop a bytes ≡ xs ++ ys → length xs ≡ n → part bytes a n ≡ xs
part_is bytes xs ys a n e long = ap (take n) e ∙ take_at xs ys n long

-- what stands where
pub record Places (bytes : List ℕ) (e : ℕ) (t : Tables) : Type 0 where
  pub symbols : drop (symtab_at e) bytes ≡ t.symbols ++ (t.names ++ (t.titles ++ (replicate (headers_at e t - shstrtab_end e t) 0 ++ headers (header_rows e t))))
  pub names : drop (strtab_at e t) bytes ≡ t.names ++ (t.titles ++ (replicate (headers_at e t - shstrtab_end e t) 0 ++ headers (header_rows e t)))
  pub titles_are : drop (shstrtab_at e t) bytes ≡ t.titles ++ (replicate (headers_at e t - shstrtab_end e t) 0 ++ headers (header_rows e t))
  pub headers_are : drop (headers_at e t) bytes ≡ headers (header_rows e t)

pub places : (bytes : List ℕ) (e : ℕ) (t : Tables) → HasTables bytes e t → Places bytes e t
places bytes e t has =
    let rows = headers (header_rows e t) in
    let pad = replicate (headers_at e t - shstrtab_end e t) 0 in
    let up = (rounded_up 8 e (omega arith)).0 in
    let up2 = (rounded_up 8 (shstrtab_end e t) (omega arith)).0 in
    let s = behind bytes (replicate (symtab_at e - e) 0) (t.symbols ++ (t.names ++ (t.titles ++ (pad ++ rows)))) e (symtab_at e - e) (symtab_at e) has.tail_is
    (length-replicate (symtab_at e - e) 0) (omega (arith, up)) in
    let n = behind bytes t.symbols (t.names ++ (t.titles ++ (pad ++ rows))) (symtab_at e) (length t.symbols) (strtab_at e t) s refl refl in
    let m = behind bytes t.names (t.titles ++ (pad ++ rows)) (strtab_at e t) (length t.names) (shstrtab_at e t) n refl refl in
    let q = behind bytes t.titles (pad ++ rows) (shstrtab_at e t) (length t.titles) (shstrtab_end e t) m refl refl in
    let h = behind bytes pad rows (shstrtab_end e t) (headers_at e t - shstrtab_end e t) (headers_at e t) q
    (length-replicate (headers_at e t - shstrtab_end e t) 0) (omega (arith, up2)) in
    record { symbols = s; names = n; titles_are = m; headers_are = h }

-- headers and symbols are read back, whatever the offsets of their names
low : (n : ℕ) → n % 2 ^ 32 < 2 ^ 32
low n = mod_below n (2 ^ 32) (omega arith)

pub header_spelling : IsSpelling section_header 64 (λ at r. section_header_bytes (header_at at r)) header_at (λ r. FitsSectionHeader r.header)
header_spelling = record {
  size = λ at r. length-section_header_bytes (header_at at r);
  again = λ at r fit. section_header_written (header_at at r) (section_header_bytes (header_at at r)) refl (record {
    sh_name = low at;
    sh_type = fit.sh_type;
    sh_flags = fit.sh_flags;
    sh_addr = fit.sh_addr;
    sh_offset = fit.sh_offset;
    sh_size = fit.sh_size;
    sh_link = fit.sh_link;
    sh_info = fit.sh_info;
    sh_addralign = fit.sh_addralign;
    sh_entsize = fit.sh_entsize;
  });
}

pub entry_spelling : IsSpelling symbol 24 (λ at r. symbol_bytes (entry_at at r)) entry_at (λ r. FitsSymbol r.entry)
entry_spelling = record {
  size = λ at r. length-symbol_bytes (entry_at at r);
  again = λ at r fit. symbol_written (entry_at at r) (symbol_bytes (entry_at at r)) refl (record {
    st_name = low at;
    st_info = fit.st_info;
    st_other = fit.st_other;
    st_shndx = fit.st_shndx;
    st_value = fit.st_value;
    st_size = fit.st_size;
  });
}

fits_null : FitsSectionHeader null_section
fits_null = record { sh_name = omega arith; sh_type = omega arith; sh_flags = omega arith; sh_addr = omega arith; sh_offset = omega arith; sh_size = omega arith; sh_link = omega arith; sh_info = omega arith; sh_addralign = omega arith; sh_entsize = omega arith }

fits_null_symbol : FitsSymbol null_symbol
fits_null_symbol = record { st_name = omega arith; st_info = omega arith; st_other = omega arith; st_shndx = omega arith; st_value = omega arith; st_size = omega arith }

-- the headers of a file, with the offsets of their names
abbrev pub named_headers : ℕ → List HeaderRow → List SectionHeader
named_headers at rs = named_from (λ r. r.title) header_at at rs

abbrev pub named_symbols : ℕ → List Row → List code.Symbol
named_symbols at rs = named_from (λ r. r.name) entry_at at rs

-- a table whose first record is the null one
table_is :
    {A B : Type 0} (read : List ℕ → B) (c : ℕ) (name : A → List ℕ) (spelling : ℕ → A → List ℕ) (entry : ℕ → A → B) (Fits : A → Type 0) →
    IsSpelling read c spelling entry Fits → (first : List ℕ) (null : B) → length first ≡ c → read first ≡ null → (bytes back : List ℕ) (o : ℕ) (xs : List A) →
    All Fits xs → drop o bytes ≡ first ++ (spelled_from name spelling 1 xs ++ back) →
    entries read c bytes o (suc (length xs)) ≡ null ∷ named_from name entry 1 xs
table_is read c name spelling entry Fits is first null long again bytes back o xs fit e =
    let rest = spelled_from name spelling 1 xs ++ back in
    let front : part bytes (o + c * 0) c ≡ first =
    ap (λ n. part bytes n c) (omega arith) ∙ part_is bytes first rest o c e long in
    let next : drop (o + c * 1) bytes ≡ rest = behind bytes first rest o c (o + c * 1) e long (omega arith) in
    ap (λ h. h ∷ map (λ i. read (part bytes (o + c * i) c)) (range_with_len 1 (length xs))) (ap read front ∙ again)
    ∙ ap (λ t. null ∷ t) (read_from read c name spelling entry Fits is bytes back o 1 1 xs fit next)

pub sections_are :
    (bytes : List ℕ) (e : ℕ) (t : Tables) → HasTables bytes e t → All (λ r. FitsSectionHeader r.header) (header_rows e t) →
    sections bytes ≡ null_section ∷ named_headers 1 (header_rows e t)
sections_are bytes e t has fit =
    let rows = header_rows e t in
    let e1 : drop (headers_at e t) bytes ≡ section_header_bytes null_section ++ (headers_from 1 rows ++ []) =
    (places bytes e t has).headers_are ∙ ap (λ l. section_header_bytes null_section ++ l) (sym (append-nil (headers_from 1 rows))) in
    let count : (file_header bytes).e_shnum ≡ suc (length rows) =
    has.shnum ∙ (let l = length-append t.sections (symtab_row (symtab_at e) (length t.symbols) (length t.sections + 2) t.locals ∷ (strings_row (codes ".strtab") (strtab_at e t) (length t.names) ∷ (strings_row (codes ".shstrtab") (shstrtab_at e t) (length t.titles) ∷ []))) in omega (arith, l)) in
    ap (λ o. entries section_header 64 bytes o (file_header bytes).e_shnum) has.shoff
    ∙ (ap (λ n. entries section_header 64 bytes (headers_at e t) n) count
    ∙ table_is section_header 64 (λ r. r.title) (λ at r. section_header_bytes (header_at at r)) header_at (λ r. FitsSectionHeader r.header) header_spelling
    (section_header_bytes null_section) null_section (length-section_header_bytes null_section)
    (section_header_written null_section (section_header_bytes null_section) refl fits_null) bytes [] (headers_at e t) rows fit e1)

-- a list with the offsets of names, in two parts
length_named : {A B : Type 0} (name : A → List ℕ) (entry : ℕ → A → B) (at : ℕ) (xs : List A) → length (named_from name entry at xs) ≡ length xs
length_named name entry at [] = refl
length_named name entry at (x ∷ xs) = ap suc (length_named name entry (at + (length (name x) + 1)) xs)

abbrev names_end : {A : Type 0} → (A → List ℕ) → ℕ → List A → ℕ
names_end name at [] = at
names_end name at (x ∷ xs) = names_end name (at + (length (name x) + 1)) xs

named_both :
    {A B : Type 0} (name : A → List ℕ) (entry : ℕ → A → B) (at : ℕ) (xs ys : List A) →
    named_from name entry at (xs ++ ys) ≡ named_from name entry at xs ++ named_from name entry (names_end name at xs) ys
named_both name entry at [] ys = refl
named_both name entry at (x ∷ xs) ys = ap (λ l. entry at x ∷ l) (named_both name entry (at + (length (name x) + 1)) xs ys)

abbrev pub is_symtab : SectionHeader → Bool
is_symtab s = s.sh_type == SHT_SYMTAB

find_behind :
    (at : ℕ) (rs : List HeaderRow) (back : List SectionHeader) → All (λ r. is_symtab r.header ≡ false) rs →
    find is_symtab (named_headers at rs ++ back) ≡ find is_symtab back
find_behind at [] back none = refl
find_behind at (r ∷ rs) back none =
    ap (λ b. cond b (Some (header_at at r)) (find is_symtab (named_headers (at + (length r.title + 1)) rs ++ back))) (All-head (λ r. is_symtab r.header ≡ false) r rs none)
    ∙ find_behind (at + (length r.title + 1)) rs back (All-tail (λ r. is_symtab r.header ≡ false) r rs none)

-- the three tables among the sections
pub record Three (bytes : List ℕ) (e : ℕ) (t : Tables) : Type 0 where
  pub at : ℕ
  pub table : symbol_table (sections bytes) ≡ header_at at (symtab_row (symtab_at e) (length t.symbols) (length t.sections + 2) t.locals)
  pub strings : section (sections bytes) (length t.sections + 2) ≡ header_at (at + 8) (strings_row (codes ".strtab") (strtab_at e t) (length t.names))
  pub names : section (sections bytes) (length t.sections + 3) ≡ header_at (at + 8 + 8) (strings_row (codes ".shstrtab") (shstrtab_at e t) (length t.titles))

pub three :
    (bytes : List ℕ) (e : ℕ) (t : Tables) → HasTables bytes e t → All (λ r. FitsSectionHeader r.header) (header_rows e t) →
    All (λ r. is_symtab r.header ≡ false) t.sections → Three bytes e t
three bytes e t has fit none =
    let x = symtab_row (symtab_at e) (length t.symbols) (length t.sections + 2) t.locals in
    let y = strings_row (codes ".strtab") (strtab_at e t) (length t.names) in
    let z = strings_row (codes ".shstrtab") (shstrtab_at e t) (length t.titles) in
    let front : List SectionHeader = named_headers 1 t.sections in
    let at : ℕ = names_end (λ r. r.title) 1 t.sections in
    let back : List SectionHeader = header_at at x ∷ (header_at (at + 8) y ∷ (header_at (at + 8 + 8) z ∷ [])) in
    let all : sections bytes ≡ null_section ∷ (front ++ back) =
    sections_are bytes e t has fit ∙ ap (λ l. null_section ∷ l) (named_both (λ r. r.title) header_at 1 t.sections (x ∷ (y ∷ (z ∷ [])))) in
    let long : length front ≡ length t.sections = length_named (λ r. r.title) header_at 1 t.sections in
    let here : (k : ℕ) → section (sections bytes) (length t.sections + (1 + k)) ≡ get_or back k null_section = λ k.
    let move : length t.sections + (1 + k) ≡ suc (length front + k) = omega (arith, long) in
    ap (λ ss. section ss (length t.sections + (1 + k))) all
    ∙ (ap (λ n. section (null_section ∷ (front ++ back)) n) move ∙ get_or-append-add front back k null_section) in
    record {
      at = at;
      table = ap symbol_table all ∙ ap (λ o. unwrap_or o null_section) (find_behind 1 t.sections back none);
      strings = here 1;
      names = here 2;
    }

-- the names of sections
pub record AreTitled (e : ℕ) (t : Tables) : Type 0 where
  pub titles_are : t.titles ≡ titles t.sections
  pub texts : All (λ r. IsText r.title) (header_rows e t)
  pub small : length t.titles < 2 ^ 32

titles_all : (e : ℕ) (t : Tables) → titles t.sections ≡ 0 ∷ flat_map (λ r. ended r.title) (header_rows e t)
titles_all e t =
    ap (λ l. 0 ∷ l) (sym (flat_map-append (λ r. ended r.title) t.sections (symtab_row (symtab_at e) (length t.symbols) (length t.sections + 2) t.locals ∷ (strings_row (codes ".strtab") (strtab_at e t) (length t.names) ∷ (strings_row (codes ".shstrtab") (shstrtab_at e t) (length t.titles) ∷ [])))))

-- names in a table of strings, of which the first is empty
strings_are :
    {A B : Type 0} (name : A → List ℕ) (entry : ℕ → A → B) (offset : B → ℕ) (null : B) → offset null ≡ 0 →
    ((at : ℕ) (x : A) → at < 2 ^ 32 → offset (entry at x) ≡ at) → (bytes : List ℕ) (xs : List A) → bytes ≡ 0 ∷ flat_map (λ x. ended (name x)) xs →
    All (λ x. IsText (name x)) xs → length bytes < 2 ^ 32 → map (λ b. text bytes (offset b)) (null ∷ named_from name entry 1 xs) ≡ [] ∷ map name xs
strings_are {A} {B} name entry offset null zero_at is bytes xs e texts small =
    let long : length bytes ≡ suc (length (flat_map (λ x. ended (name x)) xs)) = ap length e in
    let first : text bytes (offset null) ≡ [] = ap (text bytes) zero_at ∙ ap (λ l. text l 0) e in
    ap (λ h. h ∷ map (λ b. text bytes (offset b)) (named_from name entry 1 xs)) first
    ∙ ap (λ l. [] ∷ l) (names_from name entry offset is bytes 1 xs texts (ap (drop 1) e) (omega (arith, long, small)))

low_is : (n : ℕ) → n < 2 ^ 32 → n % 2 ^ 32 ≡ n
low_is n small = omega (arith, small)

pub section_names_are :
    (bytes : List ℕ) (e : ℕ) (t : Tables) → HasTables bytes e t → All (λ r. FitsSectionHeader r.header) (header_rows e t) →
    All (λ r. is_symtab r.header ≡ false) t.sections → AreTitled e t → map (name_of_section bytes) (sections bytes) ≡ [] ∷ map (λ r. r.title) (header_rows e t)
section_names_are bytes e t has fit none titled =
    let q = three bytes e t has fit none in
    let strings : section_strings bytes ≡ t.titles =
    ap (λ k. contents bytes (section (sections bytes) k)) has.shstrndx
    ∙ (ap (contents bytes) q.names
    ∙ part_is bytes t.titles (replicate (headers_at e t - shstrtab_end e t) 0 ++ headers (header_rows e t)) (shstrtab_at e t) (length t.titles) (places bytes e t has).titles_are refl) in
    ap (map (name_of_section bytes)) (sections_are bytes e t has fit)
    ∙ (ap (λ l. map (λ (s : SectionHeader). text l s.sh_name) (null_section ∷ named_headers 1 (header_rows e t))) strings
    ∙ strings_are (λ r. r.title) header_at (λ s. s.sh_name) null_section refl (λ at r small. low_is at small) t.titles (header_rows e t) (titled.titles_are ∙ titles_all e t)
    titled.texts titled.small)

-- the symbols, and their names
pub record AreSymbols (t : Tables) (rows : List Row) : Type 0 where
  pub symbols_are : t.symbols ≡ symtab rows
  pub names_are : t.names ≡ strtab rows
  pub fit : All (λ r. FitsSymbol r.entry) rows
  pub texts : All (λ r. IsText r.name) rows
  pub small : length t.names < 2 ^ 32

pub symbols_are :
    (bytes : List ℕ) (e : ℕ) (t : Tables) (rows : List Row) → HasTables bytes e t → All (λ r. FitsSectionHeader r.header) (header_rows e t) →
    All (λ r. is_symtab r.header ≡ false) t.sections → AreSymbols t rows → symbols bytes ≡ null_symbol ∷ named_symbols 1 rows
symbols_are bytes e t rows has fit none are =
    let q = three bytes e t has fit none in
    let rest = t.names ++ (t.titles ++ (replicate (headers_at e t - shstrtab_end e t) 0 ++ headers (header_rows e t))) in
    let there : drop (symtab_at e) bytes ≡ symbol_bytes null_symbol ++ (entries_from 1 rows ++ rest) =
    (places bytes e t has).symbols
    ∙ (ap (λ l. l ++ rest) are.symbols_are ∙ append_assoc (symbol_bytes null_symbol) (entries_from 1 rows) rest) in
    let size : length t.symbols ≡ 24 * suc (length rows) =
    ap length are.symbols_are
    ∙ (length-append (symbol_bytes null_symbol) (entries_from 1 rows)
    ∙ (let a = length-symbol_bytes null_symbol in
    let b = length_spelled symbol 24 (λ r. r.name) (λ at r. symbol_bytes (entry_at at r)) entry_at (λ r. FitsSymbol r.entry) entry_spelling 1 rows in
    omega (arith, a, b))) in
    let count : length t.symbols / 24 ≡ suc (length rows) = omega (arith, size) in
    ap (λ (s : SectionHeader). entries symbol 24 bytes s.sh_offset (s.sh_size / 24)) q.table
    ∙ (ap (λ n. entries symbol 24 bytes (symtab_at e) n) count
    ∙ table_is symbol 24 (λ r. r.name) (λ at r. symbol_bytes (entry_at at r)) entry_at (λ r. FitsSymbol r.entry) entry_spelling (symbol_bytes null_symbol) null_symbol
    (length-symbol_bytes null_symbol) (symbol_written null_symbol (symbol_bytes null_symbol) refl fits_null_symbol) bytes rest (symtab_at e) rows are.fit there)

pub symbol_names_are :
    (bytes : List ℕ) (e : ℕ) (t : Tables) (rows : List Row) → HasTables bytes e t → All (λ r. FitsSectionHeader r.header) (header_rows e t) →
    All (λ r. is_symtab r.header ≡ false) t.sections → IsSmall t → AreSymbols t rows → map (name_of_symbol bytes) (symbols bytes) ≡ [] ∷ map (λ r. r.name) rows
symbol_names_are bytes e t rows has fit none small are =
    let q = three bytes e t has fit none in
    let rest = t.titles ++ (replicate (headers_at e t - shstrtab_end e t) 0 ++ headers (header_rows e t)) in
    let link : (length t.sections + 2) ≡ (symbol_table (sections bytes)).sh_link = ap (λ (s : SectionHeader). s.sh_link) (sym q.table) in
    let strings : symbol_strings bytes ≡ t.names =
    ap (λ k. contents bytes (section (sections bytes) k)) (sym link)
    ∙ (ap (contents bytes) q.strings ∙ part_is bytes t.names rest (strtab_at e t) (length t.names) (places bytes e t has).names refl) in
    ap (map (name_of_symbol bytes)) (symbols_are bytes e t rows has fit none are)
    ∙ (ap (λ l. map (λ (s : code.Symbol). text l s.st_name) (null_symbol ∷ named_symbols 1 rows)) strings
    ∙ strings_are (λ r. r.name) entry_at (λ (s : code.Symbol). s.st_name) null_symbol refl (λ at r small. low_is at small) t.names rows are.names_are are.texts are.small)

abbrev pub unnamed_header : HeaderRow → HeaderRow
unnamed_header r = record { title = r.title; header = record r.header { sh_name = 0 } }

abbrev pub unnamed_row : Row → Row
unnamed_row r = record { name = r.name; entry = record r.entry { st_name = 0 } }

pub headers_read :
    (bytes : List ℕ) (e : ℕ) (t : Tables) → HasTables bytes e t → All (λ r. FitsSectionHeader r.header) (header_rows e t) →
    All (λ r. is_symtab r.header ≡ false) t.sections → AreTitled e t → map (read_header bytes) (sections bytes) ≡ null_header ∷ map unnamed_header (header_rows e t)
headers_read bytes e t has fit none titled =
    zipped (λ (n : List ℕ) (h : SectionHeader). record { title = n; header = h }) (name_of_section bytes) (λ (h : SectionHeader). record h { sh_name = 0 }) (λ r. r.title)
    (λ (r : HeaderRow). record r.header { sh_name = 0 }) (sections bytes) (null_header ∷ header_rows e t) (section_names_are bytes e t has fit none titled)
    (ap (map (λ (h : SectionHeader). record h { sh_name = 0 })) (sections_are bytes e t has fit)
    ∙ ap (λ l. null_section ∷ l)
    (seen_from (λ r. r.title) header_at (λ (h : SectionHeader). record h { sh_name = 0 }) (λ (r : HeaderRow). record r.header { sh_name = 0 }) (λ at r. refl) 1 (header_rows e t)))

pub symbols_read :
    (bytes : List ℕ) (e : ℕ) (t : Tables) (rows : List Row) → HasTables bytes e t → All (λ r. FitsSectionHeader r.header) (header_rows e t) →
    All (λ r. is_symtab r.header ≡ false) t.sections → IsSmall t → AreSymbols t rows → map (read_symbol bytes) (symbols bytes) ≡ null_row ∷ map unnamed_row rows
symbols_read bytes e t rows has fit none small are =
    zipped (λ (n : List ℕ) (s : code.Symbol). record { name = n; entry = s }) (name_of_symbol bytes) (λ (s : code.Symbol). record s { st_name = 0 }) (λ r. r.name)
    (λ (r : Row). record r.entry { st_name = 0 }) (symbols bytes) (null_row ∷ rows) (symbol_names_are bytes e t rows has fit none small are)
    (ap (map (λ (s : code.Symbol). record s { st_name = 0 })) (symbols_are bytes e t rows has fit none are)
    ∙ ap (λ l. null_symbol ∷ l)
    (seen_from (λ r. r.name) entry_at (λ (s : code.Symbol). record s { st_name = 0 }) (λ (r : Row). record r.entry { st_name = 0 }) (λ at r. refl) 1 rows))
