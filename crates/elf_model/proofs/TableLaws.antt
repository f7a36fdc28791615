-- The tables behind the last file part: how long they are, and whose entries they have.
use Rattle.std.proofs.Common.{◌≡◌, ℕ, ◌+◌, ◌-◌, ◌*◌, ◌%◌, List, [], ◌∷◌, ◌++◌, length, get_or, map, refl, sym, ◌∙◌, ap, arith, replicate}
use Rattle.std.specs.Prelude.{All, Some, filter}
use Rattle.std.specs.List.{flat_map}
use Rattle.std.proofs.lemmas.List.{length-append, length-replicate}
use Rattle.std.proofs.lemmas.List.Elements.{All-head, All-tail}
use Rattle.std.proofs.lemmas.Slice.Eq.{bytes_eq-Decides}
use Rattle.elf_model.specs.Link.Listing.{AreListed, has_meaning, listed}
use Rattle.elf_model.specs.Link.Loading.{LoadedObject}
use Rattle.elf_model.specs.Link.Meaning.{Meaning, meaning_name}
use Rattle.elf_model.specs.Link.Placement.{Where}
use Rattle.elf_model.specs.Inputs.Records.{section_header_bytes, symbol_bytes}
use Rattle.elf_model.specs.Image.RightLink.{symbol_row_of}
use Rattle.elf_model.specs.Inputs.ObjectFile.{null_symbol}
use Rattle.elf_model.specs.Image.SymbolTable.{entries_from, entry_count, has_entry, headers_at, line_meanings, name_section, section_names, shstrtab_end, symbol_section, symtab_at, tabled, table_headers, tables, tables_end}
use Rattle.elf_model.specs.declared.records.SectionHeader.{SectionHeader}
use Rattle.elf_model.specs.declared.records.Symbol.{Symbol}
use Rattle.elf_model.proofs.RecordLaws.{length-section_header_bytes, length-symbol_bytes}
use Rattle.elf_model.proofs.RisingNames.{all_found}
use Rattle.elf_model.proofs.Running.{rounded_up}

length-symbols : (ss : List Symbol) → length (flat_map symbol_bytes ss) ≡ 24 * length ss
length-symbols [] = omega arith
length-symbols (s ∷ ss) =
    length-append (symbol_bytes s) (flat_map symbol_bytes ss) ∙ omega (arith, length-symbol_bytes s, length-symbols ss)

pub length-headers : (hs : List SectionHeader) → length (flat_map section_header_bytes hs) ≡ 64 * length hs
length-headers [] = omega arith
length-headers (h ∷ hs) =
    length-append (section_header_bytes h) (flat_map section_header_bytes hs)
    ∙ omega (arith, length-section_header_bytes h, length-headers hs)

length-entries : (w : Where) (at : ℕ) (ms : List Meaning) → length (entries_from w at ms) ≡ length ms
length-entries w at [] = refl
length-entries w at (m ∷ ms) = let n = length-entries w (at + (length (meaning_name m) + 1)) ms in omega (arith, n)

pub length-symbol_section : (w : Where) (ms : List Meaning) → length (symbol_section w ms) ≡ 24 * entry_count ms
length-symbol_section w ms =
    length-symbols (null_symbol ∷ entries_from w 1 ms)
    ∙ (let n = length-entries w 1 ms in omega (arith, n))

-- behind the last file part follow as many bytes as lead to the end of the tables
pub length-tables : (w : Where) (e : ℕ) (ms : List Meaning) → e + length (tables w e ms) ≡ tables_end e ms
length-tables w e ms =
    let front : ℕ = symtab_at e - e in
    let pad : ℕ = headers_at e ms - shstrtab_end e ms in
    let headers : List ℕ = flat_map section_header_bytes (table_headers e ms) in
    let last : List ℕ = replicate pad 0 ++ headers in
    let a = length-append (replicate {A = ℕ} front 0) (symbol_section w ms ++ (name_section ms ++ (section_names ++ last))) in
    let b = length-append (symbol_section w ms) (name_section ms ++ (section_names ++ last)) in
    let c = length-append (name_section ms) (section_names ++ last) in
    let d = length-append section_names last in
    let f = length-append (replicate {A = ℕ} pad 0) headers in
    let s = length-symbol_section w ms in
    let h = length-headers (table_headers e ms) in
    let r = length-replicate {A = ℕ} front 0 in
    let p = length-replicate {A = ℕ} pad 0 in
    let up = (rounded_up 8 e (omega arith)).0 in
    let down = (rounded_up 8 (shstrtab_end e ms) (omega arith)).0 in
    omega (arith, a, b, c, d, f, s, h, r, p, up, down)

-- what stands at a multiple of 8
pub headers_at-multiple : (e : ℕ) (ms : List Meaning) → headers_at e ms % 8 ≡ 0
headers_at-multiple e ms = (rounded_up 8 (shstrtab_end e ms) (omega arith)).2

-- lines of definitions that are listed mean these definitions
found_again :
    (objects : List LoadedObject) (w : Where) (ms : List Meaning) → All (λ m. listed objects (meaning_name m) ≡ Some m) ms →
    line_meanings objects (map (symbol_row_of w) ms) ≡ ms
found_again objects w [] each = refl
found_again objects w (m ∷ ms) each =
    let here = All-head (λ (n : Meaning). listed objects (meaning_name n) ≡ Some n) m ms each in
    let rest = found_again objects w ms (All-tail (λ (n : Meaning). listed objects (meaning_name n) ≡ Some n) m ms each) in
    rw here (ap (λ (ns : List Meaning). m ∷ ns) rest)

-- a list that has what each name means has each of its elements as what its own name means
pub listed_again :
    (objects : List LoadedObject) (ms : List Meaning) → AreListed objects ms → All (λ m. listed objects (meaning_name m) ≡ Some m) ms
listed_again objects ms are k d within =
    let m : Meaning = get_or ms k d in
    sym (are.found (meaning_name m))
    ∙ all_found (has_meaning (meaning_name m)) ms (are.once (meaning_name m)) k d within ((bytes_eq-Decides (meaning_name m) (meaning_name m)).1 refl)

-- and so the lines of all of them mean them
pub lines_mean :
    (objects : List LoadedObject) (w : Where) (ms : List Meaning) → AreListed objects ms → line_meanings objects (map (symbol_row_of w) ms) ≡ ms
lines_mean objects w ms are = found_again objects w ms (listed_again objects ms are)

-- the definitions in a table are those that are listed, but for those in thread-local storage
pub tabled_again :
    (objects : List LoadedObject) (w : Where) (ms : List Meaning) → AreListed objects ms →
    tabled objects (map (symbol_row_of w) ms) ≡ filter (has_entry objects) ms
tabled_again objects w ms are = ap (filter (has_entry objects)) (lines_mean objects w ms are)
