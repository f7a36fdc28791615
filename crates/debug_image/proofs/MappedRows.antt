-- The headers with the flag ALLOC, of all that are told, are those of the sections of the image.
use Rattle.std.proofs.Common.{◌≡◌, ℕ, Bool, bit_and, nat_eq, true, false, List, [], ◌∷◌, ◌++◌, ◌+◌, length, map, refl, ◌∙◌, ap}
use Rattle.std.specs.Prelude.{All, codes, cond, not}
use Rattle.std.proofs.lemmas.List.{append-nil, map-append}
use Rattle.std.proofs.lemmas.List.Elements.{All-cons, All-nil, filter-append}
use Rattle.elf_model.specs.Link.Pieces.{is_alloc}
use Rattle.elf_model.specs.declared.records.SectionHeader.{SectionHeader}
use Rattle.elf_model.proofs.Finding.{filter-all, filter-none}
use Rattle.debug_image.specs.DebugSections.{Joined, holds_strings, joined_rows, row_of, start_of}
use Rattle.debug_image.specs.MappedSections.{in_memory}
use Rattle.debug_image.specs.Sections.{Section, header_of, section_rows}
use Rattle.debug_image.specs.Tables.{HeaderRow, Tables, header_rows, row_headers, shstrtab_at, strings_row, strtab_at, symtab_at, symtab_row}

sections_are : (base count : ℕ) (ss : List Section) → row_headers (section_rows base count ss) ≡ map (header_of base) ss
sections_are base count [] = refl
sections_are base count (s ∷ ss) = ap (λ (hs : List SectionHeader). header_of base s ∷ hs) (sections_are base count ss)

flags_bare : (b : Bool) → not (nat_eq (bit_and (cond b 48 0) 2) 0) ≡ false
flags_bare true = refl
flags_bare false = refl

joined_bare : (y : ℕ) (js : List Joined) → All (λ h. is_alloc h ≡ false) (row_headers (joined_rows y js))
joined_bare y [] = All-nil (λ h. is_alloc h ≡ false)
joined_bare y (j ∷ js) =
    All-cons (λ h. is_alloc h ≡ false) (row_of (start_of y j) j).header (row_headers (joined_rows (start_of y j + j.end) js)) (flags_bare (holds_strings j))
    (joined_bare (start_of y j + j.end) js)

pub mapped_rows :
    (base count end x : ℕ) (ss : List Section) (js : List Joined) (t : Tables) → t.sections ≡ section_rows base count ss ++ joined_rows end js →
    All (λ h. is_alloc h ≡ true) (map (header_of base) ss) → in_memory (row_headers (header_rows x t)) ≡ map (header_of base) ss
mapped_rows base count end x ss js t is alloc =
    let behind : List HeaderRow =
    symtab_row (symtab_at x) (length t.symbols) (length t.sections + 2) t.locals
    ∷ (strings_row (codes ".strtab") (strtab_at x t) (length t.names)
    ∷ (strings_row (codes ".shstrtab") (shstrtab_at x t) (length t.titles) ∷ [])) in
    let sections : List HeaderRow = section_rows base count ss in
    let joined : List HeaderRow = joined_rows end js in
    ap (λ (rs : List HeaderRow). in_memory (row_headers (rs ++ behind))) is
    ∙ (ap in_memory (map-append (λ (r : HeaderRow). r.header) (sections ++ joined) behind)
    ∙ (filter-append is_alloc (row_headers (sections ++ joined)) (row_headers behind)
    ∙ (append-nil (in_memory (row_headers (sections ++ joined)))
    ∙ (ap in_memory (map-append (λ (r : HeaderRow). r.header) sections joined)
    ∙ (filter-append is_alloc (row_headers sections) (row_headers joined)
    ∙ (ap (λ (hs : List SectionHeader). in_memory (row_headers sections) ++ hs) (filter-none is_alloc (row_headers joined) (joined_bare end js))
    ∙ (append-nil (in_memory (row_headers sections))
    ∙ (ap in_memory (sections_are base count ss) ∙ filter-all is_alloc (map (header_of base) ss) alloc))))))))
