use Rattle.std.proofs.Common.{◌≡◌, ◌-◌, ◌++◌, List, ℕ, ap, refl}
use Rattle.std.specs.Prelude.{replicate}
use Rattle.std.specs.List.{flat_map}
use Rattle.elf_model.specs.Inputs.Records.{section_header_bytes}
use Rattle.elf_model.specs.Image.SymbolTable as table
use Rattle.elf_model.specs.declared.records.SectionHeader.{SectionHeader}
use Rattle.image_write.specs.Tables.{IsTableOf, entered_of, headers_place, listed_of, objects_of, section_names_end, symbols_place, table_headers_of, where_of}
use Rattle.image_write.specs.declared.symbol_table.SymbolTable.{SymbolTable}
use Rattle.image_write.specs.declared.tables.Names.{Names}
use Rattle.image_write.proofs.StreamSteps.{towards_fault, towards_last, towards_more, towards_nothing}
use Rattle.image_write.proofs.Tabled.{tables_parts}
use Rattle.image_write.proofs.tables.put_tables.Goals as goal

-- what is put, with the numbers that the code makes
parts_of :
    (n : Names) (t : SymbolTable) → IsTableOf (objects_of n) t.start (listed_of n) t →
    (at back end : ℕ) (hs : List SectionHeader) → at ≡ symbols_place t → back ≡ headers_place t → end ≡ section_names_end t → hs ≡ table_headers_of t →
    table.tables (where_of n) t.start (entered_of n)
    ≡ replicate (at - t.start) 0
    ++ ((table.symbol_section (where_of n) (entered_of n) ++ table.name_section (entered_of n))
    ++ (table.section_names ++ (replicate (back - end) 0 ++ flat_map section_header_bytes hs)))
parts_of n t is at back end hs is_at is_back is_end is_hs =
    tables_parts (where_of n) (objects_of n) (listed_of n) t is (at - t.start) (back - end) table.section_names hs
    (ap (λ (x : ℕ). x - t.start) is_at) refl (λ i. is_back i - is_end i) is_hs

pub returns-in_err-put_run : goal.returns-in_err-put_run
returns-in_err-put_run g c =
    let n = c.args.names.now in
    let t = c.args.symbols.now in
    towards_fault _ _ _ _ _ _ _ _ (towards_nothing _ _)
    (parts_of n t c.requires.table c.symbols.result _ _ _ c.symbols.ensures refl refl refl)
    c.from_residual.ensures.0 c.in_err-put_run.ensures.breaks

pub returns-in_err-put_symbols : goal.returns-in_err-put_symbols
returns-in_err-put_symbols g c =
    let n = c.args.names.now in
    let t = c.args.symbols.now in
    towards_fault _ _ _ _ _ _ _ _
    (towards_more _ _ _ _ _ _ _ (towards_nothing _ _)
    (parts_of n t c.requires.table c.symbols.result _ _ _ c.symbols.ensures refl refl refl)
    c.in_ok-put_run.ensures.grows)
    refl c.from_residual-in_err-put_symbols.ensures.0 c.in_err-put_symbols.ensures.breaks

pub returns-in_err-put : goal.returns-in_err-put
returns-in_err-put g c =
    let n = c.args.names.now in
    let t = c.args.symbols.now in
    towards_fault _ _ _ _ _ _ _ _
    (towards_more _ _ _ _ _ _ _
    (towards_more _ _ _ _ _ _ _ (towards_nothing _ _)
    (parts_of n t c.requires.table c.symbols.result _ _ _ c.symbols.ensures refl refl refl)
    c.in_ok-put_run.ensures.grows)
    refl c.in_ok-put_symbols.ensures.grows)
    refl c.from_residual-in_err-put.ensures.0 c.in_err-put.ensures.breaks

pub returns-in_err-put_run-2 : goal.returns-in_err-put_run-2
returns-in_err-put_run-2 g c =
    let n = c.args.names.now in
    let t = c.args.symbols.now in
    towards_fault _ _ _ _ _ _ _ _
    (towards_more _ _ _ _ _ _ _
    (towards_more _ _ _ _ _ _ _
    (towards_more _ _ _ _ _ _ _ (towards_nothing _ _)
    (parts_of n t c.requires.table c.symbols.result c.headers.result c.section_names_end.result _ c.symbols.ensures c.headers.ensures c.section_names_end.ensures refl)
    c.in_ok-put_run.ensures.grows)
    refl c.in_ok-put_symbols.ensures.grows)
    refl c.in_ok-put.ensures.grows)
    refl c.from_residual-in_err-put_run-2.ensures.0 c.in_err-put_run-2.ensures.breaks

pub returns : goal.returns
returns g c =
    let n = c.args.names.now in
    let t = c.args.symbols.now in
    towards_last _ _ _ _ _ _
    (towards_more _ _ _ _ _ _ _
    (towards_more _ _ _ _ _ _ _
    (towards_more _ _ _ _ _ _ _
    (towards_more _ _ _ _ _ _ _ (towards_nothing _ _)
    (parts_of n t c.requires.table c.symbols.result c.headers.result c.section_names_end.result c.section_headers.result c.symbols.ensures c.headers.ensures c.section_names_end.ensures c.section_headers.ensures)
    c.in_ok-put_run.ensures.grows)
    refl c.in_ok-put_symbols.ensures.grows)
    refl c.in_ok-put.ensures.grows)
    refl c.in_ok-put_run-2.ensures.grows)
    c.put_headers.ensures
