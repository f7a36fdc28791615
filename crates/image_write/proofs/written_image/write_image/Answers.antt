use Rattle.std.proofs.Common.{◌≡◌, ◌∙◌, ◌++◌, List, map, subst, sym}
use Rattle.std.specs.Prelude.{IfSome, Option}
use Rattle.std.proofs.lemmas.Result.{err_from_is_err_and}
use Rattle.elf_model.specs.Own.ImageFile.{own_end, own_entry}
use Rattle.elf_model.specs.Link.Meaning.{Meaning}
use Rattle.elf_model.specs.Own.OwnLayout.{own_where}
use Rattle.elf_model.specs.Link.Slots.{slots}
use Rattle.relocate.specs.Values.{slot_value_of}
use Rattle.resolve.specs.Views.{meaning_views}
use Rattle.image_write.specs.Linkages.{AreParts, Linked, loaded_of, own_image, tables_in}
use Rattle.image_write.specs.Listings.{in_order, table_in}
use Rattle.image_write.specs.Parts.{file_parts}
use Rattle.image_write.specs.Tables.{HasTable, IsInRange, fields_of}
use Rattle.image_write.specs.declared.symbol_table.SymbolTable.{SymbolTable}
use Rattle.image_write.specs.declared.linkage.Parts.{Parts}
use Rattle.image_write.proofs.StreamLaws.{breaks_are, breaks_between, breaks_on, breaks_then, grows_are, grows_between, grows_then}
use Rattle.image_write.proofs.Tabled.{range_of, whole_image}
use Rattle.image_write.proofs.Written.{part_fault, took_all}
use Rattle.image_write.proofs.written_image.write_image.Goals as goal

-- the image is what the parts of the file and the tables are
image_is :
    (l : Linked) (x : Parts) (o : Option SymbolTable) → AreParts (loaded_of l) x → meaning_views (in_order x.listed) ≡ l.listed → o ≡ table_in x.listed →
    file_parts x.placement.base x.placement.objects (fields_of x.entry o) ++ tables_in l ≡ own_image l
image_is l x o made listed table =
    (λ i. file_parts (made.placed i).base (made.placed i).objects (fields_of (sym made.entry i) o) ++ tables_in l)
    ∙ whole_image l.plan.base l.objects l.listed (own_entry l.plan.base l.objects l.plan.entry) l.plan.strip o
    (subst (λ (t : Option SymbolTable). HasTable l.objects (own_end l.plan.base l.objects) l.listed l.plan.strip t) (sym table)
    (subst (λ (ms : List Meaning). HasTable l.objects (own_end l.plan.base l.objects) ms l.plan.strip (table_in x.listed)) listed made.tabled))

pub write_file-requires-clause-contents : goal.write_file-requires-clause-contents
write_file-requires-clause-contents g c =
    let made = c.parts-parts.ensures.parts in
    let placed = sym made.placed in
    record {
      patches = made.patches ∙ placed;
      slots = c.deref.ensures.value
          ∙ (made.values ∙ (λ i. map (slot_value_of (placed i).objects (own_where (placed i).base (placed i).objects)) (slots (placed i).objects)));
    }

pub write_file-requires-clause-table : goal.write_file-requires-clause-table
write_file-requires-clause-table g c =
    let l = c.args.linkage.now in
    let x = c.parts-parts.result.now in
    subst (λ (o : Option SymbolTable). IfSome o IsInRange) (sym c.table.ensures)
    (range_of l.objects (own_end l.plan.base l.objects) (meaning_views (in_order x.listed)) l.plan.strip (table_in x.listed) c.parts-parts.ensures.parts.tabled)

pub returns-in_err-write_file-clause-fault : goal.returns-in_err-write_file-clause-fault
returns-in_err-write_file-clause-fault g c =
    let e = c.parts-parts.ensures in
    let b = breaks_are _ _ _ _ (image_is c.args.linkage.now c.parts-parts.result.now c.table.result e.parts e.listed c.table.ensures) (breaks_on _ _ _ (tables_in c.args.linkage.now) c.in_err-write_file.ensures.breaks) in
    part_fault _ _ _ _ (err_from_is_err_and c.from_residual-in_err-write_file.result c.from_residual-in_err-write_file.ensures.1) c.in_ok-buffer.ensures b

pub returns-in_err-write_tables-clause-fault : goal.returns-in_err-write_tables-clause-fault
returns-in_err-write_tables-clause-fault g c =
    let e = c.parts-parts.ensures in
    let b = breaks_are _ _ _ _ (image_is c.args.linkage.now c.parts-parts.result.now c.table.result e.parts e.listed c.table.ensures)
    (breaks_then _ _ _ _ _ c.in_ok-write_file.ensures.grows c.in_err-write_tables.ensures.breaks) in
    part_fault _ _ _ _ (err_from_is_err_and c.from_residual-in_err-write_tables.result c.from_residual-in_err-write_tables.ensures.1) c.in_ok-buffer.ensures b

pub returns-in_err-flush-clause-fault : goal.returns-in_err-flush-clause-fault
returns-in_err-flush-clause-fault g c =
    let e = c.parts-parts.ensures in
    let b = breaks_are _ _ _ _ (image_is c.args.linkage.now c.parts-parts.result.now c.table.result e.parts e.listed c.table.ensures)
    (breaks_between _ _ _ _ (grows_then _ _ _ _ _ c.in_ok-write_file.ensures.grows c.in_ok-write_tables.ensures.grows) c.in_err-flush.ensures.puts.breaks) in
    part_fault _ _ _ _ (err_from_is_err_and c.from_residual-in_err-flush.result c.from_residual-in_err-flush.ensures.1) c.in_ok-buffer.ensures b

pub returns-clause-written : goal.returns-clause-written
returns-clause-written g c =
    let e = c.parts-parts.ensures in
    took_all _ _ _ c.in_ok-buffer.ensures c.in_ok-flush.ensures.empty
    (grows_are _ _ _ _ (image_is c.args.linkage.now c.parts-parts.result.now c.table.result e.parts e.listed c.table.ensures)
    (grows_between _ _ _ _ (grows_then _ _ _ _ _ c.in_ok-write_file.ensures.grows c.in_ok-write_tables.ensures.grows) c.in_ok-flush.ensures.puts.grows))
