use Rattle.std.proofs.lemmas.Result.{err_from_is_err_and}
use Rattle.elf_model.specs.Link.Relocation.{relocations_from}
use Rattle.elf_model.specs.Link.RelocationValues.{Fits}
use Rattle.search.specs.KeptLists.{relocations_of_relas}
use Rattle.relocate.proofs.Fitted.{exit_fitting, fitting_moved}
use Rattle.relocate.proofs.RelaOrders.{all_from_ordered, all_ordered, ordered_kept, patches_ordered}
use Rattle.relocate.proofs.RowSteps.{all_rows}
use Rattle.relocate.specs.SymbolTables.{all_valued, valued_object, where_of}
use Rattle.relocate.specs.Values.{IsPatchable}
use Rattle.relocate.proofs.object_patches.rows_of.Goals as goal

pub add_rows-requires-clause-kept : goal.add_rows-requires-clause-kept
add_rows-requires-clause-kept c = ordered_kept c.args.valued.now.number (valued_object c.args.valued.now) c.args.relas.now c.requires.order

pub add_rows-requires-clause-patchable : goal.add_rows-requires-clause-patchable
add_rows-requires-clause-patchable c =
    all_ordered c.args.valued.now.number (valued_object c.args.valued.now) c.args.relas.now c.requires.order IsPatchable c.requires.patchable

pub returns-in_err-add_rows-clause-fault : goal.returns-in_err-add_rows-clause-fault
returns-in_err-add_rows-clause-fault c =
    let ks = c.args.relas.now in
    let n = c.args.valued.now.number in
    let o = valued_object c.args.valued.now in
    let L = all_valued c.args.valued.now in
    let w = where_of c.args.valued.now in
    let exit = c.from_residual-in_err-add_rows in
    let e = c.in_err-add_rows.field-0.0 in
    exit_fitting L w (relocations_from n o) exit.result e (err_from_is_err_and exit.result exit.ensures.1)
    (fitting_moved L w (relocations_of_relas n o ks) (relocations_from n o) e (all_ordered n o ks c.requires.order (Fits L w)) c.in_err-add_rows.ensures.fault)

pub returns-clause-rows : goal.returns-clause-rows
returns-clause-rows c =
    let ks = c.args.relas.now in
    let n = c.args.valued.now.number in
    let o = valued_object c.args.valued.now in
    let L = all_valued c.args.valued.now in
    let w = where_of c.args.valued.now in
    all_rows L w (relocations_from n o) (relocations_of_relas n o ks) c.add_rows.new.rows (λ s. patches_ordered L w n o s ks c.requires.order) c.in_ok-add_rows.ensures.rows

pub returns-clause-fit : goal.returns-clause-fit
returns-clause-fit c =
    all_from_ordered c.args.valued.now.number (valued_object c.args.valued.now) c.args.relas.now c.requires.order (Fits (all_valued c.args.valued.now) (where_of c.args.valued.now))
    c.in_ok-add_rows.ensures.fit
