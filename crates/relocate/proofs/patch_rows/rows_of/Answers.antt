use Rattle.std.proofs.Common.{◌≡◌, ◌+◌, List, length, refl, subst, sym, ◌∙◌, arith}
use Rattle.std.specs.Prelude.{All, Some}
use Rattle.std.specs.List.{slice_get}
use Rattle.relocate.specs.SymbolTables.{AreChosenValues}
use Rattle.std.proofs.lemmas.List.{length-map}
use Rattle.std.proofs.lemmas.Result.{err_from_is_err_and}
use Rattle.elf_model.proofs.FlatRelocations.{left_of_objects}
use Rattle.elf_model.specs.Link.Loading.{LoadedObject}
use Rattle.elf_model.specs.Link.Pieces.{AreLawfulKinds}
use Rattle.elf_model.specs.Link.Relocation.{relocations, relocations_from}
use Rattle.elf_model.specs.Link.RelocationValues.{Fits}
use Rattle.search.specs.Views.{loaded_view, loaded_views}
use Rattle.relocate.proofs.ShortFields.{are_patchable}
use Rattle.relocate.proofs.Fitted.{fit_all, fit_part, fitting_fails, patchable_part}
use Rattle.got_tls.proofs.LoadedObjects.{next_relocations, next_there}
use Rattle.relocate.proofs.ObjectRows.{exit_values, no_rows, row_more, rows_all, values_fail}
use Rattle.relocate.specs.Values.{ArePatchRows, FittingFails, where_in}
use Rattle.relocate.proofs.patch_rows.rows_of.Goals as goal

pub loop-k-init : goal.loop-k-init
loop-k-init c =
    let L = loaded_views c.args.objects.now in
    let w = where_in c.args.placement.now in
    record {
      rows = no_rows L w c.in_ok-rows.rows.items c.in_ok-rows.ensures.items;
      leaves = fit_all L w (relocations L) (relocations L) refl (are_patchable L c.requires.objects c.requires.lawful);
    }

pub row_of-requires-clause-kinds : goal.row_of-requires-clause-kinds
row_of-requires-clause-kinds c = subst AreLawfulKinds (sym c.requires.placed) c.requires.kinds

pub row_of-requires-clause-chosen : goal.row_of-requires-clause-chosen
row_of-requires-clause-chosen c =
    subst (AreChosenValues c.args.resolved.now (where_in c.args.placement.now)) (sym c.deref.ensures.value) c.in_ok-chosen.ensures

pub row_of-requires-clause-here : goal.row_of-requires-clause-here
row_of-requires-clause-here c =
    let d = c.index-objects-k.result in
    subst (λ (os : List LoadedObject). slice_get os c.loop-k.k ≡ Some (loaded_view d)) (sym c.requires.resolved)
    (next_there c.args.objects.now c.loop-k.k d c.loop-k-test.true c.index-objects-k.is)

pub row_of-requires-clause-patchable : goal.row_of-requires-clause-patchable
row_of-requires-clause-patchable c =
    let xs = c.args.objects.now in
    let L = loaded_views xs in
    let k = c.loop-k.k in
    let d = c.index-objects-k.result in
    patchable_part L (where_in c.args.placement.now) (relocations L) (left_of_objects loaded_view xs k) (relocations_from k (loaded_view d))
    (left_of_objects loaded_view xs (k + 1)) (next_relocations xs k d c.loop-k-test.true c.index-objects-k.is) c.loop-k.invariant.leaves

pub returns-in_err-row-clause-fault : goal.returns-in_err-row-clause-fault
returns-in_err-row-clause-fault c =
    let b = c.args.placement.now in
    let w = where_in b in
    let xs = c.args.objects.now in
    let L = loaded_views xs in
    let k = c.loop-k.k in
    let d = c.index-objects-k.result in
    let here = relocations_from k (loaded_view d) in
    let exit = c.from_residual-in_err-row in
    let e = c.in_err-row.field-0.0 in
    exit_values b exit.result e (err_from_is_err_and exit.result exit.ensures.1)
    (values_fail b L e c.requires.placed
    (fitting_fails L w (relocations L) (left_of_objects loaded_view xs k) here (left_of_objects loaded_view xs (k + 1)) e
    (next_relocations xs k d c.loop-k-test.true c.index-objects-k.is) c.loop-k.invariant.leaves
    (subst (λ (os : List LoadedObject). FittingFails os w here e) c.requires.resolved c.in_err-row.ensures.fault)))

pub loop-k-preserved : goal.loop-k-preserved
loop-k-preserved c =
    let w = where_in c.args.placement.now in
    let xs = c.args.objects.now in
    let L = loaded_views xs in
    let k = c.loop-k.k in
    let d = c.index-objects-k.result in
    let o = loaded_view d in
    let here = relocations_from k o in
    record {
      rows =
          row_more L w k o c.loop-k.rows.items c.push.new.self.items c.in_ok-row.row c.in_ok-push.ensures.items
          (next_there xs k d c.loop-k-test.true c.index-objects-k.is)
          (subst (λ (os : List LoadedObject). ArePatchRows os w here c.in_ok-row.row) c.requires.resolved c.in_ok-row.ensures.rows)
          c.loop-k.invariant.rows;
      leaves =
          fit_part L w (relocations L) (left_of_objects loaded_view xs k) here (left_of_objects loaded_view xs (k + 1))
          (next_relocations xs k d c.loop-k-test.true c.index-objects-k.is)
          (subst (λ (os : List LoadedObject). All (Fits os w) here) c.requires.resolved c.in_ok-row.ensures.fit) c.loop-k.invariant.leaves;
    }

pub returns-clause-rows : goal.returns-clause-rows
returns-clause-rows c =
    let xs = c.args.objects.now in
    let low = c.loop-k.auto.k-end in
    let high = c.loop-k-test.false in
    let all : c.loop-k.k ≡ length xs = omega (arith, low, high) in
    rows_all c.args.placement.now (loaded_views xs) c.loop-k.k c.loop-k.rows.items c.requires.placed c.requires.lawful
    (all ∙ sym (length-map xs loaded_view)) c.loop-k.invariant.rows
