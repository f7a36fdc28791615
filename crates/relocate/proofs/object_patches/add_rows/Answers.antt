use Rattle.std.proofs.Common.{◌≡◌, ◌<◌, ◌≤◌, ℕ, List, ap, arith, drop, get_or, length, refl, subst, take}
use Rattle.std.specs.Prelude.{slice_range}
use Rattle.std.proofs.lemmas.List.{take_all}
use Rattle.std.proofs.lemmas.List.Elements.{All-drop, All-take}
use Rattle.std.proofs.lemmas.Option.{get_or_from_slice_get, slice_get-get_or}
use Rattle.std.proofs.lemmas.Result.{err_from_is_err_and}
use Rattle.elf_model.specs.Link.Relocation.{Relocation}
use Rattle.relocate.proofs.Fitted.{exit_fitting, fit_all, fit_none, fit_part, fitting_fails, patchable_part}
use Rattle.search.proofs.KeptWalks.{relas_end}
use Rattle.relocate.proofs.RelaOrders.{row_done, row_left}
use Rattle.relocate.proofs.RowSteps.{no_rows}
use Rattle.search.specs.KeptLists.{IsKeptRela, relocations_of_relas}
use Rattle.relocate.specs.RelaOrders.{target_of}
use Rattle.relocate.specs.ObjectRows.{HasRows}
use Rattle.relocate.specs.SymbolTables.{all_valued, valued_object, where_of}
use Rattle.search.specs.declared.kept_lists.KeptRela.{KeptRela}
use Rattle.relocate.proofs.object_patches.add_rows.Goals as goal

no_rela : KeptRela
no_rela = record { target = 0; number = 0 }

pub rows-init : goal.rows-init
rows-init c = record {
  rows = no_rows (all_valued c.args.valued.now) (where_of c.args.valued.now) c.args.rows.now c.requires.none c.requires.nowhere;
  later = λ k d from low. let none = ap (λ (xs : List ℕ). length xs) c.requires.nowhere in omega (arith, none);
  leaves = fit_all (all_valued c.args.valued.now) (where_of c.args.valued.now) _ _ refl c.requires.patchable;
}

pub add_row-requires-clause-kept : goal.add_row-requires-clause-kept
add_row-requires-clause-kept c = All-take (IsKeptRela (valued_object c.args.valued.now)) _ _ (All-drop (IsKeptRela (valued_object c.args.valued.now)) _ _ c.requires.kept)

pub add_row-requires-clause-patchable : goal.add_row-requires-clause-patchable
add_row-requires-clause-patchable c =
    let ks = c.args.relas.now in
    let n = c.args.valued.now.number in
    let o = valued_object c.args.valued.now in
    let from = c.rows.from in
    let end = c.row_end-end.result in
    let some = c.row_end-end.ensures.some in
    patchable_part (all_valued c.args.valued.now) (where_of c.args.valued.now) (relocations_of_relas n o ks) (relocations_of_relas n o (drop from ks)) (relocations_of_relas n o (slice_range ks from end))
    (relocations_of_relas n o (drop end ks)) (row_left n o ks from end (omega (arith, some))) c.rows.invariant.leaves

pub returns-in_err-add_row-clause-fault : goal.returns-in_err-add_row-clause-fault
returns-in_err-add_row-clause-fault c =
    let ks = c.args.relas.now in
    let n = c.args.valued.now.number in
    let o = valued_object c.args.valued.now in
    let from = c.rows.from in
    let end = c.row_end-end.result in
    let some = c.row_end-end.ensures.some in
    let e = c.in_err-add_row.field-0.0 in
    exit_fitting (all_valued c.args.valued.now) (where_of c.args.valued.now) (relocations_of_relas n o ks) c.from_residual.result e
    (err_from_is_err_and c.from_residual.result c.from_residual.ensures.1)
    (fitting_fails (all_valued c.args.valued.now) (where_of c.args.valued.now) (relocations_of_relas n o ks) (relocations_of_relas n o (drop from ks)) (relocations_of_relas n o (slice_range ks from end))
    (relocations_of_relas n o (drop end ks)) e (row_left n o ks from end (omega (arith, some))) c.rows.invariant.leaves c.in_err-add_row.ensures.fault)

pub rows-preserved : goal.rows-preserved
unfolding no_rela
rows-preserved c =
    let ks = c.args.relas.now in
    let n = c.args.valued.now.number in
    let o = valued_object c.args.valued.now in
    let from = c.rows.from in
    let end = c.row_end-end.result in
    let some = c.row_end-end.ensures.some in
    record {
      rows =
          subst (λ (rs : List Relocation). HasRows (all_valued c.args.valued.now) (where_of c.args.valued.now) rs c.add_row.new.rows) (row_done n o ks from end (omega (arith, some)) c.row_end-end.ensures.within)
          (c.in_ok-add_row.ensures.rows (relocations_of_relas n o (take from ks)) c.rows.invariant.rows);
      later = λ k d high low.
          let begins = c.in_ok-add_row.ensures.begins in
          let rise : target_of (get_or ks from d) ≤ target_of (get_or ks end d) = c.requires.rises from end d (omega (arith, some)) (omega (arith, high, low)) in
          let next : target_of (get_or ks end d) ≤ target_of (get_or ks k d) = c.requires.rises end k d high low in
          let other = c.row_end-end.ensures.other d (omega (arith, high, low)) in
          let low_from : from < length ks = omega (arith, some, high, low) in
          let same : target_of (get_or ks from d) ≡ target_of (get_or ks from no_rela) = ap target_of (get_or_from_slice_get ks from (get_or ks from no_rela) d (slice_get-get_or ks from no_rela low_from)) in
          omega (arith, begins, rise, next, other, same);
      leaves =
          fit_part (all_valued c.args.valued.now) (where_of c.args.valued.now) (relocations_of_relas n o ks) (relocations_of_relas n o (drop from ks)) (relocations_of_relas n o (slice_range ks from end))
          (relocations_of_relas n o (drop end ks)) (row_left n o ks from end (omega (arith, some))) c.in_ok-add_row.ensures.fit c.rows.invariant.leaves;
    }

pub returns-clause-rows : goal.returns-clause-rows
returns-clause-rows c =
    let ks = c.args.relas.now in
    let past = c.rows-test.false in
    subst (λ (xs : List KeptRela). HasRows (all_valued c.args.valued.now) (where_of c.args.valued.now) (relocations_of_relas c.args.valued.now.number (valued_object c.args.valued.now) xs) c.rows.rows) (take_all c.rows.from ks (omega (arith, past)))
    c.rows.invariant.rows

pub returns-clause-fit : goal.returns-clause-fit
returns-clause-fit c =
    let ks = c.args.relas.now in
    let past = c.rows-test.false in
    fit_none (all_valued c.args.valued.now) (where_of c.args.valued.now) _ _ (relas_end c.args.valued.now.number (valued_object c.args.valued.now) ks c.rows.from (omega (arith, past))) c.rows.invariant.leaves
