use Rattle.std.proofs.Common.{◌+◌, drop, get_or}
use Rattle.std.proofs.lemmas.Result.{err_from_is_err_and}
use Rattle.elf_model.proofs.Mapped.{append_mapped}
use Rattle.relocate.proofs.Fitted.{exit_fitting, fit_part, fitting_fails, patchable_part}
use Rattle.search.proofs.KeptWalks.{relas_more}
use Rattle.search.specs.KeptLists.{relocations_by, relocations_of_relas}
use Rattle.relocate.specs.SymbolTables.{all_valued, valued_object, where_of}
use Rattle.relocate.specs.Values.{patch_of}
use Rattle.search.specs.declared.kept_lists.KeptRela.{KeptRela}
use Rattle.relocate.proofs.object_patches.add_sections.Goals as goal

no_rela : KeptRela
no_rela = record { target = 0; number = 0 }

pub add_section-requires-clause-patchable : goal.add_section-requires-clause-patchable
unfolding no_rela
add_section-requires-clause-patchable c =
    let n = c.args.valued.now.number in
    let o = valued_object c.args.valued.now in
    let ks = c.args.relas.now in
    let i = c.loop-rela.rela-index in
    patchable_part (all_valued c.args.valued.now) (where_of c.args.valued.now) (relocations_of_relas n o ks) (relocations_of_relas n o (drop i ks))
    (relocations_by n o (get_or ks i no_rela)) (relocations_of_relas n o (drop (i + 1) ks))
    (relas_more n o ks i no_rela c.loop-rela-test.true) c.loop-rela.invariant.leaves

pub returns-in_err-add_section-clause-fault : goal.returns-in_err-add_section-clause-fault
unfolding no_rela
returns-in_err-add_section-clause-fault c =
    let n = c.args.valued.now.number in
    let o = valued_object c.args.valued.now in
    let ks = c.args.relas.now in
    let i = c.loop-rela.rela-index in
    let e = c.in_err-add_section.field-0.0 in
    exit_fitting (all_valued c.args.valued.now) (where_of c.args.valued.now) (relocations_of_relas n o ks) c.from_residual.result e
    (err_from_is_err_and c.from_residual.result c.from_residual.ensures.1)
    (fitting_fails (all_valued c.args.valued.now) (where_of c.args.valued.now) (relocations_of_relas n o ks) (relocations_of_relas n o (drop i ks))
    (relocations_by n o (get_or ks i no_rela)) (relocations_of_relas n o (drop (i + 1) ks)) e
    (relas_more n o ks i no_rela c.loop-rela-test.true) c.loop-rela.invariant.leaves c.in_err-add_section.ensures.fault)

pub loop-rela-preserved : goal.loop-rela-preserved
unfolding no_rela
loop-rela-preserved c =
    let n = c.args.valued.now.number in
    let o = valued_object c.args.valued.now in
    let ks = c.args.relas.now in
    let i = c.loop-rela.rela-index in
    let here = relocations_by n o (get_or ks i no_rela) in
    let more = relocations_of_relas n o (drop (i + 1) ks) in
    let parts = relas_more n o ks i no_rela c.loop-rela-test.true in
    record {
      patches =
          append_mapped (patch_of (all_valued c.args.valued.now) (where_of c.args.valued.now)) c.loop-rela.patches.items c.add_section.new.patches.items here
          (relocations_of_relas n o (drop i ks)) more _ c.in_ok-add_section.ensures.patches parts c.loop-rela.invariant.patches;
      leaves =
          fit_part (all_valued c.args.valued.now) (where_of c.args.valued.now) (relocations_of_relas n o ks) (relocations_of_relas n o (drop i ks)) here more parts
          c.in_ok-add_section.ensures.fit c.loop-rela.invariant.leaves;
    }
