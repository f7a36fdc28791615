use Rattle.std.proofs.Common.{◌≡◌, ◌∷◌, [], ap, map, sym, ◌∙◌}
use Rattle.std.proofs.lemmas.Result.{err_from_is_err_and}
use Rattle.elf_model.specs.Link.Relocation.{relocation_of}
use Rattle.search.proofs.KeptWalks.{entry_first}
use Rattle.search.specs.KeptLists.{relocations_by}
use Rattle.got_tls.specs.Asking.{with_relocations}
use Rattle.got_tls.specs.AskedViews.{wants}
use Rattle.got_tls.proofs.AskedOnce.{objects_kept, taken}
use Rattle.relocate.specs.SymbolTables.{all_of, referring}
use Rattle.relocate.proofs.Judged.{exit_fails, fail_first, leaves_all, leaves_fail, leaves_none, leaves_one}
use Rattle.relocate.proofs.FieldRuns.{run_taken}
use Rattle.relocate.specs.Fields.{run_after, run_with}
use Rattle.relocate.proofs.lawful_relocations.judge_section.Goals as goal

pub loop-entry-init : goal.loop-entry-init
loop-entry-init c =
    let r = c.args.referrer.now in
    let f = relocation_of r.number (referring r) c.args.rela.target in
    let told : map f c.into_iter-entry-iterator.result ≡ relocations_by r.number (referring r) c.args.rela =
    ap (map f) c.into_iter-entry-iterator.ensures.into_iter_gives ∙ c.kept_entries-entry-items.ensures r.number in
    record {
      run = ap (run_after c.args.run.now) told;
      asked = ap (with_relocations (all_of r) (wants c.args.asked.now)) told;
      leaves = leaves_all (all_of r) _ _ told;
    }

pub returns-in_err-field-clause-fault : goal.returns-in_err-field-clause-fault
returns-in_err-field-clause-fault c =
    let r = c.args.referrer.now in
    let parts = entry_first r.number (referring r) c.args.rela.target c.relocated-target.result.number c.in-Some.entry _ _ c.relocated-target.ensures.number c.in-Some.ensures.steps in
    let exit = c.from_residual in
    let e = c.in_err-field.field-0.0 in
    exit_fails _ _ exit.result e (err_from_is_err_and exit.result exit.ensures.1)
    (leaves_fail _ _ _ (_ ∷ []) _ e parts (fail_first _ _ [] e c.in_err-field.ensures.fault) c.loop-entry.invariant.leaves)

pub loop-entry-preserved : goal.loop-entry-preserved
loop-entry-preserved c =
    let r = c.args.referrer.now in
    let parts = entry_first r.number (referring r) c.args.rela.target c.relocated-target.result.number c.in-Some.entry _ _ c.relocated-target.ensures.number c.in-Some.ensures.steps in
    record {
      run =
          run_taken c.loop-entry.run _ _ (_ ∷ []) _ _
          (c.with.ensures ∙ ap (run_with c.loop-entry.run) c.in_ok-field.ensures.field) parts c.loop-entry.invariant.run;
      asked =
          taken (all_of r) (wants c.loop-entry.asked) (wants c.note_request.new.asked) _ (_ ∷ []) _ _ c.in_ok-note_request.ensures parts
          c.loop-entry.invariant.asked;
      leaves = leaves_one _ _ _ _ _ parts c.in_ok-field.ensures.lawful c.loop-entry.invariant.leaves;
    }

pub note_request-requires-clause-same : goal.note_request-requires-clause-same
note_request-requires-clause-same c =
    let r = c.args.referrer.now in
    objects_kept (all_of r) (wants c.loop-entry.asked) (wants c.args.asked.now)
    (map (relocation_of r.number (referring r) c.args.rela.target) c.loop-entry.entry-iterator) (relocations_by r.number (referring r) c.args.rela)
    c.loop-entry.invariant.asked
    ∙ c.requires.same

pub returns-clause-run : goal.returns-clause-run
returns-clause-run c =
    let r = c.args.referrer.now in
    sym (ap (run_after c.loop-entry.run) (ap (map (relocation_of r.number (referring r) c.args.rela.target)) c.in-None.ensures.steps.0)) ∙ c.loop-entry.invariant.run

pub returns-clause-asked : goal.returns-clause-asked
returns-clause-asked c =
    let r = c.args.referrer.now in
    sym (ap (with_relocations (all_of r) (wants c.loop-entry.asked)) (ap (map (relocation_of r.number (referring r) c.args.rela.target)) c.in-None.ensures.steps.0))
    ∙ c.loop-entry.invariant.asked

pub returns-clause-lawful : goal.returns-clause-lawful
returns-clause-lawful c =
    let r = c.args.referrer.now in
    leaves_none (all_of r) _ _ (ap (map (relocation_of r.number (referring r) c.args.rela.target)) c.in-None.ensures.steps.0) c.loop-entry.invariant.leaves
