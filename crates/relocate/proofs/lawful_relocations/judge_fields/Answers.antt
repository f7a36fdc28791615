use Rattle.std.proofs.Common.{◌≡◌, ◌+◌, ap, drop, get_or, sym, ◌∙◌}
use Rattle.std.proofs.lemmas.Result.{err_from_is_err_and}
use Rattle.elf_model.specs.Link.Relocation.{relocations_from}
use Rattle.search.proofs.KeptWalks.{no_rela, relas_more}
use Rattle.search.specs.KeptLists.{relocations_by, relocations_of_relas}
use Rattle.got_tls.specs.Asking.{with_relocations}
use Rattle.got_tls.specs.AskedViews.{wants}
use Rattle.got_tls.proofs.AskedOnce.{objects_kept, taken}
use Rattle.relocate.specs.Fields.{run_after}
use Rattle.relocate.proofs.FieldRuns.{run_taken}
use Rattle.relocate.specs.SymbolTables.{all_of, referring}
use Rattle.relocate.proofs.Judged.{exit_fails, leaves_all, leaves_fail, leaves_part}
use Rattle.relocate.proofs.lawful_relocations.judge_fields.Goals as goal

pub loop-rela-init : goal.loop-rela-init
loop-rela-init c =
    let L = all_of c.args.referrer.now in
    let n = c.args.referrer.now.number in
    let o = referring c.args.referrer.now in
    let ks = c.kept_relas-relas.result.now in
    let same : relocations_of_relas n o ks ≡ relocations_from n o = sym (c.kept_relas-relas.ensures.relocations n) in
    record {
      run = ap (run_after c.args.run.now) same;
      asked = ap (with_relocations L (wants c.args.asked.now)) same;
      leaves = leaves_all L (relocations_from n o) (relocations_of_relas n o ks) same;
    }

pub returns-in_err-judge_section-clause-fault : goal.returns-in_err-judge_section-clause-fault
returns-in_err-judge_section-clause-fault c =
    let L = all_of c.args.referrer.now in
    let n = c.args.referrer.now.number in
    let o = referring c.args.referrer.now in
    let ks = c.kept_relas-relas.result.now in
    let i = c.loop-rela.rela-index in
    let e = c.in_err-judge_section.field-0.0 in
    exit_fails L (relocations_from n o) c.from_residual.result e (err_from_is_err_and c.from_residual.result c.from_residual.ensures.1)
    (leaves_fail L (relocations_from n o) (relocations_of_relas n o (drop i ks)) (relocations_by n o (get_or ks i no_rela)) (relocations_of_relas n o (drop (i + 1) ks)) e
    (relas_more n o ks i no_rela c.loop-rela-test.true) c.in_err-judge_section.ensures.fault c.loop-rela.invariant.leaves)

pub loop-rela-preserved : goal.loop-rela-preserved
loop-rela-preserved c =
    let L = all_of c.args.referrer.now in
    let n = c.args.referrer.now.number in
    let o = referring c.args.referrer.now in
    let ks = c.kept_relas-relas.result.now in
    let i = c.loop-rela.rela-index in
    let here = relocations_by n o (get_or ks i no_rela) in
    let left = relocations_of_relas n o (drop i ks) in
    let more = relocations_of_relas n o (drop (i + 1) ks) in
    let parts = relas_more n o ks i no_rela c.loop-rela-test.true in
    record {
      run =
          run_taken c.loop-rela.run c.judge_section.new.run (run_after c.args.run.now (relocations_from n o)) here more left
          c.in_ok-judge_section.ensures.run parts c.loop-rela.invariant.run;
      asked =
          taken L (wants c.loop-rela.asked) (wants c.judge_section.new.asked) (with_relocations L (wants c.args.asked.now) (relocations_from n o)) here more left
          c.in_ok-judge_section.ensures.asked parts c.loop-rela.invariant.asked;
      leaves = leaves_part L (relocations_from n o) left here more parts c.in_ok-judge_section.ensures.lawful c.loop-rela.invariant.leaves;
    }

pub judge_section-requires-clause-same : goal.judge_section-requires-clause-same
judge_section-requires-clause-same c =
    let r = c.args.referrer.now in
    objects_kept (all_of r) (wants c.loop-rela.asked) (wants c.args.asked.now)
    (relocations_of_relas r.number (referring r) (drop c.loop-rela.rela-index c.kept_relas-relas.result.now)) (relocations_from r.number (referring r)) c.loop-rela.invariant.asked
    ∙ c.requires.same
