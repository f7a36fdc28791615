use Rattle.std.proofs.Common.{subst, ◌<◌, ◌≤◌}
use Rattle.elf_model.specs.Inputs.ObjectFile.{null_symbol, symbols}
use Rattle.check_load.specs.Names.{requests_name}
use Rattle.check_load.proofs.NumberedNames.{count_more, kept_on, numbered_more}
use Rattle.check_load.proofs.NotedNames.{asked_all, asked_step, defined_all, defined_step}
use Rattle.check_load.proofs.names.note_object.Goals as goal

pub loop-j-preserved : goal.loop-j-preserved
loop-j-preserved c =
    let bytes = c.args.object.now in
    let items = c.symbols-symbols.result.now in
    let ss = symbols bytes in
    let told = c.in_ok-number.ensures in record {
      requested = λ n. asked_step bytes c.args.dropped.now items ss c.symbols-symbols.ensures c.loop-j.j null_symbol (subst (λ n. c.loop-j.j < n) c.len-j-end.ensures c.loop-j-test.true) n _ _ _ (rw c.at.ensures at told.requested n) (c.loop-j.invariant.requested n);
      defined = λ n. defined_step bytes c.args.dropped.now items ss c.symbols-symbols.ensures c.loop-j.j null_symbol (subst (λ n. c.loop-j.j < n) c.len-j-end.ensures c.loop-j-test.true) n _ _ _ (rw c.at.ensures at told.defined n) (c.loop-j.invariant.defined n);
      woken = told.woken (requests_name c.args.names.now) c.loop-j.invariant.woken;
      numbers = numbered_more c.args.object.now c.loop-j.j c.loop-j.names.names c.note_symbol.new.names.names c.loop-j.numbers c.push.new.self _ c.loop-j.invariant.numbers c.loop-j.invariant.count told.kept told.number c.in_ok-push.ensures;
      count = count_more _ c.loop-j.numbers c.push.new.self c.loop-j.j c.in_ok-push.ensures c.loop-j.invariant.count;
      kept = kept_on _ _ _ c.loop-j.invariant.kept told.kept;
      stays = λ i q there. told.stays i q (c.loop-j.invariant.stays i q there);
    }

pub returns-clause-requested : goal.returns-clause-requested
returns-clause-requested c = λ n.
    asked_all c.args.object.now c.args.dropped.now c.symbols-symbols.result.now (symbols c.args.object.now) c.loop-j.j n _ _ c.symbols-symbols.ensures (subst (λ n. n ≤ c.loop-j.j) c.len-j-end.ensures c.loop-j-test.false) (c.loop-j.invariant.requested n)

pub returns-clause-defined : goal.returns-clause-defined
returns-clause-defined c = λ n.
    defined_all c.args.object.now c.args.dropped.now c.symbols-symbols.result.now (symbols c.args.object.now) c.loop-j.j n _ _ c.symbols-symbols.ensures (subst (λ n. n ≤ c.loop-j.j) c.len-j-end.ensures c.loop-j-test.false) (c.loop-j.invariant.defined n)
